-- What the writes of an element leave, one after another.
use Rattle.std.proofs.Common.{◌≡◌, ◌≢◌, ℕ, ◌+◌, ◌<◌, ◌≤◌, Bool, true, false, cond, List, length, refl, ap, ◌∙◌, arith}
use Rattle.std.specs.Prelude.{ℤ}
use Rattle.ladder_tree.specs.Names.{is_output}
use Rattle.ladder_meaning.specs.Device.{Went}
use Rattle.ladder_meaning.specs.Persist.{with_loaded}
use Rattle.ladder_meaning.specs.State.{Now, with_bit, with_number, with_memory, with_master, place_of}
use Rattle.int_code.specs.Store as store
use Rattle.int_code.specs.Store.{Devices, Store, with, with_devices}
use Rattle.int_code.specs.declared.op.BitDest.TheVariants as dest
use Rattle.ladder_lower.specs.Wires.{dest_by, dest_of, variable_of, memory_bit, flag_bit, wire, power, master, masters, spare, outer_wires}
use Rattle.ladder_lower.specs.declared.layout.Layout.{Layout}
use Rattle.ladder_lower.proofs.PlaceLemmas.{place_below}
use Rattle.ladder_lower.proofs.Stands.{Stands, IsHeld, held, devices_of}
use Rattle.ladder_lower.proofs.WriteLemmas.{besides, wire_write, master_write, memory_write, flag_write, name_write, number_write, devices_write, same, other}

-- the later store shows what an element did, and the wires of PARALLELs stay
pub record Wrote (p : Layout) (t l : Store) (w : Went) : Type 0 where
  pub shows : Stands p w.now l
  pub power : l.bit (power p) ≡ w.output
  pub wires : (j : ℕ) → outer_wires p ≤ j → l.bit (wire p j) ≡ t.bit (wire p j)

pub nothing_wrote : {p : Layout} (s : Now) (t : Store) (x : Bool) → t.bit (power p) ≡ x → Stands p s t → Wrote p t t (record { now = s; output = x })
nothing_wrote s t x is sh = record { shows = sh; power = is; wires = λ j lo. refl }

pub power_wrote : {p : Layout} {t l : Store} {w : Went} (v : Bool) → Wrote p t l w
    → Wrote p t (with l (dest.B (power p)) v) (record { now = w.now; output = v })
power_wrote {p = p} {l = l} {w = w} v f = record {
  shows = wire_write p w.now l 0 v (λ h e. cc) f.shows;
  power = same (power p) v _;
  wires = λ j lo. other (power p) (wire p j) v _ (omega arith) ∙ f.wires j lo;
}

pub number_wrote : {p : Layout} {t l : Store} {w : Went} (name : List ℕ) (n : ℤ) → held p.variables name ≡ true → Wrote p t l w
    → Wrote p t (store.with_number l (variable_of p name) n) (record { now = with_number w.now name n; output = w.output })
number_wrote {p = p} {l = l} {w = w} name n h f = record { shows = number_write p w.now l name n h f.shows; power = f.power; wires = f.wires }

pub memory_wrote : {p : Layout} {t l : Store} {w : Went} (k : ℕ) (v : Bool) → k < p.memories → Wrote p t l w
    → Wrote p t (with l (dest.B (memory_bit p k)) v) (record { now = with_memory w.now k v; output = w.output })
memory_wrote {p = p} {l = l} {w = w} k v lt f = record {
  shows = memory_write p w.now l k v lt f.shows;
  power = other (memory_bit p k) (power p) v _ (omega arith) ∙ f.power;
  wires = λ j lo. other (memory_bit p k) (wire p j) v _ (omega arith) ∙ f.wires j lo;
}

pub flag_wrote : {p : Layout} {t l : Store} {w : Went} (name : List ℕ) → held p.persistent name ≡ true → Wrote p t l w
    → Wrote p t (with l (dest.B (flag_bit p name)) true) (record { now = with_loaded w.now name; output = w.output })
flag_wrote {p = p} {l = l} {w = w} name h f =
    let below = place_below p.persistent name h in
    record {
      shows = flag_write p w.now l name h f.shows;
      power = other (flag_bit p name) (power p) true _ (omega (arith, below)) ∙ f.power;
      wires = λ j lo. other (flag_bit p name) (wire p j) true _ (omega (arith, below)) ∙ f.wires j lo;
    }

-- the spare wire is not the master relay's
spare_apart : (p : Layout) → p.has_master ≡ true → 1 + masters p ≢ 1
spare_apart p h = let one : masters p ≡ 1 = ap (λ b. cond b 1 0) h in λ e. omega arith

-- there is a spare wire where there are memories or start flags
pub spare_wrote : {p : Layout} {t l : Store} {w : Went} (v : Bool) → 0 < p.memories + length p.persistent → Wrote p t l w
    → Wrote p t (with l (dest.B (spare p)) v) w
spare_wrote {p = p} {l = l} {w = w} v some f = record {
  shows = wire_write p w.now l (1 + masters p) v (spare_apart p) f.shows;
  power = other (spare p) (power p) v _ (omega arith) ∙ f.power;
  wires = λ j lo. other (spare p) (wire p j) v _ (omega arith) ∙ f.wires j lo;
}

pub master_wrote : {p : Layout} {t l : Store} {w : Went} (v : Bool) → p.has_master ≡ true → Wrote p t l w
    → Wrote p t (with l (dest.B (master p)) v) (record { now = with_master w.now v; output = w.output })
master_wrote {p = p} {l = l} {w = w} v has f =
    let one : masters p ≡ 1 = ap (λ b. cond b 1 0) has in
    record {
      shows = master_write p w.now l v has f.shows;
      power = other (master p) (power p) v _ (omega arith) ∙ f.power;
      wires = λ j lo. other (master p) (wire p j) v _ (omega arith) ∙ f.wires j lo;
    }

name_wire_by : (p : Layout) (t : Store) (name : List ℕ) (v y : Bool) (j : ℕ) → is_output name ≡ y → IsHeld p name
    → (with t (dest_by y p name) v).bit (wire p j) ≡ t.bit (wire p j)
name_wire_by p t name v true j e h = refl
name_wire_by p t name v false j e h = other (place_of p.relays name) (wire p j) v _ (let lt = place_below p.relays name (rw e at h) in omega (arith, lt))

-- a named bit is no wire
name_wire : (p : Layout) (t : Store) (name : List ℕ) (v : Bool) (j : ℕ) → IsHeld p name → (with t (dest_of p name) v).bit (wire p j) ≡ t.bit (wire p j)
name_wire p t name v j h = name_wire_by p t name v (is_output name) j refl h

pub name_wrote : {p : Layout} {t l : Store} {w : Went} (name : List ℕ) (v : Bool) → IsHeld p name → Wrote p t l w
    → Wrote p t (with l (dest_of p name) v) (record { now = with_bit w.now name v; output = w.output })
name_wrote {p = p} {l = l} {w = w} name v h f = record {
  shows = name_write p w.now l name v h f.shows;
  power = name_wire p l name v 0 h ∙ f.power;
  wires = λ j lo. name_wire p l name v j h ∙ f.wires j lo;
}

pub devices_wrote : {p : Layout} {t l : Store} {w : Went} (s : Now) (ds : Devices) → ds ≡ devices_of s → besides w.now ≡ besides s → Wrote p t l w
    → Wrote p t (with_devices l ds) (record { now = s; output = w.output })
devices_wrote {p = p} {l = l} {w = w} s ds e is f = record { shows = rw e (devices_write p w.now s l is f.shows); power = f.power; wires = f.wires }

pub output_is : {p : Layout} {t l : Store} {w : Went} (x : Bool) → w.output ≡ x → Wrote p t l w → Wrote p t l (record { now = w.now; output = x })
output_is x e f = record { shows = f.shows; power = f.power ∙ e; wires = f.wires }
