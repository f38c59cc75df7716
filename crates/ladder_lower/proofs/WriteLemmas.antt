-- What a write to one bit, one number or the devices leaves.
use Rattle.std.proofs.Common.{◌≡◌, ◌≢◌, ℕ, ◌+◌, ◌<◌, Bool, true, false, cond, nat_eq, List, length, refl, sym, ap, ◌∙◌, arith}
use Rattle.std.proofs.lemmas.Bool.Decides.{nat_tests}
use Rattle.std.specs.Prelude.{ℤ}
use Rattle.std.specs.Str.{bytes_eq}
use Rattle.ladder_tree.specs.Names.{is_output}
use Rattle.ladder_meaning.specs.Persist.{with_loaded}
use Rattle.ladder_meaning.specs.State.{Now, with_bit, with_number, with_memory, with_master, place_of}
use Rattle.int_code.specs.Store as store
use Rattle.int_code.specs.Store.{Store, with, with_devices}
use Rattle.int_code.specs.declared.op.BitDest.TheVariants as dest
use Rattle.ladder_lower.specs.Wires.{dest_by, dest_of, variable_of, memory_bit, flag_bit, wire, master}
use Rattle.ladder_lower.specs.declared.layout.Layout.{Layout}
use Rattle.ladder_lower.proofs.PlaceLemmas.{place_apart, place_below, bytes_tells}
use Rattle.ladder_lower.proofs.Stands.{Stands, IsHeld, held, devices_of}

pub other : (i j : ℕ) (v x : Bool) → i ≢ j → cond (nat_eq i j) v x ≡ x
other i j v x ne = grind (arith, nat_tests)

pub same : (i : ℕ) (v x : Bool) → cond (nat_eq i i) v x ≡ v
same i v x = grind (arith, nat_tests)

both : {A : Type 0} (a b : Bool) (v x y : A) → a ≡ b → x ≡ y → cond a v x ≡ cond b v y
both a b v x y e f = cc

shifted : (a i j : ℕ) → nat_eq (a + i) (a + j) ≡ nat_eq i j
shifted a i j = grind (arith, nat_tests)

pub wire_write : (p : Layout) (s : Now) (t : Store) (j : ℕ) (v : Bool) → (p.has_master ≡ true → j ≢ 1) → Stands p s t
    → Stands p s (with t (dest.B (wire p j)) v)
wire_write p s t j v ne sh = record {
  relays = λ n y h. other (wire p j) (place_of p.relays n) v _ (let lt = place_below p.relays n h in omega (arith, lt)) ∙ sh.relays n y h;
  outputs = sh.outputs;
  memories = λ k lt. other (wire p j) (memory_bit p k) v _ (omega arith) ∙ sh.memories k lt;
  numbers = sh.numbers;
  loaded = λ n h. other (wire p j) (flag_bit p n) v _ (let lt = place_below p.persistent n h in omega (arith, lt)) ∙ sh.loaded n h;
  devices = sh.devices;
  master = λ h. other (wire p j) (master p) v _ (let n = ne h in omega arith) ∙ sh.master h;
  plain = sh.plain;
}

pub master_write : (p : Layout) (s : Now) (t : Store) (v : Bool) → p.has_master ≡ true → Stands p s t
    → Stands p (with_master s v) (with t (dest.B (master p)) v)
master_write p s t v has sh = record {
  relays = λ n y h. other (master p) (place_of p.relays n) v _ (let lt = place_below p.relays n h in omega (arith, lt)) ∙ sh.relays n y h;
  outputs = sh.outputs;
  memories = λ k lt. other (master p) (memory_bit p k) v _ (omega arith) ∙ sh.memories k lt;
  numbers = sh.numbers;
  loaded = λ n h. other (master p) (flag_bit p n) v _ (let lt = place_below p.persistent n h in omega (arith, lt)) ∙ sh.loaded n h;
  devices = sh.devices;
  master = λ h. same (master p) v _;
  plain = λ h. absurd (cc);
}

pub memory_write : (p : Layout) (s : Now) (t : Store) (k : ℕ) (v : Bool) → k < p.memories → Stands p s t
    → Stands p (with_memory s k v) (with t (dest.B (memory_bit p k)) v)
memory_write p s t k v within sh = record {
  relays = λ n y h. other (memory_bit p k) (place_of p.relays n) v _ (let lt = place_below p.relays n h in omega (arith, lt)) ∙ sh.relays n y h;
  outputs = sh.outputs;
  memories = λ j lt. both _ _ v _ _ (shifted (length p.relays) k j) (sh.memories j lt);
  numbers = sh.numbers;
  loaded = λ n h. other (memory_bit p k) (flag_bit p n) v _ (omega arith) ∙ sh.loaded n h;
  devices = sh.devices;
  master = λ h. other (memory_bit p k) (master p) v _ (omega arith) ∙ sh.master h;
  plain = sh.plain;
}

-- a persistent variable has its start flag
pub flag_write : (p : Layout) (s : Now) (t : Store) (name : List ℕ) → held p.persistent name ≡ true → Stands p s t
    → Stands p (with_loaded s name) (with t (dest.B (flag_bit p name)) true)
flag_write p s t name is sh =
    let below = place_below p.persistent name is in
    record {
      relays = λ n y h. other (flag_bit p name) (place_of p.relays n) true _ (let lt = place_below p.relays n h in omega (arith, lt)) ∙ sh.relays n y h;
      outputs = sh.outputs;
      memories = λ k lt. other (flag_bit p name) (memory_bit p k) true _ (omega arith) ∙ sh.memories k lt;
      numbers = sh.numbers;
      loaded = λ n h. both _ _ true _ _ (shifted (length p.relays) _ _ ∙ shifted p.memories _ _ ∙ place_apart p.persistent name n is) (sh.loaded n h);
      devices = sh.devices;
      master = λ h. other (flag_bit p name) (master p) true _ (omega (arith, below)) ∙ sh.master h;
      plain = sh.plain;
    }

apart_kinds : (a b : List ℕ) (y : Bool) → is_output a ≡ y → (is_output b ≡ y → ⊥) → bytes_eq a b ≡ false
apart_kinds a b y e ne = grind (arith, bytes_tells)

write_by : (p : Layout) (s : Now) (t : Store) (name : List ℕ) (v y : Bool) → is_output name ≡ y → IsHeld p name → Stands p s t
    → Stands p (with_bit s name v) (with t (dest_by y p name) v)
write_by p s t name v true e h sh = record {
  relays = λ n y k. sh.relays n y k ∙ sym (ap (λ b. cond b v (s.kept.bit n)) (apart_kinds name n true e (λ f. cc)));
  outputs = λ n y k. both _ _ v _ _ (place_apart p.outputs name n (rw e at h)) (sh.outputs n y k);
  memories = sh.memories;
  numbers = sh.numbers;
  loaded = sh.loaded;
  devices = sh.devices;
  master = sh.master;
  plain = sh.plain;
}
write_by p s t name v false e h sh =
    let below = place_below p.relays name (rw e at h) in
    record {
      relays = λ n y k. both _ _ v _ _ (place_apart p.relays name n (rw e at h)) (sh.relays n y k);
      outputs = λ n y k. sh.outputs n y k ∙ sym (ap (λ b. cond b v (s.kept.bit n)) (apart_kinds name n false e (λ f. cc)));
      memories = λ k lt. other (place_of p.relays name) (memory_bit p k) v _ (omega (arith, below)) ∙ sh.memories k lt;
      numbers = sh.numbers;
      loaded = λ n k. other (place_of p.relays name) (flag_bit p n) v _ (omega (arith, below)) ∙ sh.loaded n k;
      devices = sh.devices;
      master = λ b. other (place_of p.relays name) (master p) v _ (omega (arith, below)) ∙ sh.master b;
      plain = sh.plain;
    }

pub name_write : (p : Layout) (s : Now) (t : Store) (name : List ℕ) (v : Bool) → IsHeld p name → Stands p s t
    → Stands p (with_bit s name v) (with t (dest_of p name) v)
name_write p s t name v h sh = write_by p s t name v (is_output name) refl h sh

pub number_write : (p : Layout) (s : Now) (t : Store) (name : List ℕ) (n : ℤ) → held p.variables name ≡ true → Stands p s t
    → Stands p (with_number s name n) (store.with_number t (variable_of p name) n)
number_write p s t name n h sh = record {
  relays = sh.relays;
  outputs = sh.outputs;
  memories = sh.memories;
  numbers = λ m k. both _ _ n _ _ (place_apart p.variables name m h) (sh.numbers m k);
  loaded = sh.loaded;
  devices = sh.devices;
  master = sh.master;
  plain = sh.plain;
}

-- what a state has besides its devices
pub record Besides : Type 0 where
  pub bit : List ℕ → Bool
  pub number : List ℕ → ℤ
  pub memory : ℕ → Bool
  pub loaded : List ℕ → Bool
  pub master : Bool

abbrev pub besides : Now → Besides
besides s = record { bit = s.kept.bit; number = s.kept.number; memory = s.kept.memory; loaded = s.kept.loaded; master = s.master }

-- the devices become those of a state that is the same besides them
pub devices_write : (p : Layout) (s l : Now) (t : Store) → besides s ≡ besides l → Stands p s t → Stands p l (with_devices t (devices_of l))
devices_write p s l t is sh = record {
  relays = λ n y h. sh.relays n y h ∙ ap (λ (b : Besides). b.bit n) is;
  outputs = λ n y h. sh.outputs n y h ∙ ap (λ (b : Besides). b.bit n) is;
  memories = λ k lt. sh.memories k lt ∙ ap (λ (b : Besides). b.memory k) is;
  numbers = λ n h. sh.numbers n h ∙ ap (λ (b : Besides). b.number n) is;
  loaded = λ n h. sh.loaded n h ∙ ap (λ (b : Besides). b.loaded n) is;
  devices = refl;
  master = λ h. sh.master h ∙ ap (λ (b : Besides). b.master) is;
  plain = λ h. sym (ap (λ (b : Besides). b.master) is) ∙ sh.plain h;
}
