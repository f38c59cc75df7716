-- A part's operations do what the part does.
use Rattle.std.specs.Prelude.{slice_index_or}
use Rattle.std.proofs.Common.{◌≡◌, ℕ, ◌+◌, ◌<◌, ◌≤◌, true, false, pos}
use Rattle.ladder_meaning.specs.Device.{Went}
use Rattle.ladder_meaning.specs.Element.{Terms}
use Rattle.ladder_meaning.specs.Node.{Part}
use Rattle.ladder_meaning.specs.State.{Seen, Now, place_of}
use Rattle.ladder_meaning.specs.declared.reading.Reading.{Reading}
use Rattle.int_code.specs.Meaning.{Moment, all_run, run}
use Rattle.ladder_lower.specs.NodeCode.{Piece}
use Rattle.ladder_lower.specs.Wires.{outer_wires, wires, power, wire}
use Rattle.ladder_lower.specs.declared.layout.Layout.{Layout}
use Rattle.ladder_lower.proofs.Stands.{Stands}

-- what a ladder sees, with the levels and numbers of a reading
abbrev pub levels : Layout → Seen → Reading → Seen
levels p g r = record g {
  level = λ name. slice_index_or r.inputs (place_of p.inputs name) false;
  analog = λ name. slice_index_or r.analog (place_of p.analog name) (pos 0);
}

-- what elements need of their project
abbrev pub terms_of : Layout → Terms
terms_of p = record { cycle = p.cycle; persistent = p.persistent }

-- the later moment shows what the part did, and the wires of the d outer PARALLELs stay
pub record After (p : Layout) (d : ℕ) (m l : Moment) (w : Went) : Type 0 where
  pub ifs : l.ifs ≡ m.ifs
  pub shows : Stands p w.now l.store
  pub power : l.store.bit (power p) ≡ w.output
  pub wires : (j : ℕ) → outer_wires p ≤ j → j < wires p d → l.store.bit (wire p j) ≡ m.store.bit (wire p j)

pub record Lowers (p : Layout) (r : Reading) (a : Part) (c : Piece) : Type 0 where
  pub memories : c.memories ≡ a.memories
  -- in a branch that does not run, nothing is done
  pub asleep : (d k : ℕ) (m : Moment) → all_run m.ifs ≡ false → run r (c.code d k) m ≡ m
  pub awake : (d k : ℕ) (m : Moment) (s : Now) → k + a.memories ≤ p.memories → all_run m.ifs ≡ true → Stands p s m.store
      → After p d m (run r (c.code d k) m) (a.run k s (m.store.bit (power p)))
