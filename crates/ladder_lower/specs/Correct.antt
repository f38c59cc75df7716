-- The main statement: the operations keep the ladder's history.
use Rattle.std.specs.Prelude.{◌≡◌, ℕ, ◌+◌, ◌<◌, List, [], ◌∷◌, length, map, slice_index_or}
use Rattle.ladder_tree.specs.declared.names.Names.{Names}
use Rattle.ladder_tree.specs.declared.project.Project.{Project}
use Rattle.ladder_meaning.specs.declared.reading.Reading.{Reading}
use Rattle.ladder_meaning.specs.State.{State, seen}
use Rattle.ladder_meaning.specs.Cycle.{Ended, history}
use Rattle.int_code.specs.declared.op.IntOp.{IntOp}
use Rattle.int_code.specs.Meaning.{Moment}
use Rattle.int_code.specs.Meaning as int
use Rattle.int_code.specs.Store.{Store}

-- A store shows a ladder's state: each output, relay and variable at its place in its list; each memory behind the relays,
-- and each start flag behind those; the EEPROM's bytes, the byte that waits, and the duty.
pub record Shows (n : Names) (s : State) (t : Store) : Type 0 where
  pub outputs : (k : ℕ) → k < length n.outputs → t.output k ≡ s.bit (slice_index_or n.outputs k [])
  pub relays : (k : ℕ) → k < length n.relays → t.bit k ≡ s.bit (slice_index_or n.relays k [])
  pub variables : (k : ℕ) → k < length n.variables → t.number k ≡ s.number (slice_index_or n.variables k [])
  pub memories : (k : ℕ) → k < n.memories → t.bit (length n.relays + k) ≡ s.memory k
  pub loaded : (k : ℕ) → k < length n.persistent → t.bit (length n.relays + (n.memories + k)) ≡ s.loaded (slice_index_or n.persistent k [])
  pub eeprom : t.devices.eeprom ≡ s.eeprom
  pub pending : t.devices.pending ≡ s.pending
  pub duty : t.devices.duty ≡ s.duty

-- at the end of a cycle the store shows the ladder's state, and the same bytes were sent
pub record ShowsEnd (n : Names) (e : Ended) (m : Moment) : Type 0 where
  pub shows : Shows n e.state m.store
  pub sent : m.store.devices.sent ≡ e.sent

-- the same at the end of each cycle
abbrev pub ShowsAll : Names → List Ended → List Moment → Type 0
ShowsAll n [] [] = Unit {0}
ShowsAll n (e ∷ es) (m ∷ ms) = ShowsEnd n e m × ShowsAll n es ms
ShowsAll n [] (m ∷ ms) = ⊥
ShowsAll n (e ∷ es) [] = ⊥

-- from any state that the store shows, on any readings
pub record KeepsHistory (n : Names) (p : Project) (ops : List IntOp) : Type 0 where
  pub each : (s : State) (t : Store) (rs : List Reading) → Shows n s t → ShowsAll n (history p s (map (seen n) rs)) (int.history ops t rs)
