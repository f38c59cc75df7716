-- When the words in a chip's flash carry a project.
use Rattle.std.specs.Prelude.{◌≡◌, ◌≢◌, ℕ, zero, suc, ◌+◌, ◌*◌, ◌≤◌, List, [], ◌++◌, map, slice_get, slice_index, Bool, Some}
use Rattle.std.specs.List.{AllByRecursion}
use Rattle.chip_tables.specs.declared.outside.PinReading.{PinReading}
use Rattle.runs.specs.Chip.{steps_over}
use Rattle.runs.specs.Run.{Moment, moment, first_moment, onward, IsStuck, ask_of}
use Rattle.runs.specs.declared.ask.Ask.TheVariants as ask
use Rattle.ladder_tree.specs.Names.{names_of}
use Rattle.ladder_tree.specs.declared.project.Project.{Project}
use Rattle.ladder_meaning.specs.Cycle.{Ended, start, history}
use Rattle.ladder_meaning.specs.State.{Seen, State, seen}
use Rattle.mem_plan.specs.Seen.{pins_seen}
use Rattle.chip_meaning.specs.Chip.{Chip, Resets}
use Rattle.chip_meaning.specs.Shows.{Shows}

-- one list is the beginning of another
abbrev pub IsFrontOf : List ℕ → List ℕ → Type 0
IsFrontOf front whole = (rest : List ℕ) × (whole ≡ front ++ rest)

-- how the ladder's cycle of this number ends; cycle 0 is the start, which sends nothing
abbrev pub IsEnd : Project → State → List Seen → ℕ → Ended → Type 0
IsEnd p s rs zero e = e ≡ record { state = s; sent = [] }
IsEnd p s rs (suc k) e = slice_get (history p s rs) k ≡ Some e

-- the cycles that pass before the first reading is taken, and behind each
abbrev pub most_in : ℕ → ℕ → ℕ → ℕ
most_in zero cycles boot = boot
most_in (suc k) cycles boot = cycles

-- what the project's ladder sees of readings at the chip's pins
abbrev pub all_seen : Project → List PinReading → List Seen
all_seen p readings = map (λ r. seen (names_of p.rungs) (pins_seen p (names_of p.rungs) r)) readings

-- the chip asks for the next reading: it shows how the cycle ends, and sent the cycle's bytes
pub record IsReady {M : Type 0} (chip : Chip M) (p : Project) (c : Moment M) (e : Ended) : Type 0 where
  pub shows : Shows p (chip.view c.state) e.state
  pub sent : c.sent ≡ e.sent

-- At this moment of a run there is a next step, no more cycles passed since the last reading was taken than may, but for those of answers that are not
-- ready, and the bytes that were sent since are the first ones of the ladder's cycle. Where the chip asks for the next reading, the cycle is done.
pub record Holds {M : Type 0} (chip : Chip M) (flash : List ℕ) (p : Project) (eeprom : ℕ → ℕ) (readings : List PinReading) (cycles boot : ℕ)
    (c : Moment M) : Type 0 where
  pub goes_on : onward (steps_over chip.step flash) c ≢ IsStuck
  pub cost : c.cost ≤ most_in c.taken cycles boot + chip.wait * c.waits
  pub end : Ended
  pub ends : IsEnd p (start p eeprom) (all_seen p readings) c.taken end
  pub sent : IsFrontOf c.sent end.sent
  pub ready : ask_of (steps_over chip.step flash) c.state ≡ ask.Reading → IsReady chip p c end

-- The words carry the project: whatever stands behind them in flash, whatever the chip's RAM, registers and EEPROM hold at reset, and whatever readings
-- and answers come, all of the above holds at each moment. `cycles` is what passes at most from a reading that is taken to the next, and `boot` what
-- passes before the first.
abbrev pub Carries : {M : Type 0} → Chip M → Resets M → Project → List ℕ → ℕ → ℕ → Type 0
Carries {M} chip resets p words cycles boot =
    (rest : List ℕ) (m : M) (eeprom : List ℕ) (readings : List PinReading) (answers : List Bool) → resets eeprom m →
    AllByRecursion chip.reads readings → (n : ℕ) (c : Moment M) →
    moment (steps_over chip.step (words ++ rest)) n (first_moment m readings answers) ≡ Some c →
    Holds chip (words ++ rest) p (slice_index eeprom) readings cycles boot c
