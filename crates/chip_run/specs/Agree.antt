-- When a run shows what a ladder does.
use Rattle.std.specs.Prelude.{◌≡◌, ℕ, ◌+◌, ◌<◌, List, [], ◌∷◌, ◌++◌, length, slice_get, slice_index, Some}
use Rattle.std.specs.List.{AllByRecursion}
use Rattle.chip_tables.specs.declared.outside.Env.{Env}
use Rattle.chip_tables.specs.declared.outside.PinReading.{PinReading}
use Rattle.chip_tables.specs.declared.outside.StepEnd.TheVariants as step_end
use Rattle.chip_tables.specs.declared.outside.Went.{Went}
use Rattle.ladder_tree.specs.declared.project.Project.{Project}
use Rattle.ladder_meaning.specs.Cycle.{Ended, start, history}
use Rattle.ladder_meaning.specs.View.{sent_of}
use Rattle.chip_meaning.specs.Chip.{Chip, Resets}
use Rattle.chip_meaning.specs.Shows.{Shows}
use Rattle.chip_meaning.specs.Carries.{Carries, all_seen}
use Rattle.chip_run.specs.declared.end.RunEnd.TheVariants as run
use Rattle.chip_run.specs.declared.end.TheConstants.{CYCLES_MOST}
use Rattle.chip_run.specs.Replay.{Done, replayed}

-- each step takes a cycle at least
abbrev pub TakesCycles : {M : Type 0} → Chip M → List ℕ → Type 0
TakesCycles {M} chip flash = (env : Env) (m : M) (w : Went) → (chip.step flash env m).end ≡ step_end.Went w → 0 < w.cycles

-- the cycle ends as the ladder's cycle of this number among these, counted from 0: the chip shows its state, and sent its byte
pub record IsCycle {M : Type 0} (chip : Chip M) (p : Project) (ends : List Ended) (k : ℕ) (d : Done M) : Type 0 where
  pub end : Ended
  pub is : slice_get ends k ≡ Some end
  pub shows : Shows p (chip.view d.state) end.state
  pub sent : d.sent ≡ sent_of end.sent

-- so does each cycle, from this number on
abbrev pub AreCycles : {M : Type 0} → Chip M → Project → List Ended → ℕ → List (Done M) → Type 0
AreCycles chip p ends k [] = Unit {0}
AreCycles chip p ends k (d ∷ ds) = IsCycle chip p ends k d × AreCycles chip p ends (k + 1) ds

-- the run takes every reading, and each of its cycles ends as the ladder's
pub record Agrees {M : Type 0} (chip : Chip M) (p : Project) (flash : List ℕ) (m : M) (eeprom : List ℕ) (rs : List PinReading) : Type 0 where
  pub ends : (replayed chip.step flash m rs).end ≡ run.Done
  pub count : length (replayed chip.step flash m rs).cycles ≡ length rs
  pub cycles : AreCycles chip p (history p (start p (slice_index eeprom)) (all_seen p rs)) 0 (replayed chip.step flash m rs).cycles

-- Over words that carry a project, within fewer cycles than a run may take, each run from reset agrees with the ladder.
abbrev pub CarriedAgree : {M : Type 0} → Chip M → Resets M → Type 0
CarriedAgree {M} chip resets =
    (p : Project) (words rest : List ℕ) (cycles boot : ℕ) → Carries chip resets p words cycles boot → cycles < CYCLES_MOST → boot < CYCLES_MOST →
    TakesCycles chip (words ++ rest) → (m : M) (eeprom : List ℕ) (rs : List PinReading) → resets eeprom m → AllByRecursion chip.reads rs →
    Agrees chip p (words ++ rest) m eeprom rs
