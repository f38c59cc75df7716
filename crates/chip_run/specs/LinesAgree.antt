-- When a run on a chip writes the lines of the ladder.
use Rattle.std.specs.Prelude.{◌≡◌, ℕ, ◌*◌, ◌<◌, ◌≤◌, List, ◌++◌, length, map, slice_index, All}
use Rattle.std.specs.List.{AllByRecursion}
use Rattle.chip_tables.specs.Memory.{eeprom_size}
use Rattle.chip_tables.specs.declared.outside.PinReading.{PinReading}
use Rattle.chip_tables.specs.declared.pins.PortBit.{PortBit}
use Rattle.ladder_tree.specs.Names.{names_of}
use Rattle.ladder_tree.specs.declared.project.Project.{Project}
use Rattle.ladder_meaning.specs.Bounds.{AreNumbers}
use Rattle.ladder_meaning.specs.Cycle.{Ended, start, history}
use Rattle.ladder_rules.specs.Assigned.{HavePlaces, name_bit}
use Rattle.ladder_trace.specs.Simulated.{readings, eeprom_of, simulated}
use Rattle.ladder_trace.specs.declared.trace.Trace.{Trace}
use Rattle.mem_plan.specs.Seen.{pins_seen}
use Rattle.chip_meaning.specs.Chip.{Chip, Resets}
use Rattle.chip_meaning.specs.Carries.{Carries, all_seen}
use Rattle.chip_run.specs.declared.end.TheConstants.{CYCLES_MOST}
use Rattle.chip_run.specs.Agree.{TakesCycles}
use Rattle.chip_run.specs.Lines.{lines_of}
use Rattle.chip_run.specs.Replay.{replayed}

-- what a project, a chip that is reset and the readings at its pins have to be for a trace
pub record IsSetUp {M : Type 0} (chip : Chip M) (resets : Resets M) (p : Project) (m : M) (eeprom : List ℕ) (rs : List PinReading) (trace : Trace) : Type 0 where
  pub outputs : HavePlaces PortBit (name_bit p) (names_of p.rungs).outputs
  pub room : 2 * length (names_of p.rungs).persistent ≤ eeprom_size p.target
  pub reset : resets eeprom m
  pub reads : AllByRecursion chip.reads rs
  pub bytes : (a : ℕ) → slice_index eeprom a ≡ eeprom_of trace a
  pub seen : map (pins_seen p (names_of p.rungs)) rs ≡ readings trace.steps
  pub short : All (λ (e : Ended). AreNumbers e.state.number) (history p (start p (slice_index eeprom)) (all_seen p rs))

-- Over words that carry a project, within fewer cycles than a run may take, the lines of the run are those of the ladder.
abbrev pub LinesAgree : {M : Type 0} → Chip M → Resets M → Type 0
LinesAgree {M} chip resets =
    (p : Project) (words rest : List ℕ) (cycles boot : ℕ) → Carries chip resets p words cycles boot → cycles < CYCLES_MOST → boot < CYCLES_MOST →
    TakesCycles chip (words ++ rest) → (m : M) (eeprom : List ℕ) (rs : List PinReading) (trace : Trace) → IsSetUp chip resets p m eeprom rs trace →
    lines_of p (names_of p.rungs) chip.view 0 (replayed chip.step (words ++ rest) m rs) ≡ simulated p trace
