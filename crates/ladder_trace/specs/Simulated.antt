-- What a project shows over a trace.
use Rattle.std.specs.Prelude.{ℕ, ◌+◌, true, List, [], ◌∷◌, ◌++◌, map, replicate, slice_index_or, unsigned_abs}
use Rattle.std.specs.Option.{option_and_then}
use Rattle.ladder_tree.specs.Leaves.{all_leaves}
use Rattle.ladder_tree.specs.Names.{names_of}
use Rattle.ladder_tree.specs.declared.names.Names.{Names}
use Rattle.ladder_tree.specs.declared.project.Project.{Project}
use Rattle.ladder_rules.specs.Settings.{settings_of}
use Rattle.ladder_meaning.specs.Cycle.{Ended, start, history}
use Rattle.ladder_meaning.specs.State.{seen}
use Rattle.ladder_tree.specs.Peripherals.{any_pwm}
use Rattle.ladder_meaning.specs.View.{view}
use Rattle.ladder_meaning.specs.declared.reading.Reading.{Reading}
use Rattle.ladder_meaning.specs.declared.reading.View.{View}
use Rattle.ladder_trace.specs.Duty.{duty_as, shown_where}
use Rattle.ladder_trace.specs.Shown.{shown_text}
use Rattle.ladder_trace.specs.declared.duty.DutyShown.{DutyShown}
use Rattle.ladder_trace.specs.declared.trace.Step.{Step}
use Rattle.ladder_trace.specs.declared.trace.Trace.{Trace}

-- the reading of each cycle
abbrev pub readings : List Step → List Reading
readings [] = []
readings (s ∷ ss) = replicate s.times s.reading ++ readings ss

-- the byte of each address
abbrev pub eeprom_of : Trace → ℕ → ℕ
eeprom_of trace address = slice_index_or trace.eeprom address 0

-- a line for each view, behind so many cycles
abbrev pub lines_from : Names → ℕ → List View → List ℕ
lines_from n passed [] = []
lines_from n passed (v ∷ vs) = shown_text n (passed + 1) v ++ lines_from n (passed + 1) vs

-- the duty is shown where there is a SET_PWM: on a chip as far as its register tells it
abbrev pub duty_shown : Project → DutyShown
duty_shown p = shown_where (any_pwm (all_leaves p.rungs)) (option_and_then (λ s. s.pwm) (settings_of p))

-- what a ladder shows at a cycle's end, with the duty as it is told to
abbrev pub view_with : DutyShown → Names → Ended → View
view_with how n e = record (view true n e) { pwm = duty_as how (unsigned_abs e.state.duty) }

-- The line of each cycle, as the ladder means it.
abbrev pub simulated : Project → Trace → List ℕ
simulated p trace =
    let n = names_of p.rungs in
    lines_from n 0 (map (view_with (duty_shown p) n) (history p (start p (eeprom_of trace)) (map (seen n) (readings trace.steps))))
