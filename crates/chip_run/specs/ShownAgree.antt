-- When what is shown of a chip is what is shown of a ladder.
use Rattle.std.specs.Prelude.{◌≡◌, ◌*◌, ◌≤◌, length}
use Rattle.chip_tables.specs.Memory.{eeprom_size}
use Rattle.chip_tables.specs.declared.pins.PortBit.{PortBit}
use Rattle.ladder_tree.specs.Names.{names_of}
use Rattle.ladder_tree.specs.declared.project.Project.{Project}
use Rattle.ladder_meaning.specs.Bounds.{AreNumbers}
use Rattle.ladder_meaning.specs.Cycle.{Ended}
use Rattle.ladder_meaning.specs.View.{sent_of}
use Rattle.ladder_rules.specs.Assigned.{HavePlaces, name_bit}
use Rattle.ladder_trace.specs.Simulated.{view_with, duty_shown}
use Rattle.chip_meaning.specs.Chip.{View}
use Rattle.chip_meaning.specs.Shows.{Shows}
use Rattle.chip_run.specs.Shown.{shown_of}

-- Of a project whose outputs have pins and whose persistent variables have room, a chip that shows a state of numbers of 16 bits has the line that the
-- ladder has behind that state.
abbrev pub ShownAgree : Type 0
ShownAgree =
    (p : Project) (v : View) (e : Ended) → HavePlaces PortBit (name_bit p) (names_of p.rungs).outputs →
    2 * length (names_of p.rungs).persistent ≤ eeprom_size p.target → AreNumbers e.state.number → Shows p v e.state →
    shown_of p (names_of p.rungs) v (sent_of e.sent) ≡ view_with (duty_shown p) (names_of p.rungs) e
