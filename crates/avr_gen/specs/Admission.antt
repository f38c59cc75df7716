-- Code that keeps to its layout is code for the ATmega16.
use Rattle.std.specs.Prelude.{◌≡◌, List, All, map, None, Some}
use Rattle.chip_tables.specs.declared.settings.Settings.{Settings}
use Rattle.chip_tables.specs.declared.target.Target.TheVariants.{Mega16}
use Rattle.ladder_tree.specs.Names.{names_of}
use Rattle.ladder_tree.specs.declared.project.Project.{Project}
use Rattle.ladder_rules.specs.Assigned.{name_bit}
use Rattle.ladder_rules.specs.Settings.{settings_of}
use Rattle.ladder_rules.specs.Verdict.{rule}
use Rattle.int_code.specs.declared.op.IntProgram.{IntProgram}
use Rattle.byte_code.specs.declared.prim.BytePrim.{BytePrim}
use Rattle.byte_code.specs.declared.prim.Paced.{Paced}
use Rattle.target_core.specs.Whole.{IsWhole}
use Rattle.byte_lower.specs.Code.{CanPlace, code_of}
use Rattle.byte_lower.specs.Uses.{Uses}
use Rattle.byte_lower.specs.Whole.{HasLabels}
use Rattle.byte_lower.specs.declared.layout.Layout.{Layout}
use Rattle.avr_code.specs.Code.{Board}
use Rattle.avr_code.specs.Target.{avr_target}
use Rattle.avr_gen.specs.Boards.{IsBoardFor}

-- a primitive that uses only what the layout has is admitted
abbrev pub KeptIsAdmitted : Type 0
KeptIsAdmitted = (o : Layout) (board : Board) → IsBoardFor o board → (p : BytePrim) → Uses o p → (avr_target board).admits p

-- so code of such primitives, in which each label that is named stands, is code that can be assembled
abbrev pub KeptIsWhole : Type 0
KeptIsWhole =
    (o : Layout) (board : Board) → IsBoardFor o board → (code : List Paced) → HasLabels code → All (λ q. Uses o q.prim) code → IsWhole (avr_target board) code

-- and so is the code of a program that the layout has the places for
abbrev pub PlacedIsWhole : Type 0
PlacedIsWhole = (o : Layout) (board : Board) → IsBoardFor o board → (p : IntProgram) → CanPlace o p → IsWhole (avr_target board) (code_of o p)

-- a board with these outputs, and these settings of its devices
abbrev pub board_of : Layout → Settings → Board
board_of o settings = record { outputs = o.outputs; settings = settings }

-- A project for the ATmega16 that keeps the rules gives its layout a board: its outputs, and the settings of the devices that it uses.
abbrev pub LegalHasBoard : Type 0
LegalHasBoard =
    (p : Project) (o : Layout) (settings : Settings) → p.target ≡ Mega16 → rule p ≡ None → o.plan.target ≡ p.target →
    map Some o.inputs ≡ map (name_bit p) (names_of p.rungs).inputs → map Some o.outputs ≡ map (name_bit p) (names_of p.rungs).outputs →
    settings_of p ≡ Some settings → IsBoardFor o (board_of o settings)
