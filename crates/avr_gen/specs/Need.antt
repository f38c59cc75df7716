-- What the code of a project's program takes on the ATmega16 is within what the rules count for the project.
use Rattle.std.specs.Prelude.{◌≡◌, ◌≤◌, None}
use Rattle.chip_tables.specs.declared.settings.Settings.{Settings}
use Rattle.chip_tables.specs.declared.target.Target.TheVariants.{Mega16}
use Rattle.ladder_tree.specs.declared.project.Project.{Project}
use Rattle.ladder_rules.specs.Needs.{word_need, cycle_cap, boot_cap}
use Rattle.ladder_rules.specs.Verdict.{rule}
use Rattle.int_code.specs.declared.op.IntProgram.{IntProgram}
use Rattle.target_core.specs.Whole.{words_sum, cycles_sum, boot_sum}
use Rattle.byte_lower.specs.Code.{CanPlace, code_of}
use Rattle.byte_lower.specs.declared.layout.Layout.{Layout}
use Rattle.chip_compile.specs.Linked.{IsLinked}
use Rattle.avr_code.specs.Target.{avr_target}
use Rattle.avr_gen.specs.Admission.{board_of}

-- its words, its cycles between two readings, and those in front of the first
pub record IsWithinNeed (p : Project) (o : Layout) (settings : Settings) (program : IntProgram) : Type 0 where
  pub words_few : words_sum (avr_target (board_of o settings)) (code_of o program) ≤ word_need p
  pub cycles_few : cycles_sum (avr_target (board_of o settings)) (code_of o program) ≤ cycle_cap p
  pub boot_few : boot_sum (avr_target (board_of o settings)) (code_of o program) ≤ boot_cap p

-- of a project that keeps the rules
abbrev pub LinkedIsWithinNeed : Type 0
LinkedIsWithinNeed =
    (p : Project) (o : Layout) (settings : Settings) (program : IntProgram) → p.target ≡ Mega16 → rule p ≡ None → IsLinked p o program → CanPlace o program →
    IsWithinNeed p o settings program
