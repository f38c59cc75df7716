-- Assembled words of a project's program carry the project.
use Rattle.std.specs.Prelude.{◌≡◌, ℕ, List, None, Some}
use Rattle.chip_tables.specs.declared.settings.Settings.{Settings}
use Rattle.chip_tables.specs.declared.target.Target.TheVariants.{Mega16}
use Rattle.ladder_tree.specs.declared.project.Project.{Project}
use Rattle.ladder_rules.specs.Settings.{settings_of}
use Rattle.ladder_rules.specs.Verdict.{rule}
use Rattle.int_code.specs.declared.op.IntProgram.{IntProgram}
use Rattle.target_core.specs.Whole.{RunsAs}
use Rattle.byte_lower.specs.Code.{CanPlace, code_of}
use Rattle.byte_lower.specs.declared.layout.Layout.{Layout}
use Rattle.chip_meaning.specs.Carries.{Carries}
use Rattle.chip_compile.specs.Linked.{IsLinked}
use Rattle.avr_code.specs.Target.{avr_target}
use Rattle.avr_chip.specs.Machine.{IsReset, avr_chip}
use Rattle.avr_gen.specs.Admission.{board_of}

-- Of a project for the ATmega16 that keeps the rules: words of which the assembler says that their runs are those of the code of the project's program.
abbrev pub AssembledCarry : Type 0
AssembledCarry =
    (p : Project) (o : Layout) (settings : Settings) (program : IntProgram) (words : List ℕ) (cycles boot : ℕ) →
    p.target ≡ Mega16 → rule p ≡ None → settings_of p ≡ Some settings → IsLinked p o program → CanPlace o program →
    RunsAs (avr_target (board_of o settings)) (code_of o program) words cycles boot → Carries avr_chip (IsReset settings) p words cycles boot
