-- The words of a project's program on the ATmega16.
use Rattle.std.specs.Prelude.{◌≡◌, ℕ, ◌<◌, ◌≤◌, [], true, false, All, length}
use Rattle.chip_tables.specs.declared.mega16.TheConstants.{FLASH_WORDS}
use Rattle.chip_tables.specs.declared.settings.Settings.{Settings}
use Rattle.ladder_tree.specs.Leaves.{all_leaves}
use Rattle.ladder_tree.specs.Names.{names_of}
use Rattle.ladder_tree.specs.Peripherals.{any_pwm}
use Rattle.ladder_tree.specs.declared.project.Project.{Project}
use Rattle.ladder_rules.specs.Needs.{word_need, cycle_cap, boot_cap}
use Rattle.int_code.specs.declared.op.IntProgram.{IntProgram}
use Rattle.target_core.specs.Whole.{words_sum, cycles_sum, boot_sum}
use Rattle.target_core.specs.declared.assemble.Assembled.{Assembled}
use Rattle.byte_lower.specs.Code.{code_of}
use Rattle.byte_lower.specs.Lists.{is_built}
use Rattle.byte_lower.specs.declared.layout.Layout.{Layout}
use Rattle.chip_meaning.specs.Carries.{Carries}
use Rattle.chip_compile.specs.Linked.{IsLinked}
use Rattle.avr_code.specs.Target.{avr_target}
use Rattle.avr_chip.specs.Machine.{IsReset, avr_chip}
use Rattle.avr_gen.specs.Admission.{board_of}

-- all that a project does is built: its operations are lowered, nothing is converted, and nothing is modulated
pub record IsBuilt (p : Project) (program : IntProgram) : Type 0 where
  pub ops : All (λ op. is_built op ≡ true) program.ops
  pub no_analog : (names_of p.rungs).analog ≡ []
  pub no_duty : any_pwm (all_leaves p.rungs) ≡ false

abbrev pub IsNotBuilt : Project → IntProgram → Type 0
IsNotBuilt p program = IsBuilt p program → ⊥

-- They carry the project, within these cycles. Where the layout has the project's variables, bits and pins, they are as many as the code of its program has,
-- and the cycles are the sum of what its primitives take. They are no more than the rules count for the project.
pub record IsFirmware (p : Project) (program : IntProgram) (settings : Settings) (a : Assembled) : Type 0 where
  pub carries : Carries avr_chip (IsReset settings) p a.words a.cycles a.boot
  pub layout : Layout
  pub linked : IsLinked p layout program
  pub words : length a.words ≡ words_sum (avr_target (board_of layout settings)) (code_of layout program)
  pub cycles : a.cycles ≡ cycles_sum (avr_target (board_of layout settings)) (code_of layout program)
  pub boot : a.boot ≡ boot_sum (avr_target (board_of layout settings)) (code_of layout program)
  pub words_few : length a.words ≤ word_need p
  pub cycles_few : a.cycles ≤ cycle_cap p
  pub boot_few : a.boot ≤ boot_cap p

-- the flash has fewer words than the code of the program, and so fewer than the rules count for the project
pub record IsCodeFull (p : Project) (program : IntProgram) (settings : Settings) (need : ℕ) : Type 0 where
  pub layout : Layout
  pub linked : IsLinked p layout program
  pub words : need ≡ words_sum (avr_target (board_of layout settings)) (code_of layout program)
  pub more : FLASH_WORDS < need
  pub needed : need ≤ word_need p
