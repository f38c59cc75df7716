-- A project's program and its layout on a chip.
use Rattle.std.specs.Prelude.{◌≡◌, false, [], map, Some}
use Rattle.ladder_tree.specs.Leaves.{all_leaves}
use Rattle.ladder_tree.specs.Names.{names_of}
use Rattle.ladder_tree.specs.Peripherals.{any_pwm}
use Rattle.ladder_tree.specs.declared.project.Project.{Project}
use Rattle.ladder_rules.specs.Assigned.{name_bit}
use Rattle.ladder_lower.specs.Outcome.{IsLowered}
use Rattle.int_code.specs.declared.op.IntProgram.{IntProgram}
use Rattle.mem_plan.specs.Needs.{sizes_of}
use Rattle.byte_lower.specs.declared.layout.Layout.{Layout}

-- The program is the project's, the plan is that of its sizes, and the pins are those of its inputs and outputs. Nothing is converted and nothing modulated.
pub record IsLinked (p : Project) (o : Layout) (program : IntProgram) : Type 0 where
  pub lowered : IsLowered (names_of p.rungs) p program
  pub target : o.plan.target ≡ p.target
  pub sizes : o.plan.sizes ≡ sizes_of program
  pub inputs : map Some o.inputs ≡ map (name_bit p) (names_of p.rungs).inputs
  pub outputs : map Some o.outputs ≡ map (name_bit p) (names_of p.rungs).outputs
  pub no_analog : (names_of p.rungs).analog ≡ []
  pub no_duty : any_pwm (all_leaves p.rungs) ≡ false
