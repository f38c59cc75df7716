-- The words of a project's program.
use Rattle.std.proofs.Common.{◌≡◌, true, map, None, Some, sym, ap, subst, ◌∙◌}
use Rattle.chip_tables.specs.declared.settings.Settings.{Settings}
use Rattle.chip_tables.specs.declared.target.Target.TheVariants.{Mega16}
use Rattle.ladder_tree.specs.Leaves.{all_leaves}
use Rattle.ladder_tree.specs.Names.{names_of}
use Rattle.ladder_tree.specs.declared.names.Names.{Names}
use Rattle.ladder_tree.specs.declared.project.Project.{Project}
use Rattle.ladder_rules.specs.Assigned.{name_bit}
use Rattle.ladder_rules.specs.Pins.{is_chip}
use Rattle.ladder_rules.specs.Settings.{settings_of}
use Rattle.ladder_rules.specs.Verdict.{rule}
use Rattle.ladder_lower.specs.Fit.{all_fit}
use Rattle.ladder_lower.specs.Outcome.{IsLowered}
use Rattle.int_code.specs.declared.op.IntProgram.{IntProgram}
use Rattle.mem_plan.specs.Needs.{sizes_of}
use Rattle.mem_plan.specs.declared.places.Plan.{Plan}
use Rattle.byte_lower.specs.Code.{CanPlace}
use Rattle.byte_lower.specs.declared.layout.Layout.{Layout}
use Rattle.chip_compile.proofs.Placed.{linked_is_placed}
use Rattle.chip_compile.specs.Linked.{IsLinked}
use Rattle.avr_gen.proofs.Legal.{board_of_legal}
use Rattle.avr_gen.specs.Admission.{board_of}
use Rattle.avr_gen.specs.Boards.{IsBoardFor}
use Rattle.avr_gen.specs.Firmware.{IsBuilt}

-- settings that are both the project's
pub same_settings : (p : Project) (a b : Settings) → settings_of p ≡ Some a → settings_of p ≡ Some b → a ≡ b
same_settings p a b e f = cc (e, f)

-- a project for the ATmega16 that keeps the rules, its names and its program, and a layout of its plan and its pins
pub record Given (p : Project) (n : Names) (o : Layout) (program : IntProgram) (plan : Plan) : Type 0 where
  pub target : p.target ≡ Mega16
  pub rules : rule p ≡ None
  pub fit : all_fit p.cycle (all_leaves p.rungs) ≡ true
  pub named : n ≡ names_of p.rungs
  pub lowered : IsLowered n p program
  pub planned : plan.target ≡ Mega16
  pub sizes : plan.sizes ≡ sizes_of program
  pub place : o.plan ≡ plan
  pub inputs : map Some o.inputs ≡ map (name_bit p) n.inputs
  pub outputs : map Some o.outputs ≡ map (name_bit p) n.outputs
  pub built : IsBuilt p program

module _ (p : Project) (n : Names) (o : Layout) (program : IntProgram) (plan : Plan) (given : Given p n o program plan) where
  pub linked : IsLinked p o program
  linked = record {
    lowered = subst (λ (x : Names). IsLowered x p program) given.named given.lowered;
    target = ap (λ (x : Plan). x.target) given.place ∙ given.planned ∙ sym given.target;
    sizes = ap (λ (x : Plan). x.sizes) given.place ∙ given.sizes;
    inputs = given.inputs ∙ ap (λ (x : Names). map (name_bit p) x.inputs) given.named;
    outputs = given.outputs ∙ ap (λ (x : Names). map (name_bit p) x.outputs) given.named;
    no_analog = given.built.no_analog;
    no_duty = given.built.no_duty;
  }

  pub placed : CanPlace o program
  placed = linked_is_placed p o program (ap is_chip given.target) given.rules given.fit linked given.built.ops

  pub board : (settings : Settings) → settings_of p ≡ Some settings → IsBoardFor o (board_of o settings)
  board settings set = board_of_legal p o settings given.target given.rules linked.target linked.inputs linked.outputs set
