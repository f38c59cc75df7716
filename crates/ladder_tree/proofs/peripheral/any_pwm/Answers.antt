use Rattle.std.proofs.Common.{ap, ◌∙◌}
use Rattle.std.specs.Prelude.{is_some}
use Rattle.ladder_tree.specs.Leaves.{all_leaves}
use Rattle.ladder_tree.specs.Peripherals.{uses_pwm}
use Rattle.ladder_tree.proofs.SoughtLemmas.{any_found}
use Rattle.ladder_tree.proofs.peripheral.any_pwm.Goals as goal

pub returns : goal.returns
returns c = c.is_some.ensures ∙ ap (λ w. is_some w.0) c.visit_all.ensures ∙ any_found (λ v l. uses_pwm l.kind) _ (all_leaves c.args.rungs.now)
