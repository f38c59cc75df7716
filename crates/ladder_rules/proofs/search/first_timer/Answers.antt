use Rattle.std.proofs.Common.{ap, ◌∙◌}
use Rattle.ladder_tree.specs.Leaves.{all_leaves}
use Rattle.ladder_rules.proofs.SoughtLemmas.{found_in, timer_found}
use Rattle.ladder_rules.proofs.search.first_timer.Goals as goal

pub returns-in-Some : goal.returns-in-Some
returns-in-Some c = ap (λ w. found_in w.0) c.in-Some.ensures ∙ timer_found (record { name = c.args.name; left = c.args.among }) (all_leaves c.args.rungs.now)

pub returns-in-None : goal.returns-in-None
returns-in-None c = ap (λ w. found_in w.0) c.in-None.ensures ∙ timer_found (record { name = c.args.name; left = c.args.among }) (all_leaves c.args.rungs.now)
