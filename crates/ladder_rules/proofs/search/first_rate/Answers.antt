use Rattle.std.proofs.Common.{ap, ◌∙◌}
use Rattle.ladder_tree.specs.Leaves.{all_leaves}
use Rattle.ladder_rules.proofs.SoughtLemmas.{rate_found}
use Rattle.ladder_rules.proofs.search.first_rate.Goals as goal

pub returns : goal.returns
returns c = ap (λ w. w.0) c.visit_all.ensures ∙ rate_found _ (all_leaves c.args.rungs.now)
