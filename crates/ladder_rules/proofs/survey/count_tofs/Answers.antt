use Rattle.std.proofs.Common.{ap, ◌∙◌}
use Rattle.ladder_tree.specs.Leaves.{all_leaves}
use Rattle.ladder_rules.proofs.SoughtLemmas.{tofs_counted}
use Rattle.ladder_rules.proofs.survey.count_tofs.Goals as goal

pub returns : goal.returns
returns c = ap (λ w. w.1.count) c.visit_all.ensures ∙ tofs_counted (all_leaves c.args.rungs.now) c.requires
