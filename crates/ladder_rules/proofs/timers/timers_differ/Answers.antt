use Rattle.std.proofs.Common.{sym, ap, ◌∙◌}
use Rattle.ladder_tree.specs.Leaves.{all_leaves}
use Rattle.ladder_tree.specs.Visit.{visits}
use Rattle.ladder_rules.specs.Timers.{looks}
use Rattle.ladder_rules.proofs.TimerLemmas.{timers_apart, none_so}
use Rattle.ladder_rules.proofs.timers.timers_differ.Goals as goal

pub returns : goal.returns
returns c = λ t.
    let p = c.args.project.now in
    let met = c.none_met.ensures in
    timers_apart p c.none_met.result (met.rungs ∙ c.as_slice-rungs.ensures) met.passed met.marks c.requires
    (ap (λ gs. (visits looks c.none_met.result (all_leaves gs)).0) (sym c.as_slice-rungs.ensures) ∙ sym (ap (λ w. w.0) c.visit_all.ensures) ∙ none_so
    c.is_none.result c.visit_all.result c.is_none.ensures t)
