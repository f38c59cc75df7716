use Rattle.std.proofs.Common.{◌+◌, drop, Some, None, ap, ◌∙◌}
use Rattle.ladder_tree.specs.Leaves.{leaves_in, all_leaves}
use Rattle.ladder_tree.specs.Visit.{visits}
use Rattle.ladder_tree.proofs.FrontLemmas.{rungs_front}
use Rattle.ladder_tree.proofs.VisitLemmas.{visits_step}
use Rattle.ladder_tree.proofs.visit.visit_all.Goals as goal

pub returns-in-Some : goal.returns-in-Some
returns-in-Some g c =
    let gs = c.args.rungs.now in let i = c.loop-rung.rung-index in let r = c.rung-item.result in
    visits_step g.V.Visitor.at c.loop-rung.visitor (leaves_in r.nodes) (all_leaves (drop (i + 1) gs)) (all_leaves (drop i gs))
    (Some c.in-Some.stop, c.visit_nodes.new.visitor) _ (rungs_front gs i r c.loop-rung-test.true c.rung-item.is)
    (c.in-Some.ensures ∙ ap (λ ns. visits g.V.Visitor.at c.loop-rung.visitor (leaves_in ns)) c.as_slice.ensures) c.loop-rung.invariant

pub loop-rung-preserved : goal.loop-rung-preserved
loop-rung-preserved g c =
    let gs = c.args.rungs.now in let i = c.loop-rung.rung-index in let r = c.rung-item.result in
    visits_step g.V.Visitor.at c.loop-rung.visitor (leaves_in r.nodes) (all_leaves (drop (i + 1) gs)) (all_leaves (drop i gs))
    (None, c.visit_nodes.new.visitor) _ (rungs_front gs i r c.loop-rung-test.true c.rung-item.is)
    (c.in_default.ensures ∙ ap (λ ns. visits g.V.Visitor.at c.loop-rung.visitor (leaves_in ns)) c.as_slice.ensures) c.loop-rung.invariant
