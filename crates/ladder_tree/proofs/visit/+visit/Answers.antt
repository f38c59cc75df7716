use Rattle.std.proofs.Common.{◌+◌, drop, Some, None}
use Rattle.ladder_tree.specs.Leaves.{leaves, leaves_in}
use Rattle.ladder_tree.proofs.FrontLemmas.{nodes_front}
use Rattle.ladder_tree.proofs.VisitLemmas.{visits_step}
use Rattle.ladder_tree.proofs.visit.+visit.Goals as goal

pub visit_nodes-returns-in-Some : goal.visit_nodes-returns-in-Some
visit_nodes-returns-in-Some g t c =
    let ns = c.args.nodes.now in let i = c.loop-node.node-index in let n = c.node-item.result in
    visits_step g.V.Visitor.at c.loop-node.visitor (leaves n) (leaves_in (drop (i + 1) ns)) (leaves_in (drop i ns))
    (Some c.in-Some.stop, c.visit_node.new.visitor) _ (nodes_front ns i n c.loop-node-test.true c.node-item.is) c.in-Some.ensures c.loop-node.invariant

pub visit_nodes-loop-node-preserved : goal.visit_nodes-loop-node-preserved
visit_nodes-loop-node-preserved g t c =
    let ns = c.args.nodes.now in let i = c.loop-node.node-index in let n = c.node-item.result in
    visits_step g.V.Visitor.at c.loop-node.visitor (leaves n) (leaves_in (drop (i + 1) ns)) (leaves_in (drop i ns)) (None, c.visit_node.new.visitor) _
    (nodes_front ns i n c.loop-node-test.true c.node-item.is) c.in_default.ensures c.loop-node.invariant
