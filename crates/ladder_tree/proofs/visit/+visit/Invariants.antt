use Rattle.std.proofs.Common.{◌≡◌, drop}
use Rattle.ladder_tree.specs.Leaves.{leaves_in}
use Rattle.ladder_tree.specs.Visit.{visits}
use Rattle.ladder_tree.proofs.visit.+visit.Given as goal

abbrev pub invariant-visit_nodes-loop-node : goal.invariant-visit_nodes-loop-node
invariant-visit_nodes-loop-node g l =
    visits g.V.Visitor.at l.visitor (leaves_in (drop l.node-index l.nodes)) ≡ visits g.V.Visitor.at l.fn.visitor (leaves_in l.nodes)
