use Rattle.std.proofs.Common.{◌≡◌, drop}
use Rattle.ladder_tree.specs.Leaves.{all_leaves}
use Rattle.ladder_tree.specs.Visit.{visits}
use Rattle.ladder_tree.proofs.visit.visit_all.Given as goal

abbrev pub invariant-loop-rung : goal.invariant-loop-rung
invariant-loop-rung g l = visits g.V.Visitor.at l.visitor (all_leaves (drop l.rung-index l.rungs)) ≡ visits g.V.Visitor.at l.fn.visitor (all_leaves l.rungs)
