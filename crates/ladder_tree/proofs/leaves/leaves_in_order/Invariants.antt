use Rattle.std.proofs.Common.{◌≡◌, ◌++◌, drop, map}
use Rattle.ladder_tree.specs.Leaves.{all_leaves}
use Rattle.ladder_tree.proofs.leaves.leaves_in_order.Given as goal

abbrev pub invariant-loop-rung : goal.invariant-loop-rung
invariant-loop-rung l = map (λ l. l.now) l.all.items ++ all_leaves (drop l.rung-index l.rung-items) ≡ all_leaves l.rung-items
