use Rattle.std.proofs.Common.{◌≡◌, ◌++◌, drop, map}
use Rattle.ladder_tree.specs.Leaves.{leaves_in}
use Rattle.ladder_tree.proofs.leaves.+leaves.Given as goal

abbrev pub invariant-push_series-loop-node : goal.invariant-push_series-loop-node
invariant-push_series-loop-node l = map (λ l. l.now) l.all.items ++ leaves_in (drop l.node-index l.nodes) ≡ map (λ l. l.now) l.fn.all.items ++ leaves_in l.nodes
