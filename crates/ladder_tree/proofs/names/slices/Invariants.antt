use Rattle.std.proofs.Common.{◌≡◌, ◌++◌, drop, map}
use Rattle.ladder_tree.proofs.names.slices.Given as goal

abbrev pub invariant-loop-name : goal.invariant-loop-name
invariant-loop-name l = map (λ n. n.now) l.slices.items ++ drop l.name-index l.names ≡ l.names
