use Rattle.std.proofs.Common.{◌≡◌, ◌++◌, drop, map}
use Rattle.ladder_tree.specs.Names.{all_named, variable_names}
use Rattle.ladder_tree.proofs.names.first_variables.Given as goal

abbrev pub invariant-loop-leaf : goal.invariant-loop-leaf
invariant-loop-leaf l = l.all ++ all_named variable_names (map (λ l. l.now) (drop l.leaf-index l.leaves)) ≡ all_named variable_names (map (λ l. l.now) l.leaves)
