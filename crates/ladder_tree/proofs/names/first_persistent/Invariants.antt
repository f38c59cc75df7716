use Rattle.std.proofs.Common.{◌≡◌, ◌++◌, drop, map}
use Rattle.ladder_tree.specs.Names.{all_named, persistent_names}
use Rattle.ladder_tree.proofs.names.first_persistent.Given as goal

abbrev pub invariant-loop-leaf : goal.invariant-loop-leaf
invariant-loop-leaf l = map (λ n. n.now) l.names.items ++ all_named persistent_names (map (λ l. l.now) (drop l.leaf-index l.leaves)) ≡ all_named
    persistent_names (map (λ l. l.now) l.leaves)
