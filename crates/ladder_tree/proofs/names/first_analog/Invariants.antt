use Rattle.std.proofs.Common.{◌≡◌, ◌++◌, drop, map}
use Rattle.ladder_tree.specs.Names.{all_named, analog_names}
use Rattle.ladder_tree.proofs.names.first_analog.Given as goal

abbrev pub invariant-loop-leaf : goal.invariant-loop-leaf
invariant-loop-leaf l = map (λ n. n.now) l.names.items ++ all_named analog_names (map (λ l. l.now) (drop l.leaf-index l.leaves)) ≡ all_named analog_names
    (map (λ l. l.now) l.leaves)
