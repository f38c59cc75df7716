use Rattle.std.proofs.Common.{◌≡◌, ◌++◌, drop, map}
use Rattle.ladder_tree.specs.Names.{appearances, begins_with}
use Rattle.ladder_tree.proofs.names.first_bits.Given as goal

abbrev pub invariant-loop-leaf : goal.invariant-loop-leaf
invariant-loop-leaf l = map (λ n. n.now) l.names.items ++ appearances (begins_with l.letter) (map (λ l. l.now) (drop l.leaf-index l.leaves)) ≡ appearances
    (begins_with l.letter) (map (λ l. l.now) l.leaves)
