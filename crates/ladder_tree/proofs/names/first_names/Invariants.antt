use Rattle.std.proofs.Common.{◌≡◌, drop, map}
use Rattle.ladder_tree.specs.Names.{firsts, firsts_from}
use Rattle.ladder_tree.proofs.names.first_names.Given as goal

abbrev pub invariant-loop-name : goal.invariant-loop-name
invariant-loop-name l = firsts_from (map (λ k. k.now) l.firsts.keys) (map (λ n. n.now) (drop l.name-index l.names)) ≡ firsts (map (λ n. n.now) l.names)
