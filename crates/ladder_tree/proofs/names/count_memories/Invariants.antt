use Rattle.std.proofs.Common.{◌≡◌, ◌+◌, ◌≤◌, drop, map}
use Rattle.ladder_tree.specs.Names.{memories_in}
use Rattle.ladder_tree.proofs.names.count_memories.Given as goal

abbrev pub invariant-loop-leaf : goal.invariant-loop-leaf
invariant-loop-leaf l = record {
  few : l.count ≤ l.leaf-index;
  sum : l.count + memories_in (map (λ l. l.now) (drop l.leaf-index l.leaves)) ≡ memories_in (map (λ l. l.now) l.leaves);
}
