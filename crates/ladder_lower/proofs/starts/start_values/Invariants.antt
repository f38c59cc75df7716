use Rattle.std.proofs.Common.{◌≡◌, map, drop}
use Rattle.ladder_meaning.specs.Cycle.{start_number}
use Rattle.ladder_lower.proofs.starts.start_values.Given as goal

abbrev pub invariant-loop-i : goal.invariant-loop-i
invariant-loop-i l = l.starts.items ≡ map (start_number l.layout.cycle (drop l.i (map (λ x. x.now) l.leaves.items))) l.layout.variables
