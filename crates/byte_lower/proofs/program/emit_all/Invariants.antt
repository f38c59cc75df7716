use Rattle.std.proofs.Common.{◌≡◌, ◌+◌, ◌++◌, [], drop, reverse}
use Rattle.byte_lower.specs.Lists.{lists_of}
use Rattle.byte_lower.proofs.program.emit_all.Given as goal

abbrev pub invariant-loop-k : goal.invariant-loop-k
invariant-loop-k l = l.code ++ lists_of l.layout l.passed (drop l.k l.ops) (l.k + 5) (reverse l.labels.items) ≡ l.fn.code ++ lists_of l.layout 0 l.ops 5 []
