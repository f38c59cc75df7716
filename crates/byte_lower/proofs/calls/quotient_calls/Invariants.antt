use Rattle.std.proofs.Common.{◌≡◌, take}
use Rattle.std.specs.Prelude.{count_by}
use Rattle.byte_lower.specs.Lists.{calls_quotient}
use Rattle.byte_lower.proofs.calls.quotient_calls.Given as goal

abbrev pub invariant-loop-k : goal.invariant-loop-k
invariant-loop-k l = l.calls ≡ count_by calls_quotient (take l.k l.ops)
