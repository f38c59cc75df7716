use Rattle.std.proofs.Common.{◌≡◌, ◌++◌}
use Rattle.ladder_lower.proofs.push.push_all.Given as goal

abbrev pub invariant-loop-op : goal.invariant-loop-op
invariant-loop-op g l = l.ops ≡ l.fn.ops ++ l.yielded
