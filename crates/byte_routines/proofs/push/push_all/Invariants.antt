use Rattle.std.proofs.Common.{◌≡◌, ◌++◌}
use Rattle.byte_routines.proofs.push.push_all.Given as goal

abbrev pub invariant-loop-prim : goal.invariant-loop-prim
invariant-loop-prim g l = l.into ≡ l.fn.into ++ l.yielded
