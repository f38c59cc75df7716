use Rattle.std.proofs.Common.{◌≡◌, ◌+◌, drop}
use Rattle.target_core.specs.Whole.{cycles_sum}
use Rattle.target_core.proofs.assemble.cycle_count.Given as goal

abbrev pub invariant-loop-i : goal.invariant-loop-i
invariant-loop-i g l = l.sum + cycles_sum (g.T.Machine16.target l.t) (drop l.i l.code) ≡ cycles_sum (g.T.Machine16.target l.t) l.code
