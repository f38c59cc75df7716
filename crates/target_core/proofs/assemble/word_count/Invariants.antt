use Rattle.std.proofs.Common.{◌≡◌, ◌+◌, drop}
use Rattle.target_core.specs.Whole.{words_sum}
use Rattle.target_core.proofs.assemble.word_count.Given as goal

abbrev pub invariant-loop-i : goal.invariant-loop-i
invariant-loop-i g l = l.sum + words_sum (g.T.Machine16.target l.t) (drop l.i l.code) ≡ words_sum (g.T.Machine16.target l.t) l.code
