use Rattle.std.proofs.Common.{◌≡◌, ◌++◌, drop}
use Rattle.ld_print.specs.Words.{behind_spaces, integers}
use Rattle.ld_print.proofs.words.push_integers.Given as goal

abbrev pub invariant-loop-number : goal.invariant-loop-number
invariant-loop-number l = l.line.items ++ behind_spaces (integers (drop l.number-index l.numbers)) ≡ l.fn.line.items ++ behind_spaces (integers l.numbers)
