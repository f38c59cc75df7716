use Rattle.std.proofs.Common.{◌≡◌, ◌≤◌, length}
use Rattle.interp_code.specs.Line.{integers}
use Rattle.interp_code.specs.Said.{words_of}
use Rattle.interp_code.proofs.ValueLemmas.{and_those}
use Rattle.interp_code.proofs.word.values_of.Given as goal

abbrev pub invariant-loop-rest : goal.invariant-loop-rest
invariant-loop-rest l = record {
  few : length l.values ≤ l.count;
  same : integers (words_of l.fn.text) ≡ and_those l.values (integers (words_of l.rest));
}

abbrev pub decreases-loop-rest : goal.decreases-loop-rest
decreases-loop-rest l = length (words_of l.rest)
