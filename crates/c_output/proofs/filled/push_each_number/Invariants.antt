use Rattle.std.proofs.Common.{◌≡◌, ◌++◌}
use Rattle.c_output.specs.Filled.{each_number}
use Rattle.c_output.proofs.filled.push_each_number.Given as goal

abbrev pub invariant-loop-number : goal.invariant-loop-number
invariant-loop-number l = l.text.items ≡ l.fn.text.items ++ each_number l.template l.number
