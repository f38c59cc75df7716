use Rattle.std.proofs.Common.{◌≡◌, ◌++◌, drop}
use Rattle.c_output.specs.Filled.{each_at}
use Rattle.c_output.proofs.filled.push_each_at.Given as goal

abbrev pub invariant-loop-place : goal.invariant-loop-place
invariant-loop-place l = l.text.items ++ each_at l.template l.place (drop l.place l.names) ≡ l.fn.text.items ++ each_at l.template 0 l.names
