use Rattle.std.proofs.Common.{◌≡◌, ◌++◌, drop}
use Rattle.c_output.specs.Text.{variables_text}
use Rattle.c_output.proofs.write.push_variables.Given as goal

abbrev pub invariant-loop-place : goal.invariant-loop-place
invariant-loop-place l = l.text.items ++ variables_text (drop l.place l.names) (drop l.place l.starts) ≡ l.fn.text.items ++ variables_text l.names l.starts
