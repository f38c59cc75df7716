use Rattle.std.proofs.Common.{◌≡◌, ◌++◌, drop}
use Rattle.c_output.specs.Filled.{each}
use Rattle.c_output.proofs.filled.push_each.Given as goal

abbrev pub invariant-loop-name : goal.invariant-loop-name
invariant-loop-name l = l.text.items ++ each l.template (drop l.name-index l.names) ≡ l.fn.text.items ++ each l.template l.names
