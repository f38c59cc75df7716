use Rattle.std.proofs.Common.{◌≡◌, ◌++◌, drop}
use Rattle.c_output.specs.Element.{cases_text}
use Rattle.c_output.proofs.element.push_cases.Given as goal

abbrev pub invariant-loop-index : goal.invariant-loop-index
invariant-loop-index l = l.text.items ++ cases_text l.dest l.index (drop l.index l.values) ≡ l.fn.text.items ++ cases_text l.dest 0 l.values
