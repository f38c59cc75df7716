use Rattle.std.proofs.Common.{◌≡◌, ◌++◌}
use Rattle.c_output.specs.Element.{moves_text}
use Rattle.c_output.proofs.element.push_moves.Given as goal

abbrev pub invariant-loop-place : goal.invariant-loop-place
invariant-loop-place l = l.text.items ++ moves_text l.name l.place ≡ l.fn.text.items ++ moves_text l.name l.places
