use Rattle.std.proofs.Common.{◌≡◌, ◌++◌}
use Rattle.ladder_lower.specs.ElementCode.{moves}
use Rattle.ladder_lower.proofs.numbers.emit_moves.Given as goal

abbrev pub invariant-loop-place : goal.invariant-loop-place
invariant-loop-place l = l.ops ++ moves l.layout l.name l.place ≡ l.fn.ops ++ moves l.layout l.name l.places
