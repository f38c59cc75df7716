use Rattle.std.proofs.Common.{◌≡◌, ◌+◌, drop}
use Rattle.byte_code.specs.Machine.{label_place}
use Rattle.byte_code.proofs.step.label_place.Given as goal

abbrev pub invariant-loop-place : goal.invariant-loop-place
invariant-loop-place l = l.place + label_place (drop l.place l.fn.code) l.fn.label ≡ label_place l.fn.code l.fn.label
