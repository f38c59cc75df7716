use Rattle.std.proofs.Common.{◌≡◌, drop}
use Rattle.avr_code.specs.Code.{direction}
use Rattle.avr_emit.proofs.chip.Avr.direction.Given as goal

abbrev pub invariant-loop-i : goal.invariant-loop-i
invariant-loop-i l = l.mask ≡ direction (drop l.i l.self.outputs) l.port
