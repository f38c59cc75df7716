use Rattle.std.proofs.Common.{ap, ◌∙◌}
use Rattle.std.specs.Prelude.{bit_or}
use Rattle.avr_emit.proofs.Directions.{at_port, at_other}
use Rattle.avr_emit.proofs.chip.Avr.direction.Goals as goal

pub loop-i-preserved-then-pin-port : goal.loop-i-preserved-then-pin-port
loop-i-preserved-then-pin-port c =
    ap (bit_or c.loop-i.mask) c.bit_mask-mask.ensures
    ∙ at_port c.args.self.now.outputs c.args.port c.loop-i.i c.loop-i.mask c.get-pin.result.now c.loop-i-test.true c.get-pin.ensures
    c.loop-i.invariant c.if-pin-port.true

pub loop-i-preserved : goal.loop-i-preserved
loop-i-preserved c =
    at_other c.args.self.now.outputs c.args.port c.loop-i.i c.loop-i.mask c.get-pin.result.now c.loop-i-test.true c.get-pin.ensures
    c.loop-i.invariant c.if-pin-port.false
