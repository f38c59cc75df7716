use Rattle.std.proofs.Common.{arith}
use Rattle.ladder_lower.proofs.LoopLemmas.{rung_nesting, rung_fit, fits_less}
use Rattle.ladder_lower.proofs.program.emit_rungs.Goals as goal

pub emit_series-requires-clause-fits : goal.emit_series-requires-clause-fits
emit_series-requires-clause-fits c =
    let below = rung_nesting c.args.rungs.now c.loop-rung.rung-index c.rung-item.result c.loop-rung-test.true c.rung-item.is in
    rw c.as_slice.ensures (fits_less c.args.layout.now _ _ (omega (arith, below)) c.requires.fits)

pub emit_series-requires-clause-fit : goal.emit_series-requires-clause-fit
emit_series-requires-clause-fit c =
    rw c.as_slice.ensures
    (rung_fit c.args.layout.now.cycle c.args.rungs.now c.loop-rung.rung-index c.rung-item.result c.loop-rung-test.true c.rung-item.is c.requires.fit)
