use Rattle.std.proofs.Common.{arith}
use Rattle.c_output.proofs.TextLemmas.{rung_depth}
use Rattle.c_output.proofs.write.push_rungs.Goals as goal

pub push_series-requires-clause-depth : goal.push_series-requires-clause-depth
push_series-requires-clause-depth c =
    let below = rung_depth c.args.rungs.now c.loop-rung.rung-index c.rung-item.result c.loop-rung-test.true c.rung-item.is in
    rw c.as_slice.ensures (omega (arith, below, c.requires.depth))
