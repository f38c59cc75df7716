use Rattle.ladder_lower.proofs.LoopLemmas.{moves_step}
use Rattle.ladder_lower.proofs.numbers.emit_moves.Goals as goal

pub loop-place-preserved : goal.loop-place-preserved
loop-place-preserved c =
    rw (c.in_ok-push.ensures.ok, c.in_ok-v.ensures, c.in_ok-from.ensures)
    (moves_step c.args.layout.now c.args.name.now c.loop-place.place c.loop-place.ops _ c.loop-place-test.true c.loop-place.invariant)
