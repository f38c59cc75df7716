use Rattle.std.proofs.Common.{arith}
use Rattle.std.proofs.lemmas.Grind.{common_steps}
use Rattle.texts.proofs.LineLemmas.{first_piece, pieces-last}
use Rattle.texts.proofs.lines.split_all.Goals as goal

pub loop-piece-preserved : goal.loop-piece-preserved
loop-piece-preserved c =
    let next = first_piece c.args.separator c.loop-piece.rest.now c.in-Some.piece.now c.in-Some.behind.now c.in-Some.ensures.piece in
    grind (arith, common_steps, next, c.loop-piece.invariant, c.in_ok-push.ensures.items)

pub returns : goal.returns
returns c =
    let last = pieces-last c.args.separator c.loop-piece.rest.now c.in_default.ensures.none in
    grind (arith, common_steps, last, c.loop-piece.invariant, c.in_ok-push-2.ensures.items)
