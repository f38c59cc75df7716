use Rattle.std.proofs.Common.{◌∙◌}
use Rattle.texts.specs.Lines.{pieces}
use Rattle.texts.proofs.LineLemmas.{first_piece, pieces-last}
use Rattle.ld_line.proofs.TargetLemmas.{target_found, target_later, target_last}
use Rattle.ld_line.proofs.target.first_target.Goals as goal

pub loop-word-preserved : goal.loop-word-preserved
loop-word-preserved c =
    let rest = c.loop-word.rest.now in
    target_later (pieces 32 rest) c.in-Some.word.now (pieces 32 c.in-Some.behind.now) (first_piece 32 rest c.in-Some.word.now c.in-Some.behind.now
    c.in-Some.ensures.piece) c.in-None.ensures ∙ c.loop-word.invariant

pub returns : goal.returns
returns c =
    let rest = c.loop-word.rest.now in
    c.target_of-2.ensures ∙ target_last (pieces 32 rest) rest (pieces-last 32 rest c.in_default.ensures.none) ∙ c.loop-word.invariant

pub returns-in-Some-target_of : goal.returns-in-Some-target_of
returns-in-Some-target_of c =
    let rest = c.loop-word.rest.now in
    target_found (pieces 32 rest) c.in-Some.word.now (pieces 32 c.in-Some.behind.now) c.in-Some-target_of.target
    (first_piece 32 rest c.in-Some.word.now c.in-Some.behind.now c.in-Some.ensures.piece) c.in-Some-target_of.ensures ∙ c.loop-word.invariant
