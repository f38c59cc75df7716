use Rattle.texts.proofs.LineLemmas.{first_piece, pieces-last}
use Rattle.interp_code.proofs.word.first_word.Goals as goal

pub returns-in-Some : goal.returns-in-Some
returns-in-Some c = first_piece 32 c.args.text.now c.in-Some.word.now c.in-Some.behind.now c.in-Some.ensures.piece

pub returns-in-None : goal.returns-in-None
returns-in-None c = pieces-last 32 c.args.text.now c.in-None.ensures.none
