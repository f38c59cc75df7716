use Rattle.avr_gen.proofs.Legal as legal
use Rattle.avr_gen.proofs.laws.board_of_legal.Goals as goal

pub returns : goal.returns
returns c = legal.board_of_legal
