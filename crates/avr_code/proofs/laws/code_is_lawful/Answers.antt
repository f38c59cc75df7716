-- The law of the code.
use Rattle.avr_code.proofs.Whole.{avr_law}
use Rattle.avr_code.proofs.laws.code_is_lawful.Goals as goal

pub returns : goal.returns
returns c = avr_law
