use Rattle.avr_gen.proofs.Carry as carry
use Rattle.avr_gen.proofs.laws.assembled_words_carry.Goals as goal

pub returns : goal.returns
returns c = carry.assembled_carry
