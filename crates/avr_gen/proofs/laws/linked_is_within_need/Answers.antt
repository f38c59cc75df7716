use Rattle.avr_gen.proofs.Needed as needed
use Rattle.avr_gen.proofs.laws.linked_is_within_need.Goals as goal

pub returns : goal.returns
returns c = needed.linked_is_within_need
