use Rattle.int_code.proofs.SendLemmas.{cycle_none}
use Rattle.int_code.proofs.laws.a_busy_transmitter_gets_no_byte.Goals as goal

pub returns : goal.returns
returns c = cycle_none
