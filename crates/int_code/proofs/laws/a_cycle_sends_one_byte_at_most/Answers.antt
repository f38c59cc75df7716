use Rattle.int_code.proofs.SendLemmas.{cycle_one}
use Rattle.int_code.proofs.laws.a_cycle_sends_one_byte_at_most.Goals as goal

pub returns : goal.returns
returns c = cycle_one
