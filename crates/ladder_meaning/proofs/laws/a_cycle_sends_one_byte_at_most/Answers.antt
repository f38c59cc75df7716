use Rattle.ladder_meaning.proofs.LawLemmas.{few_sent, none_sent}
use Rattle.ladder_meaning.proofs.laws.a_cycle_sends_one_byte_at_most.Goals as goal

pub returns-clause-one : goal.returns-clause-one
returns-clause-one c = few_sent

pub returns-clause-busy : goal.returns-clause-busy
returns-clause-busy c = none_sent
