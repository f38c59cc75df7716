use Rattle.ladder_meaning.proofs.LawLemmas.{one_written, none_written}
use Rattle.ladder_meaning.proofs.laws.a_cycle_writes_one_byte_at_most.Goals as goal

pub returns-clause-one : goal.returns-clause-one
returns-clause-one c = one_written

pub returns-clause-busy : goal.returns-clause-busy
returns-clause-busy c = none_written
