use Rattle.ladder_meaning.proofs.LawLemmas.{cycle_numbers, history_numbers}
use Rattle.ladder_meaning.proofs.laws.numbers_keep_16_bits.Goals as goal

pub returns-clause-cycle : goal.returns-clause-cycle
returns-clause-cycle c = cycle_numbers

pub returns-clause-history : goal.returns-clause-history
returns-clause-history c = history_numbers
