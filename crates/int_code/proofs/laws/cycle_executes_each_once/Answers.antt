use Rattle.int_code.proofs.CountLemmas.{cycle_count, history_count}
use Rattle.int_code.proofs.laws.cycle_executes_each_once.Goals as goal

pub returns : goal.returns
returns c = record { cycle = cycle_count; history = history_count }
