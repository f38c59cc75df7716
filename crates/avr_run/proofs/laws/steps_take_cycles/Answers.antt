use Rattle.avr_run.proofs.CycleLemmas.{takes_cycles}
use Rattle.avr_run.proofs.laws.steps_take_cycles.Goals as goal

pub returns : goal.returns
returns c = takes_cycles
