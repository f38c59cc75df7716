use Rattle.chip_run.proofs.OneLemmas.{one_at_pins}
use Rattle.chip_run.proofs.ExistLemmas.{readings_stand}
use Rattle.chip_run.proofs.laws.readings_stand_at_pins.Goals as goal

pub returns-clause-once : goal.returns-clause-once
returns-clause-once c = one_at_pins

pub returns-clause-stand : goal.returns-clause-stand
returns-clause-stand c = readings_stand
