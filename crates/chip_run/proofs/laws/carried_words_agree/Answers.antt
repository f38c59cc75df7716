use Rattle.chip_run.proofs.CarryLemmas.{agrees}
use Rattle.chip_run.proofs.laws.carried_words_agree.Goals as goal

pub returns : goal.returns
returns g c = λ settings. agrees g.M.ChipMachine.chip (g.M.ChipMachine.resets settings)
