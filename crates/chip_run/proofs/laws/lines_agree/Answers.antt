use Rattle.chip_run.proofs.AgreeLemmas.{lines_agree}
use Rattle.chip_run.proofs.laws.lines_agree.Goals as goal

pub returns : goal.returns
returns g c = λ settings. lines_agree g.M.ChipMachine.chip (g.M.ChipMachine.resets settings)
