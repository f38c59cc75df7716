use Rattle.runs.proofs.RunLemmas.{moment_from}
use Rattle.runs.proofs.laws.runs_go_on.Goals as goal

pub returns : goal.returns
returns g c = λ step n k x y. moment_from step n k x y
