use Rattle.chip_run.proofs.ShownLemmas.{shown_agrees}
use Rattle.chip_run.proofs.laws.what_is_shown_agrees.Goals as goal

pub returns : goal.returns
returns c = shown_agrees
