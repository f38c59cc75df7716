use Rattle.ld_text.proofs.ProjectLemmas.{one_project}
use Rattle.ld_text.proofs.laws.lines_have_one_project.Goals as goal

pub returns : goal.returns
returns c = one_project
