use Rattle.ld_text.proofs.VerdictLemmas.{has_project}
use Rattle.ld_text.proofs.laws.faultless_texts_have_a_project.Goals as goal

pub returns : goal.returns
returns c text h = let p = has_project text h in (p.0, p.1)
