use Rattle.std.proofs.Common.{subst}
use Rattle.ld_text.specs.Lines.{lines_of}
use Rattle.ld_text.specs.Within.{IsWithin}
use Rattle.ld_text.proofs.ProjectLemmas.{one_project}
use Rattle.ld_text.proofs.VerdictLemmas.{has_project}
use Rattle.ld_text.proofs.laws.projects_of_texts_are_within.Goals as goal

pub returns : goal.returns
returns c text p h = let q = has_project text h.faultless in subst IsWithin (one_project (lines_of text) q.0 p q.1.project h.project) q.2
