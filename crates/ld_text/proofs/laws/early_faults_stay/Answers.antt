use Rattle.ld_text.proofs.VerdictLemmas.{early_stays}
use Rattle.ld_text.proofs.CutLemmas.{early_stays_judged}
use Rattle.ld_text.proofs.laws.early_faults_stay.Goals as goal

pub returns-clause-whole : goal.returns-clause-whole
returns-clause-whole c = early_stays

pub returns-clause-part : goal.returns-clause-part
returns-clause-part c = early_stays_judged
