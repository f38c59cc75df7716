use Rattle.ldmicro_top.proofs.LegalLemmas.{within_limits}
use Rattle.top_cases.proofs.needs.aimed.Goals as goal

pub check-requires-clause-limits : goal.check-requires-clause-limits
check-requires-clause-limits c = within_limits c.in_ok-project.project c.in_ok-project.ensures.within
