use Rattle.ld_line.proofs.RangeLemmas.{settings_in_range}
use Rattle.ld_line.proofs.laws.settings_are_in_range.Goals as goal

pub returns : goal.returns
returns c = settings_in_range
