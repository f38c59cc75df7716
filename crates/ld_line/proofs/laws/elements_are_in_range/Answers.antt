use Rattle.ld_line.proofs.RangeLemmas.{in_their_ranges}
use Rattle.ld_line.proofs.laws.elements_are_in_range.Goals as goal

pub returns : goal.returns
returns c = in_their_ranges
