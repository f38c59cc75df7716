use Rattle.ld_line.proofs.RangeLemmas.{pins_in_range}
use Rattle.ld_line.proofs.laws.pins_are_in_range.Goals as goal

pub returns : goal.returns
returns c = pins_in_range
