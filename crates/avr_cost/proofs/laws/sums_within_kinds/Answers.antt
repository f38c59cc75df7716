use Rattle.avr_cost.proofs.Whole as whole
use Rattle.avr_cost.proofs.laws.sums_within_kinds.Goals as goal

pub returns : goal.returns
returns c = whole.sums_within_kinds
