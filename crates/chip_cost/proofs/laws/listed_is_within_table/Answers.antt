use Rattle.chip_cost.proofs.Whole as whole
use Rattle.chip_cost.proofs.laws.listed_is_within_table.Goals as goal

pub returns : goal.returns
returns c = whole.listed_is_within_table
