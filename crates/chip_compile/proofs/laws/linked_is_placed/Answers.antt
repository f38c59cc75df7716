use Rattle.chip_compile.proofs.Placed as placed
use Rattle.chip_compile.proofs.laws.linked_is_placed.Goals as goal

pub returns : goal.returns
returns c = placed.linked_is_placed
