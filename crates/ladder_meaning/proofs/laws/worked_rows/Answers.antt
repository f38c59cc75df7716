use Rattle.ladder_meaning.proofs.RowLemmas.{worked}
use Rattle.ladder_meaning.proofs.laws.worked_rows.Goals as goal

pub returns : goal.returns
returns c = worked
