use Rattle.byte_code.proofs.ListedLemmas.{listed, not_less}
use Rattle.byte_code.proofs.laws.copier_is_listed.Goals as goal

pub returns : goal.returns
returns c = record { listed = listed; less = not_less }
