use Rattle.ladder_meaning.proofs.LawLemmas.{history_waits}
use Rattle.ladder_meaning.proofs.laws.a_high_byte_waits.Goals as goal

pub returns : goal.returns
returns c = history_waits
