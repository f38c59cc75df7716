use Rattle.ladder_meaning.proofs.LawLemmas.{history_duty}
use Rattle.ladder_meaning.proofs.laws.a_duty_is_a_percentage.Goals as goal

pub returns : goal.returns
returns c = history_duty
