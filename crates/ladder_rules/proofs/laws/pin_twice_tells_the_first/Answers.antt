use Rattle.ladder_rules.proofs.TwiceLemmas.{told_first, untold_none}
use Rattle.ladder_rules.proofs.laws.pin_twice_tells_the_first.Goals as goal

pub returns-clause-told : goal.returns-clause-told
returns-clause-told c = told_first

pub returns-clause-untold : goal.returns-clause-untold
returns-clause-untold c = untold_none
