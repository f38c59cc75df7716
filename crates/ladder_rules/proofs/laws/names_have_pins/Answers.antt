use Rattle.ladder_rules.proofs.AssignedLemmas.{have_pins}
use Rattle.ladder_rules.proofs.laws.names_have_pins.Goals as goal

pub returns : goal.returns
returns c = have_pins
