use Rattle.ladder_rules.proofs.RuleLemmas.{devices_there}
use Rattle.ladder_rules.proofs.legal.Legal.settings.Goals as goal

pub returns-clause-devices : goal.returns-clause-devices
returns-clause-devices c = rw c.settings_of.ensures (devices_there c.args.self.now.project c.args.self.now.rules)
