use Rattle.avr_gen.proofs.Kept as kept
use Rattle.avr_gen.proofs.laws.kept_is_admitted.Goals as goal

pub returns-clause-admitted : goal.returns-clause-admitted
returns-clause-admitted c = kept.kept_is_admitted

pub returns-clause-whole : goal.returns-clause-whole
returns-clause-whole c = kept.kept_is_whole

pub returns-clause-placed : goal.returns-clause-placed
returns-clause-placed c = kept.placed_is_whole
