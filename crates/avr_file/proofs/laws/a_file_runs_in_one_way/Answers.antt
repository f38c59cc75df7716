use Rattle.avr_file.proofs.OnceLemmas.{once, somehow}
use Rattle.avr_file.proofs.laws.a_file_runs_in_one_way.Goals as goal

pub returns-clause-once : goal.returns-clause-once
returns-clause-once c = once

pub returns-clause-somehow : goal.returns-clause-somehow
returns-clause-somehow c = somehow
