use Rattle.mem_plan.proofs.ApartLemmas.{apart}
use Rattle.mem_plan.proofs.laws.places_are_apart.Goals as goal

pub returns : goal.returns
returns c = apart
