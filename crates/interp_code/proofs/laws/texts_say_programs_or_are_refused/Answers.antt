use Rattle.interp_code.proofs.OutcomeLemmas.{told}
use Rattle.interp_code.proofs.laws.texts_say_programs_or_are_refused.Goals as goal

pub returns : goal.returns
returns c = told
