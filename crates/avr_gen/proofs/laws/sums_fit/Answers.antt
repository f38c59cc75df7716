use Rattle.avr_gen.proofs.Costs as costs
use Rattle.avr_gen.proofs.laws.sums_fit.Goals as goal

pub returns : goal.returns
returns c = costs.sums_fit
