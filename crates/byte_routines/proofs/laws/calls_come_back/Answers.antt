use Rattle.byte_routines.proofs.CallLemmas.{products, quotients}
use Rattle.byte_routines.proofs.laws.calls_come_back.Goals as goal

pub returns-clause-products : goal.returns-clause-products
returns-clause-products c = products

pub returns-clause-quotients : goal.returns-clause-quotients
returns-clause-quotients c = quotients
