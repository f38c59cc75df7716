use Rattle.byte_code.proofs.ScratchLemmas as scratch
use Rattle.byte_code.proofs.laws.scratch_is_the_compilers.Goals as goal

pub returns : goal.returns
returns c = record { wires = scratch.wires; cells = scratch.cells }
