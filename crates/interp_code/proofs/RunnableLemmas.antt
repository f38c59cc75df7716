-- What a text says can be run.
use Rattle.std.proofs.Common.{ℕ, List, sym, arith}
use Rattle.interp_code.specs.declared.program.InterpProgram.{InterpProgram}
use Rattle.interp_code.specs.Program.{IsProgram}
use Rattle.interp_code.specs.Machine.{IsRunnable}

pub runnable : (ls : List (List ℕ)) (p : InterpProgram) → IsProgram ls p → IsRunnable p
runnable ls p h = record {
  runs = record {
    well_formed = h.says.sound.well_formed;
    persistent = h.says.sound.few_persistent;
    length = let few = h.few in omega arith;
  };
  places = record {
    outputs = sym h.says.sound.output_count;
    variables = sym h.says.sound.variable_count;
    relays = h.says.sound.bit_count;
  };
}
