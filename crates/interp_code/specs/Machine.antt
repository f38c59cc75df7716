-- The program of a text that runs, and what it shows.
use Rattle.ladder_tree.specs.declared.names.Names.{Names}
use Rattle.int_code.specs.Held.{store_of}
use Rattle.int_code.specs.Store.{Store}
use Rattle.int_code.specs.declared.op.IntProgram.{IntProgram}
use Rattle.int_code.specs.declared.state.State.{State}
use Rattle.int_sim.specs.Machine as sim
use Rattle.interp_code.specs.declared.program.InterpProgram.{InterpProgram}

-- the names of a program, the program, and what its operations wrote
pub record Running : Type 0 where
  pub names : Names
  pub program : IntProgram
  pub state : State

-- the state as the meaning of operations has it
abbrev pub state_of : Running → Store
state_of m = store_of m.state

-- the program can be simulated, and its names have places in it
pub record IsRunnable (p : InterpProgram) : Type 0 where
  pub runs : sim.IsRunnable p.program
  pub places : sim.HasPlaces p.names p.program
