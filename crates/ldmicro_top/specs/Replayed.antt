-- What a file's program shows of a project.
use Rattle.std.specs.Prelude.{◌≡◌, ℕ, List}
use Rattle.ladder_tree.specs.Names.{names_of}
use Rattle.ladder_tree.specs.declared.names.Names.{Names}
use Rattle.ladder_tree.specs.declared.project.Project.{Project}
use Rattle.ladder_trace.specs.Simulated.{duty_shown}
use Rattle.ladder_trace.specs.declared.trace.Trace.{Trace}
use Rattle.int_code.specs.declared.op.IntProgram.{IntProgram}
use Rattle.trace_run.specs.Run.{run_lines}

-- the same names of each kind, in the same order
pub record SameNames (n m : Names) : Type 0 where
  pub inputs : m.inputs ≡ n.inputs
  pub outputs : m.outputs ≡ n.outputs
  pub analogs : m.analog ≡ n.analog
  pub variables : m.variables ≡ n.variables
  pub relays : m.relays ≡ n.relays
  pub persistent : m.persistent ≡ n.persistent

-- The line of each cycle, as the program does it, with the duty as it is shown of the project.
abbrev pub replayed : Project → IntProgram → Trace → List ℕ
replayed p program trace = run_lines (duty_shown p) (names_of p.rungs) program trace
