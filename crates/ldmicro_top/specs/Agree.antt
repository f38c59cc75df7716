-- What a target asks of a project and a trace where the run of bytes that carry the project is to show the ladder.
use Rattle.std.specs.Prelude.{◌≡◌, ℕ, ◌<◌, List, Ok}
use Rattle.chip_tables.specs.declared.target.Target.{Target}
use Rattle.chip_tables.specs.declared.target.Target.TheVariants.{F628, F877, Mega16, Interp, AnsiC}
use Rattle.ladder_tree.specs.Names.{names_of}
use Rattle.ladder_tree.specs.declared.project.Project.{Project}
use Rattle.ladder_trace.specs.Trace.{verdict}
use Rattle.ladder_trace.specs.declared.trace.Trace.{Trace}
use Rattle.chip_run.specs.declared.end.TheConstants.{CYCLES_MOST}
use Rattle.ldmicro_top.specs.Expected.{IsAccepted}

-- The project is one that is accepted, the trace one of its names, and the cycles are fewer than a run may take.
pub record CanShow (p : Project) (trace : Trace) (cycles boot : ℕ) : Type 0 where
  pub text : List ℕ
  pub accepted : IsAccepted text p
  pub file : List ℕ
  pub given : verdict (names_of p.rungs) file ≡ Ok trace
  pub in_cycle : cycles < CYCLES_MOST
  pub in_boot : boot < CYCLES_MOST

-- the interpreter asks for nothing
abbrev pub MayShowOn : Target → Project → Trace → ℕ → ℕ → Type 0
MayShowOn F628 p trace cycles boot = CanShow p trace cycles boot
MayShowOn F877 p trace cycles boot = CanShow p trace cycles boot
MayShowOn Mega16 p trace cycles boot = CanShow p trace cycles boot
MayShowOn Interp p trace cycles boot = Unit {0}
MayShowOn AnsiC p trace cycles boot = Unit {0}

abbrev pub MayShow : Project → Trace → ℕ → ℕ → Type 0
MayShow p trace cycles boot = MayShowOn p.target p trace cycles boot
