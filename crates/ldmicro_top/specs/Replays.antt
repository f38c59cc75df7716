-- What the bytes of a file show of a project over a trace, as its target runs them, and how the run ends.
use Rattle.std.specs.Prelude.{◌≡◌, ℕ, List, Ok}
use Rattle.chip_tables.specs.declared.target.Target.{Target}
use Rattle.chip_tables.specs.declared.target.Target.TheVariants.{F628, F877, Mega16, Interp, AnsiC}
use Rattle.ladder_tree.specs.Names.{names_of}
use Rattle.ladder_tree.specs.declared.project.Project.{Project}
use Rattle.ladder_trace.specs.declared.trace.Trace.{Trace}
use Rattle.interp_code.specs.declared.program.InterpProgram.{InterpProgram}
use Rattle.ldmicro_top.specs.Code.{IsCode}
use Rattle.ldmicro_top.specs.Replayed.{SameNames, replayed}
use Rattle.ldmicro_top.specs.declared.status.Status.{Status}
use Rattle.ldmicro_top.specs.declared.status.Status.TheVariants as status
use Rattle.chip_run.specs.declared.end.RunEnd.{RunEnd}
use Rattle.chip_run.specs.declared.end.RunEnd.TheVariants as run
use Rattle.intel_hex.specs.Verdict.{hex_verdict}
use Rattle.intel_hex.specs.declared.image.Image.{Image}
use Rattle.avr_file.specs.Replays.{ReplaysImage}

-- an interpretable text with the project's names: its program's lines, and its run ends well
pub record ReplaysInterp (p : Project) (code : List ℕ) (trace : Trace) (printed : List ℕ) (ending : Status) : Type 0 where
  pub said : InterpProgram
  pub text : IsCode code said
  pub names : SameNames (names_of p.rungs) said.names
  pub lines : printed ≡ replayed p said.program trace
  pub ends : ending ≡ status.Ok

-- how a chip's run ends
abbrev pub status_of_run : RunEnd → Status
status_of_run run.Done = status.Ok
status_of_run (run.Late cycle) = status.NoCycleEnd cycle
status_of_run (run.Stuck cycle at) = status.Stuck cycle at

-- a HEX file: its image's lines, as the ATmega16 runs it
pub record ReplaysHex (p : Project) (code : List ℕ) (trace : Trace) (printed : List ℕ) (ending : Status) : Type 0 where
  pub image : Image
  pub read : hex_verdict Mega16 code ≡ Ok image
  pub end : RunEnd
  pub runs : ReplaysImage p image trace printed end
  pub ends : ending ≡ status_of_run end

-- the lines of the finished cycles, and the end; on a target that is not built, or has no machine, nothing runs
abbrev pub ReplaysOn : Target → Project → List ℕ → Trace → List ℕ → Status → Type 0
ReplaysOn F628 p code trace printed ending = ⊥
ReplaysOn F877 p code trace printed ending = ⊥
ReplaysOn Mega16 p code trace printed ending = ReplaysHex p code trace printed ending
ReplaysOn Interp p code trace printed ending = ReplaysInterp p code trace printed ending
ReplaysOn AnsiC p code trace printed ending = ⊥

abbrev pub Replays : Project → List ℕ → Trace → List ℕ → Status → Type 0
Replays p code trace printed ending = ReplaysOn p.target p code trace printed ending
