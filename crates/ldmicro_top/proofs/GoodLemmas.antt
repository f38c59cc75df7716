-- What was made of the names is what was expected of them.
use Rattle.std.proofs.Common.{◌≡◌, inl, ℕ, List, Result, refl, sym, ap, subst}
use Rattle.ld_base.specs.Bytes.{Held}
use Rattle.ladder_tree.specs.Names.{names_of}
use Rattle.ladder_tree.specs.declared.project.Project.{Project}
use Rattle.ladder_trace.specs.declared.trace.Trace.{Trace}
use Rattle.intel_hex.specs.declared.fault.HexFault.{HexFault}
use Rattle.intel_hex.specs.declared.image.Image.{Image}
use Rattle.ldmicro_top.specs.declared.status.Status.{Status}
use Rattle.ldmicro_top.specs.declared.status.Status.TheVariants.{Ok}
use Rattle.ldmicro_top.specs.Command.{Compile, Simulate, Replay}
use Rattle.ldmicro_top.specs.Expected.{Expected, HeldAnswers, ProjectAnswers, TraceAnswers, CompileAnswers, HexAnswersOf, FileAnswers, RunAnswers, SimulateAnswers, ReplayAnswers, answer_of_code}
use Rattle.ldmicro_top.specs.Ran.{IsCompiled, IsSimulated, ReplaysHeld, IsReplayed}
use Rattle.ldmicro_top.proofs.JudgeLemmas.{OfFile, project_on, project_more, trace_on, held_text}
use Rattle.ldmicro_top.proofs.TargetLemmas.{RanOn, OnInterp, OnAvr, ran_on, file_on, file_hex}

-- what is compiled was expected to be
pub compiled_good : (source dest : List ℕ) (held : Held) (code printed : List ℕ) → IsCompiled source held code printed → Expected (Compile source dest) held Ok
compiled_good source dest held code printed c =
    let e = c.emitted in
    project_on CompileAnswers held source c.project Ok c.source (ap answer_of_code (sym e.room))

-- and what is simulated
pub simulated_good : (source trace : List ℕ) (held : Held) (printed : List ℕ) → IsSimulated source trace held printed → Expected (Simulate source trace) held Ok
simulated_good source trace held printed s =
    project_on (SimulateAnswers held trace) held source s.project Ok s.source
    (trace_on (names_of s.project.rungs) (λ t answer. answer ≡ Ok) held trace s.steps Ok s.given refl)

-- what a file's run is was expected of the file
file_good : (held : Held) (trace : List ℕ) (p : Project) (code : List ℕ) (steps : Trace) (printed : List ℕ) (ending : Status)
    → HeldAnswers (TraceAnswers (names_of p.rungs) (RunAnswers p code)) (held trace) ending → RanOn p code steps printed ending
    → FileAnswers p (HeldAnswers (TraceAnswers (names_of p.rungs) (RunAnswers p code)) (held trace)) code ending
file_good held trace p code steps printed ending on (OnInterp e r) =
    file_on p (HeldAnswers (TraceAnswers (names_of p.rungs) (RunAnswers p code)) (held trace)) code ending e (inl (r.said, r.text, inl (r.names, on)))
file_good held trace p code steps printed ending on (OnAvr e r) =
    let go_on = HeldAnswers (TraceAnswers (names_of p.rungs) (RunAnswers p code)) (held trace) in
    file_hex p go_on code ending e (subst (λ (v : Result Image HexFault). HexAnswersOf go_on v ending) (sym r.read) on)

-- and what is run from a file
pub replayed_file : (held : Held) (file trace : List ℕ) (p : Project) (printed : List ℕ) (ending : Status) → ReplaysHeld held file trace p printed ending
    → ReplayAnswers held file trace p ending
replayed_file held file trace p printed ending r =
    let n = names_of p.rungs in
    let next : List ℕ → Status → Type 0 = λ code. HeldAnswers (TraceAnswers n (RunAnswers p code)) (held trace) in
    held_text (OfFile p next) held file r.code ending r.read
    (file_good held trace p r.code r.steps printed ending (trace_on n (RunAnswers p r.code) held trace r.steps ending r.given (printed, r.runs))
    (ran_on p r.code r.steps printed ending r.runs))

pub replayed_good : (source file trace : List ℕ) (held : Held) (printed : List ℕ) (ending : Status) → IsReplayed source file trace held printed ending
    → Expected (Replay source file trace) held ending
replayed_good source file trace held printed ending r =
    project_on (ReplayAnswers held file trace) held source r.project ending r.source (replayed_file held file trace r.project printed ending r.runs)
