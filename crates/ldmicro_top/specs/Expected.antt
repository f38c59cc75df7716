-- The answer that is expected of the words and of what the names hold.
use Rattle.std.specs.Prelude.{◌≡◌, ◌⊎◌, ℕ, Bool, true, false, List, Option, Some, None, Result, Ok, Err}
use Rattle.chip_tables.specs.declared.target.Target.{Target}
use Rattle.chip_tables.specs.declared.target.Target.TheVariants.{F628, F877, Mega16, Interp, AnsiC}
use Rattle.ld_base.specs.Bytes.{Held}
use Rattle.ladder_tree.specs.declared.fault.ProjectFault.{ProjectFault}
use Rattle.ladder_tree.specs.declared.names.Names.{Names}
use Rattle.ladder_tree.specs.declared.project.Project.{Project}
use Rattle.ladder_tree.specs.Names.{names_of}
use Rattle.ladder_trace.specs.Trace as trace
use Rattle.ladder_trace.specs.declared.trace.Trace.{Trace}
use Rattle.ld_text.specs.Text.{IsReadAs, text_fault, judged}
use Rattle.intel_hex.specs.Verdict.{hex_verdict}
use Rattle.intel_hex.specs.declared.fault.HexFault.{HexFault}
use Rattle.intel_hex.specs.declared.image.Image.{Image}
use Rattle.interp_code.specs.declared.program.InterpProgram.{InterpProgram}
use Rattle.ldmicro_top.specs.Code.{IsCode, IsCodeRefusedAt}
use Rattle.ldmicro_top.specs.Verdict.{verdict, code_fault}
use Rattle.ldmicro_top.specs.Replayed.{SameNames}
use Rattle.ldmicro_top.specs.Replays.{Replays}
use Rattle.ldmicro_top.specs.declared.status.InputFault.TheVariants as input
use Rattle.ldmicro_top.specs.declared.status.Status.{Status}
use Rattle.ldmicro_top.specs.declared.status.Status.TheVariants as status
use Rattle.ldmicro_top.specs.Command.{Command, Compile, Simulate, Replay, Other}

-- the text has the fault, or the verdict on its project is it
abbrev pub IsRefusedFor : List ℕ → ProjectFault → Type 0
IsRefusedFor text fault = (text_fault (judged text) ≡ Some fault) ⊎ ((p : Project) × IsReadAs (judged text) p × (verdict p ≡ Some fault))

-- a project that stands for the text, keeps the rules and fits
abbrev pub IsAccepted : List ℕ → Project → Type 0
IsAccepted text p = IsReadAs (judged text) p × (verdict p ≡ None)

-- a text is refused, or what is asked of its project goes on
abbrev pub ProjectAnswers : (Project → Status → Type 0) → List ℕ → Status → Type 0
ProjectAnswers go_on text answer =
    ((p : Project) × IsAccepted text p × go_on p answer)
    ⊎ ((fault : ProjectFault) × IsRefusedFor text fault × (answer ≡ status.Refused fault))

-- a name that holds nothing is a read fault
abbrev pub HeldAnswers : (List ℕ → Status → Type 0) → Option (List ℕ) → Status → Type 0
HeldAnswers go_on None answer = answer ≡ status.ReadFault
HeldAnswers go_on (Some text) answer = go_on text answer

-- the code may be more than a chip has room for
abbrev pub answer_of_code : Option ProjectFault → Status
answer_of_code None = status.Ok
answer_of_code (Some fault) = status.Refused fault

abbrev pub CompileAnswers : Project → Status → Type 0
CompileAnswers p answer = answer ≡ answer_of_code (code_fault p)

abbrev pub AnswersOf : (Trace → Status → Type 0) → Result Trace ℕ → Status → Type 0
AnswersOf go_on (Ok t) answer = go_on t answer
AnswersOf go_on (Err line) answer = answer ≡ status.BadInput (input.Trace line)

-- a trace is refused at a line, or what is asked of it goes on
abbrev pub TraceAnswers : Names → (Trace → Status → Type 0) → List ℕ → Status → Type 0
TraceAnswers n go_on text answer = AnswersOf go_on (trace.verdict n text) answer

-- An interpretable text is refused at a line, or says a program with other names than the project's, which is told with the line `code`, or goes on.
abbrev pub CodeAnswers : Names → (Status → Type 0) → List ℕ → Status → Type 0
CodeAnswers n go_on text answer =
    ((program : InterpProgram) × IsCode text program
    × ((SameNames n program.names × go_on answer) ⊎ ((SameNames n program.names → ⊥) × (answer ≡ status.BadInput (input.OtherProject program.code_line)))))
    ⊎ ((line : ℕ) × IsCodeRefusedAt text line × (answer ≡ status.BadInput (input.Interp line)))

-- a HEX file is refused at a line, or what is asked of its image goes on
abbrev pub HexAnswersOf : (Status → Type 0) → Result Image HexFault → Status → Type 0
HexAnswersOf go_on (Ok image) answer = go_on answer
HexAnswersOf go_on (Err fault) answer = answer ≡ status.BadInput (input.Hex fault.line fault.cause)

abbrev pub HexAnswers : (Status → Type 0) → List ℕ → Status → Type 0
HexAnswers go_on file answer = HexAnswersOf go_on (hex_verdict Mega16 file) answer

-- a file that no machine runs
abbrev pub NoMachineAnswers : List ℕ → Status → Type 0
NoMachineAnswers file answer = answer ≡ status.BadInput input.NoMachine

-- what the file that is run answers, by the project's target; of a target that is not built nothing is
abbrev pub FileAnswersOn : Target → Names → (Status → Type 0) → List ℕ → Status → Type 0
FileAnswersOn F628 n go_on file answer = ⊥
FileAnswersOn F877 n go_on file answer = ⊥
FileAnswersOn Mega16 n go_on file answer = HexAnswers go_on file answer
FileAnswersOn Interp n go_on file answer = CodeAnswers n go_on file answer
FileAnswersOn AnsiC n go_on file answer = NoMachineAnswers file answer

abbrev pub FileAnswers : Project → (Status → Type 0) → List ℕ → Status → Type 0
FileAnswers p go_on file answer = FileAnswersOn p.target (names_of p.rungs) go_on file answer

-- the answer is how the run ends
abbrev pub RunAnswers : Project → List ℕ → Trace → Status → Type 0
RunAnswers p file t answer = (printed : List ℕ) × Replays p file t printed answer

abbrev pub SimulateAnswers : Held → List ℕ → Project → Status → Type 0
SimulateAnswers held trace p = HeldAnswers (TraceAnswers (names_of p.rungs) (λ t answer. answer ≡ status.Ok)) (held trace)

abbrev pub ReplayAnswers : Held → List ℕ → List ℕ → Project → Status → Type 0
ReplayAnswers held file trace p =
    HeldAnswers (λ code. FileAnswers p (HeldAnswers (TraceAnswers (names_of p.rungs) (RunAnswers p code)) (held trace)) code) (held file)

-- Files are asked for in order: the source, the file that is run, the trace. Behind them a compilation answers whether there is room for the
-- code, and a run how it ends.
abbrev pub Expected : Command → Held → Status → Type 0
Expected (Compile source dest) held answer = HeldAnswers (ProjectAnswers CompileAnswers) (held source) answer
Expected (Simulate source trace) held answer = HeldAnswers (ProjectAnswers (SimulateAnswers held trace)) (held source) answer
Expected (Replay source file trace) held answer = HeldAnswers (ProjectAnswers (ReplayAnswers held file trace)) (held source) answer
Expected Other held answer = answer ≡ status.Usage

-- an answer that depends on more than the words and what the names hold
abbrev pub is_fault : Status → Bool
is_fault status.ReadFault = true
is_fault status.WriteFault = true
is_fault status.NoMemory = true
is_fault status.Ok = false
is_fault status.Usage = false
is_fault (status.Refused fault) = false
is_fault (status.BadInput fault) = false
is_fault (status.NoCycleEnd cycle) = false
is_fault (status.Stuck cycle at) = false

-- an answer after which a part may be written
abbrev pub is_cut : Status → Bool
is_cut status.WriteFault = true
is_cut status.NoMemory = true
is_cut status.Ok = false
is_cut status.Usage = false
is_cut (status.Refused fault) = false
is_cut status.ReadFault = false
is_cut (status.BadInput fault) = false
is_cut (status.NoCycleEnd cycle) = false
is_cut (status.Stuck cycle at) = false

-- an answer that ends what was asked for, so that its lines stand before it
abbrev pub is_end : Status → Bool
is_end status.Ok = true
is_end status.Usage = false
is_end (status.Refused fault) = false
is_end status.ReadFault = false
is_end status.WriteFault = false
is_end status.NoMemory = false
is_end (status.BadInput fault) = false
is_end (status.NoCycleEnd cycle) = true
is_end (status.Stuck cycle at) = true
