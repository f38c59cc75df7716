use Rattle.std.proofs.Common.{◌≡◌, ◌⊎◌, inl, inr, ℕ, Bool, true, false, List, length, ◌≤◌, Option, Some, None, Result, Ok, Err, refl}
use Rattle.std.proofs.lemmas.Bool.{false≢true}
use Rattle.std.proofs.lemmas.Slice.Eq.{slice_eq-Decides, bytes_eq-Decides}
use Rattle.std.specs.Bool.{Decides}
use Rattle.std.specs.Cmp.Lexicographic.{pointwise}
use Rattle.std.specs.Str.{bytes_eq}
use Rattle.ld_base.specs.Bytes.{Held}
use Rattle.ladder_tree.specs.Names.{names_of}
use Rattle.ladder_tree.specs.declared.fault.ProjectFault.{ProjectFault}
use Rattle.ladder_tree.specs.declared.names.Names.{Names}
use Rattle.ladder_tree.specs.declared.project.Project.{Project}
use Rattle.chip_tables.specs.declared.target.Target.TheVariants.{Mega16, Interp, AnsiC}
use Rattle.ladder_trace.specs.Trace as trace
use Rattle.ladder_trace.specs.Trace.{IsTraceOf}
use Rattle.ladder_trace.specs.declared.trace.Trace.{Trace}
use Rattle.ld_text.specs.Text.{IsReadAs, text_fault, judged}
use Rattle.ld_text.proofs.VerdictLemmas.{has_project}
use Rattle.interp_code.specs.declared.program.InterpProgram.{InterpProgram}
use Rattle.interp_code.specs.Program.{IsProgram}
use Rattle.interp_code.proofs.OutcomeLemmas.{told}
use Rattle.texts.specs.Lines.{lines}
use Rattle.texts.specs.declared.limits.TheConstants.{CODE_BYTES}
use Rattle.ldmicro_top.specs.Verdict.{verdict, code_fault}
use Rattle.ldmicro_top.specs.Replayed.{SameNames, replayed}
use Rattle.ldmicro_top.specs.Replays.{status_of_run}
use Rattle.intel_hex.specs.Verdict.{hex_verdict}
use Rattle.intel_hex.specs.declared.fault.HexFault.{HexFault}
use Rattle.intel_hex.specs.declared.image.Image.{Image}
use Rattle.avr_file.specs.Agree.{IsForAvr}
use Rattle.avr_file.proofs.OnceLemmas.{somehow}
use Rattle.ldmicro_top.specs.declared.status.InputFault.TheVariants as input
use Rattle.ldmicro_top.specs.declared.status.Status.{Status}
use Rattle.ldmicro_top.specs.declared.status.Status.TheVariants as status
use Rattle.ldmicro_top.specs.Command.{Command, Compile, Simulate, Replay, Other}
use Rattle.ldmicro_top.specs.Code.{IsCode, IsCodeRefusedAt}
use Rattle.ldmicro_top.specs.Expected.{IsAccepted, ProjectAnswers, CompileAnswers, SimulateAnswers, ReplayAnswers, HeldAnswers, TraceAnswers, AnswersOf, CodeAnswers, HexAnswersOf, RunAnswers, Expected, answer_of_code}
use Rattle.ldmicro_top.proofs.JudgeLemmas.{OfFile}
use Rattle.ldmicro_top.proofs.TargetLemmas.{built_cases, read_target, replays_on, replays_hex, file_on, file_c, file_hex}
use Rattle.ldmicro_top.proofs.AvrLemmas.{for_avr, trace_fits}
use Rattle.ldmicro_top.proofs.laws.an_answer_is_expected.Goals as goal

-- Whether two names lists are the same is known.

abbrev Known : Type 0 → Type 0
Known P = P ⊎ (P → ⊥)

known_by : {P : Type 0} (b : Bool) → Decides b P → Known P
known_by true d = inl (d.0 refl)
known_by false d = inr (λ p. false≢true (d.1 p))

and_known : {P Q : Type 0} → Known P → Known Q → Known (P × Q)
and_known (inl p) (inl q) = inl (p, q)
and_known (inl p) (inr n) = inr (λ h. n h.1)
and_known (inr n) k = inr (λ h. n h.0)

known_as : {P Q : Type 0} → (P → Q) → (Q → P) → Known P → Known Q
known_as f g (inl p) = inl (f p)
known_as f g (inr n) = inr (λ q. n (g q))

list_known : (a b : List (List ℕ)) → Known (a ≡ b)
list_known a b = known_by (pointwise bytes_eq a b) (slice_eq-Decides bytes_eq-Decides a b (pointwise bytes_eq a b) refl)

names_known : (n m : Names) → Known (SameNames n m)
names_known n m = known_as
    (λ h. record { inputs = h.0; outputs = h.1.0; analogs = h.1.1.0; variables = h.1.1.1.0; relays = h.1.1.1.1.0; persistent = h.1.1.1.1.1 })
    (λ s. (s.inputs, (s.outputs, (s.analogs, (s.variables, (s.relays, s.persistent))))))
    (and_known (list_known m.inputs n.inputs)
    (and_known (list_known m.outputs n.outputs)
    (and_known (list_known m.analog n.analog)
    (and_known (list_known m.variables n.variables)
    (and_known (list_known m.relays n.relays) (list_known m.persistent n.persistent))))))

-- Something is answered.

abbrev IsAnswered : (Status → Type 0) → Type 0
IsAnswered Answers = (answer : Status) × Answers answer

of_held : (go_on : List ℕ → Status → Type 0) → ((text : List ℕ) → IsAnswered (go_on text)) → (o : Option (List ℕ)) → IsAnswered (HeldAnswers go_on o)
of_held go_on more None = (status.ReadFault, refl)
of_held go_on more (Some text) = more text

of_verdict : (go_on : Project → Status → Type 0) (text : List ℕ) → ((p : Project) → IsAccepted text p → IsAnswered (go_on p)) → (p : Project)
    → IsReadAs (judged text) p → (o : Option ProjectFault) → verdict p ≡ o
    → IsAnswered (ProjectAnswers go_on text)
of_verdict go_on text more p read (Some f) e = (status.Refused f, inr (f, inr (p, read, e), refl))
of_verdict go_on text more p read None e = let on = more p (read, e) in (on.0, inl (p, (read, e), on.1))

of_project : (go_on : Project → Status → Type 0) → ((text : List ℕ) (p : Project) → IsAccepted text p → IsAnswered (go_on p)) → (text : List ℕ)
    → IsAnswered (ProjectAnswers go_on text)
of_project go_on more text = by (text_fault (judged text)) refl
  where
    by : (o : Option ProjectFault) → text_fault (judged text) ≡ o → IsAnswered (ProjectAnswers go_on text)
    by (Some f) e = (status.Refused f, inr (f, inl e, refl))
    by None e = let p = has_project (judged text) e in of_verdict go_on text (more text) p.0 p.1 (verdict p.0) refl

of_trace : (n : Names) (go_on : Trace → Status → Type 0) → ((t : Trace) → IsTraceOf n t → IsAnswered (go_on t)) → (text : List ℕ)
    → IsAnswered (TraceAnswers n go_on text)
of_trace n go_on more text = by (trace.verdict n text) refl
  where
    by : (v : Result Trace ℕ) → trace.verdict n text ≡ v → IsAnswered (AnswersOf go_on v)
    by (Ok t) e = more t (trace_fits n text t e)
    by (Err line) e = (status.BadInput (input.Trace line), refl)

-- what is known of a text that says a program with the names
abbrev Goes : Names → (Status → Type 0) → List ℕ → Type 0
Goes n go_on text = (p : InterpProgram) → IsCode text p → SameNames n p.names → IsAnswered go_on

of_program : (n : Names) (go_on : Status → Type 0) (text : List ℕ) → Goes n go_on text → (p : InterpProgram) → IsCode text p → Known (SameNames n p.names)
    → IsAnswered (CodeAnswers n go_on text)
of_program n go_on text more p code (inl same) = let on = more p code same in (on.0, inl (p, code, inl (same, on.1)))
of_program n go_on text more p code (inr differ) = (status.BadInput (input.OtherProject p.code_line), inl (p, code, inr (differ, refl)))

of_code : (n : Names) (go_on : Status → Type 0) (text : List ℕ) → Goes n go_on text → IsAnswered (CodeAnswers n go_on text)
of_code n go_on text more = by (told text)
  where
    by : ((p : InterpProgram) × IsProgram (lines text) p × (length text ≤ CODE_BYTES)) ⊎ ((line : ℕ) × IsCodeRefusedAt text line)
        → IsAnswered (CodeAnswers n go_on text)
    by (inl p) = of_program n go_on text more p.0 (p.1, p.2) (names_known n p.0.names)
    by (inr r) = (status.BadInput (input.Interp r.0), inr (r.0, r.1, refl))

of_run : (p : Project) → p.target ≡ Interp → (code : List ℕ) (said : InterpProgram) → IsCode code said → SameNames (names_of p.rungs) said.names → (t : Trace)
    → IsAnswered (RunAnswers p code t)
of_run p e code said text names t =
    let printed = replayed p said.program t in
    (status.Ok, (printed, replays_on p code t printed status.Ok e (record { said = said; text = text; names = names; lines = refl; ends = refl })))

of_simulation : (held : Held) (trace : List ℕ) (p : Project) → IsAnswered (SimulateAnswers held trace p)
of_simulation held trace p =
    let n = names_of p.rungs in
    let go_on : Trace → Status → Type 0 = λ t answer. answer ≡ status.Ok in
    of_held (TraceAnswers n go_on) (of_trace n go_on (λ t fits. (status.Ok, refl))) (held trace)

of_interp : (held : Held) (file trace : List ℕ) (p : Project) → p.target ≡ Interp → IsAnswered (ReplayAnswers held file trace p)
of_interp held file trace p e =
    let n = names_of p.rungs in
    let next : List ℕ → Status → Type 0 = λ code. HeldAnswers (TraceAnswers n (RunAnswers p code)) (held trace) in
    let goes : (code : List ℕ) → Goes n (next code) code = λ code said text names.
    of_held (TraceAnswers n (RunAnswers p code)) (of_trace n (RunAnswers p code) (λ t fits. of_run p e code said text names t)) (held trace) in
    of_held (OfFile p next) (λ code. let on = of_code n (next code) code (goes code) in (on.0, file_on p (next code) code on.0 e on.1)) (held file)

-- what an image answers over a trace
of_image : (p : Project) → IsForAvr p → (code : List ℕ) (image : Image) → hex_verdict Mega16 code ≡ Ok image → (t : Trace) → IsTraceOf (names_of p.rungs) t
    → IsAnswered (RunAnswers p code t)
of_image p for code image e t fits =
    let r = somehow p image t for fits in
    let ending = status_of_run r.1 in
    (ending, (r.0, replays_hex p code t r.0 ending for.target (record { image = image; read = e; end = r.1; runs = r.2; ends = refl })))

of_hex : (p : Project) → p.target ≡ Mega16 → (go_on : List ℕ → Status → Type 0) (code : List ℕ)
    → ((image : Image) → hex_verdict Mega16 code ≡ Ok image → IsAnswered (go_on code))
    → IsAnswered (OfFile p go_on code)
of_hex p e go_on code more = let on = by (hex_verdict Mega16 code) refl in (on.0, file_hex p (go_on code) code on.0 e on.1)
  where
    by : (v : Result Image HexFault) → hex_verdict Mega16 code ≡ v → IsAnswered (HexAnswersOf (go_on code) v)
    by (Ok image) f = more image f
    by (Err fault) f = (status.BadInput (input.Hex fault.line fault.cause), refl)

of_avr : (held : Held) (file trace : List ℕ) (p : Project) → IsForAvr p → IsAnswered (ReplayAnswers held file trace p)
of_avr held file trace p for =
    let n = names_of p.rungs in
    let next : List ℕ → Status → Type 0 = λ code. HeldAnswers (TraceAnswers n (RunAnswers p code)) (held trace) in
    of_held (OfFile p next) (λ code. of_hex p for.target next code (λ image e.
    of_held (TraceAnswers n (RunAnswers p code)) (of_trace n (RunAnswers p code) (λ t fits. of_image p for code image e t fits)) (held trace))) (held file)

of_text : (held : Held) (file trace : List ℕ) (p : Project) → p.target ≡ AnsiC → IsAnswered (ReplayAnswers held file trace p)
of_text held file trace p e =
    let next : List ℕ → Status → Type 0 = λ code. HeldAnswers (TraceAnswers (names_of p.rungs) (RunAnswers p code)) (held trace) in
    let answer = status.BadInput input.NoMachine in
    of_held (OfFile p next) (λ code. (answer, file_c p (next code) code answer e refl)) (held file)

of_replay : (held : Held) (file trace text : List ℕ) (p : Project) → IsAccepted text p → IsAnswered (ReplayAnswers held file trace p)
of_replay held file trace text p accepted = by (built_cases p.target (read_target (judged text) p accepted.0))
  where
    by : (p.target ≡ Interp) ⊎ ((p.target ≡ Mega16) ⊎ (p.target ≡ AnsiC)) → IsAnswered (ReplayAnswers held file trace p)
    by (inl e) = of_interp held file trace p e
    by (inr (inl e)) = of_avr held file trace p (for_avr text p accepted e)
    by (inr (inr e)) = of_text held file trace p e

answered : (command : Command) (held : Held) → IsAnswered (Expected command held)
answered (Compile source dest) held =
    of_held (ProjectAnswers CompileAnswers) (of_project CompileAnswers (λ text p accepted. (answer_of_code (code_fault p), refl))) (held source)
answered (Simulate source trace) held =
    of_held (ProjectAnswers (SimulateAnswers held trace)) (of_project (SimulateAnswers held trace) (λ text p accepted. of_simulation held trace p)) (held source)
answered (Replay source file trace) held =
    of_held (ProjectAnswers (ReplayAnswers held file trace)) (of_project (ReplayAnswers held file trace) (of_replay held file trace)) (held source)
answered Other held = (status.Usage, refl)

pub returns : goal.returns
returns c = answered
