use Rattle.std.proofs.Common.{◌≡◌, ◌⊎◌, inl, inr, ℕ, List, Option, Some, None, Result, Ok, Err, sym, ap, ◌∙◌, subst}
use Rattle.ld_base.specs.Bytes.{Held}
use Rattle.chip_tables.specs.declared.target.Target.{Target}
use Rattle.chip_tables.specs.declared.target.Target.TheVariants.{F628, F877, Mega16, Interp, AnsiC}
use Rattle.ladder_tree.specs.Names.{names_of}
use Rattle.ladder_trace.specs.Trace as trace
use Rattle.ladder_trace.specs.declared.trace.Trace.{Trace}
use Rattle.ladder_tree.specs.declared.fault.ProjectFault.{ProjectFault}
use Rattle.ladder_tree.specs.declared.names.Names.{Names}
use Rattle.ladder_tree.specs.declared.project.Project.{Project}
use Rattle.ld_text.specs.Lines.{lines_of}
use Rattle.ld_text.specs.Text.{judged}
use Rattle.ld_text.proofs.ProjectLemmas.{one_project}
use Rattle.interp_code.specs.declared.program.InterpProgram.{InterpProgram}
use Rattle.ldmicro_top.specs.Verdict.{verdict}
use Rattle.ldmicro_top.specs.Replayed.{SameNames}
use Rattle.ldmicro_top.specs.Replays.{status_of_run}
use Rattle.intel_hex.specs.Verdict.{hex_verdict}
use Rattle.intel_hex.specs.declared.fault.HexFault.{HexFault}
use Rattle.intel_hex.specs.declared.image.Image.{Image}
use Rattle.avr_file.specs.Replays.{ReplaysImage}
use Rattle.avr_file.proofs.OnceLemmas.{once}
use Rattle.ldmicro_top.specs.declared.status.InputFault.TheVariants as input
use Rattle.ldmicro_top.specs.declared.status.Status.{Status}
use Rattle.ldmicro_top.specs.declared.status.Status.TheVariants as status
use Rattle.ldmicro_top.specs.Command.{Command, Compile, Simulate, Replay, Other}
use Rattle.ldmicro_top.specs.Expected.{IsRefusedFor, IsAccepted, ProjectAnswers, CompileAnswers, SimulateAnswers, ReplayAnswers, HeldAnswers, TraceAnswers, AnswersOf, CodeAnswers, HexAnswersOf, FileAnswersOn, RunAnswers, Expected}
use Rattle.ldmicro_top.proofs.TargetLemmas.{RanOn, OnInterp, OnAvr, ran_on}
use Rattle.ldmicro_top.proofs.CodeLemmas.{one_refusal, code_stands, one_code}
use Rattle.ldmicro_top.proofs.laws.one_answer_is_expected.Goals as goal

-- one status at most is an answer
abbrev IsSingle : (Status → Type 0) → Type 0
IsSingle Answers = (a b : Status) → Answers a → Answers b → a ≡ b

same_project : (text : List ℕ) (p q : Project) → IsAccepted text p → IsAccepted text q → p ≡ q
same_project text p q h k = one_project (lines_of (judged text)) p q h.0.project k.0.project

-- no text is accepted and refused
not_both : (text : List ℕ) (p : Project) (f : ProjectFault) → IsAccepted text p → IsRefusedFor text f → ⊥
not_both text p f h (inl k) = let no = sym h.0.faultless ∙ k in absurd cc
not_both text p f h (inr k) =
    let same = one_project (lines_of (judged text)) p k.0 h.0.project k.1.project in
    let no = sym h.1 ∙ ap verdict same ∙ k.2 in
    absurd cc

one_fault : (text : List ℕ) (f g : ProjectFault) → IsRefusedFor text f → IsRefusedFor text g → f ≡ g
one_fault text f g (inl h) (inl k) = let both = sym h ∙ k in cc
one_fault text f g (inl h) (inr k) = let no = sym h ∙ k.1.faultless in absurd cc
one_fault text f g (inr h) (inl k) = let no = sym k ∙ h.1.faultless in absurd cc
one_fault text f g (inr h) (inr k) =
    let same = one_project (lines_of (judged text)) h.0 k.0 h.1.project k.1.project in
    let both = sym h.2 ∙ ap verdict same ∙ k.2 in
    cc

of_project : (go_on : Project → Status → Type 0) → ((p : Project) → IsSingle (go_on p)) → (text : List ℕ) → IsSingle (ProjectAnswers go_on text)
of_project go_on one text a b (inl h) (inl k) = one k.0 a b (subst (λ (p : Project). go_on p a) (same_project text h.0 k.0 h.1 k.1) h.2) k.2
of_project go_on one text a b (inl h) (inr k) = absurd (not_both text h.0 k.0 h.1 k.1)
of_project go_on one text a b (inr h) (inl k) = absurd (not_both text k.0 h.0 k.1 h.1)
of_project go_on one text a b (inr h) (inr k) = h.2 ∙ ap status.Refused (one_fault text h.0 k.0 h.1 k.1) ∙ sym k.2

of_held : (go_on : List ℕ → Status → Type 0) → ((text : List ℕ) → IsSingle (go_on text)) → (o : Option (List ℕ)) → IsSingle (HeldAnswers go_on o)
of_held go_on one None a b h k = h ∙ sym k
of_held go_on one (Some text) a b h k = one text a b h k

of_trace : (n : Names) (go_on : Trace → Status → Type 0) → ((t : Trace) → IsSingle (go_on t)) → (text : List ℕ) → IsSingle (TraceAnswers n go_on text)
of_trace n go_on one text = by (trace.verdict n text)
  where
    by : (v : Result Trace ℕ) → IsSingle (AnswersOf go_on v)
    by (Ok t) a b h k = one t a b h k
    by (Err line) a b h k = h ∙ sym k

-- what a text that says the program answers
abbrev ProgramAnswers : Names → (Status → Type 0) → InterpProgram → Status → Type 0
ProgramAnswers n go_on p answer =
    (SameNames n p.names × go_on answer) ⊎ ((SameNames n p.names → ⊥) × (answer ≡ status.BadInput (input.OtherProject p.code_line)))

of_program : (n : Names) (go_on : Status → Type 0) → IsSingle go_on → (p : InterpProgram) → IsSingle (ProgramAnswers n go_on p)
of_program n go_on one p a b (inl h) (inl k) = one a b h.1 k.1
of_program n go_on one p a b (inl h) (inr k) = absurd (k.0 h.0)
of_program n go_on one p a b (inr h) (inl k) = absurd (h.0 k.0)
of_program n go_on one p a b (inr h) (inr k) = h.1 ∙ sym k.1

of_code : (n : Names) (go_on : Status → Type 0) → IsSingle go_on → (text : List ℕ) → IsSingle (CodeAnswers n go_on text)
of_code n go_on one text a b (inl h) (inl k) =
    of_program n go_on one k.0 a b (subst (λ (p : InterpProgram). ProgramAnswers n go_on p a) (one_code text h.0 k.0 h.1 k.1) h.2) k.2
of_code n go_on one text a b (inl h) (inr k) = absurd (code_stands text h.0 k.0 h.1 k.1)
of_code n go_on one text a b (inr h) (inl k) = absurd (code_stands text k.0 h.0 k.1 h.1)
of_code n go_on one text a b (inr h) (inr k) = h.2 ∙ ap (λ line. status.BadInput (input.Interp line)) (one_refusal text h.0 k.0 h.1 k.1) ∙ sym k.2

of_hex : (go_on : Status → Type 0) → IsSingle go_on → (v : Result Image HexFault) → IsSingle (HexAnswersOf go_on v)
of_hex go_on one (Ok image) a b h k = one a b h k
of_hex go_on one (Err fault) a b h k = h ∙ sym k

of_file : (t : Target) (n : Names) (go_on : Status → Type 0) → IsSingle go_on → (file : List ℕ) → IsSingle (FileAnswersOn t n go_on file)
of_file F628 n go_on one file a b h k = absurd h
of_file F877 n go_on one file a b h k = absurd h
of_file Mega16 n go_on one file a b h k = of_hex go_on one (hex_verdict Mega16 file) a b h k
of_file Interp n go_on one file a b h k = of_code n go_on one file a b h k
of_file AnsiC n go_on one file a b h k = h ∙ sym k

of_run : (p : Project) (file : List ℕ) (t : Trace) → IsSingle (RunAnswers p file t)
of_run p file t a b h k = by (ran_on p file t h.0 a h.1) (ran_on p file t k.0 b k.1)
  where
    by : RanOn p file t h.0 a → RanOn p file t k.0 b → a ≡ b
    by (OnInterp e r) (OnInterp f s) = r.ends ∙ sym s.ends
    by (OnAvr e r) (OnAvr f s) =
        let both : Ok r.image ≡ Ok s.image = sym r.read ∙ s.read in
        let same : r.image ≡ s.image = cc in
        let runs = once p s.image t h.0 k.0 r.end s.end (subst (λ (i : Image). ReplaysImage p i t h.0 r.end) same r.runs) s.runs in
        r.ends ∙ ap status_of_run runs.1 ∙ sym s.ends
    by (OnInterp e r) (OnAvr f s) = let clash : Interp ≡ Mega16 = sym e ∙ f in absurd cc
    by (OnAvr e r) (OnInterp f s) = let clash : Mega16 ≡ Interp = sym e ∙ f in absurd cc

of_simulation : (held : Held) (trace : List ℕ) (p : Project) → IsSingle (SimulateAnswers held trace p)
of_simulation held trace p =
    let n = names_of p.rungs in
    let go_on : Trace → Status → Type 0 = λ t answer. answer ≡ status.Ok in
    of_held (TraceAnswers n go_on) (of_trace n go_on (λ t a b h k. h ∙ sym k)) (held trace)

of_replay : (held : Held) (file trace : List ℕ) (p : Project) → IsSingle (ReplayAnswers held file trace p)
of_replay held file trace p =
    let n = names_of p.rungs in
    let next : List ℕ → Status → Type 0 = λ code. HeldAnswers (TraceAnswers n (RunAnswers p code)) (held trace) in
    let one : (code : List ℕ) → IsSingle (next code) = λ code.
    of_held (TraceAnswers n (RunAnswers p code)) (of_trace n (RunAnswers p code) (of_run p code)) (held trace) in
    of_held (λ code. FileAnswersOn p.target n (next code) code) (λ code. of_file p.target n (next code) (one code) code) (held file)

one_expected : (command : Command) (held : Held) → IsSingle (Expected command held)
one_expected (Compile source dest) held = of_held (ProjectAnswers CompileAnswers) (of_project CompileAnswers (λ p a b h k. h ∙ sym k)) (held source)
one_expected (Simulate source trace) held =
    of_held (ProjectAnswers (SimulateAnswers held trace)) (of_project (SimulateAnswers held trace) (of_simulation held trace)) (held source)
one_expected (Replay source file trace) held =
    of_held (ProjectAnswers (ReplayAnswers held file trace)) (of_project (ReplayAnswers held file trace) (of_replay held file trace)) (held source)
one_expected Other held = λ a b h k. h ∙ sym k

pub returns : goal.returns
returns c = one_expected
