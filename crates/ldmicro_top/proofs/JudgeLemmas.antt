-- What the files of a command hold, and the answers that follow.
use Rattle.std.proofs.Common.{◌≡◌, ◌⊎◌, inl, inr, ℕ, ◌≤◌, Bool, true, false, List, length, Option, Some, None, Result, Ok, Err, refl, sym, ap, ◌∙◌, subst, le_refl, arith, IfOk, IfErr}
use Rattle.std.proofs.Math.Path.{fun_ext}
use Rattle.ld_base.specs.Bytes.{Held, SameHeld}
use Rattle.ld_base.specs.Counts.{Counts, Rose}
use Rattle.ladder_tree.specs.declared.fault.ProjectFault.{ProjectFault}
use Rattle.ladder_tree.specs.declared.names.Names.{Names}
use Rattle.ladder_tree.specs.Names.{names_of}
use Rattle.ladder_tree.specs.declared.project.Project.{Project}
use Rattle.chip_tables.specs.declared.target.Target.TheVariants.{Mega16, Interp, AnsiC}
use Rattle.intel_hex.specs.Verdict.{hex_verdict}
use Rattle.intel_hex.specs.declared.fault.HexFault.{HexFault}
use Rattle.intel_hex.specs.declared.image.Image.{Image}
use Rattle.texts.specs.declared.limits.TheConstants.{FILE_BYTES, CODE_BYTES}
use Rattle.ladder_trace.specs.Trace as trace
use Rattle.ladder_trace.specs.declared.trace.Trace.{Trace}
use Rattle.int_code.specs.declared.op.IntProgram.{IntProgram}
use Rattle.interp_code.specs.Machine.{IsRunnable}
use Rattle.interp_code.specs.Program.{IsSound}
use Rattle.interp_code.specs.declared.program.InterpProgram.{InterpProgram}
use Rattle.ld_text.specs.Text.{IsReadAs, text_fault, judged}
use Rattle.project_file.specs.declared.fault.SourceFault.{SourceFault}
use Rattle.project_file.specs.declared.fault.SourceFault.TheVariants as source
use Rattle.ladder_lower.specs.Outcome.{IsLowered}
use Rattle.trace_run.specs.Run.{IsProgramOf}
use Rattle.ldmicro_top.specs.declared.status.InputFault.TheVariants as input
use Rattle.ldmicro_top.specs.declared.status.Status.{Status}
use Rattle.ldmicro_top.specs.declared.status.Status.TheVariants as status
use Rattle.ldmicro_top.specs.Command.{Replay}
use Rattle.ldmicro_top.specs.Ran.{ReplaysHeld, IsReplayed}
use Rattle.ldmicro_top.specs.declared.traced.FileRun.{FileRun}
use Rattle.ldmicro_top.specs.Code.{IsCode, IsCodeRefusedAt}
use Rattle.ldmicro_top.specs.Expected.{HeldAnswers, ProjectAnswers, CodeAnswers, HexAnswersOf, HexAnswers, NoMachineAnswers, FileAnswers, TraceAnswers, AnswersOf, ReplayAnswers, Expected, is_fault, is_end}
use Rattle.ldmicro_top.specs.Judged.{IsJudged}
use Rattle.ldmicro_top.specs.Replayed.{SameNames, replayed}
use Rattle.ldmicro_top.specs.Replays.{Replays}
use Rattle.ldmicro_top.specs.Sources.{HoldsProject, HoldsTrace, HoldsCode, HoldsHex}
use Rattle.ldmicro_top.specs.Steps.{OnlyReads, Declined, status_of_source, lines_of_file, end_of_file}
use Rattle.ldmicro_top.specs.Verdict.{verdict}
use Rattle.ldmicro_top.proofs.CutLemmas.{Found, verdict_whole, hex_whole, code_whole, code_refused_whole}
use Rattle.ldmicro_top.proofs.RoomLemmas.{few}
use Rattle.ldmicro_top.proofs.TargetLemmas.{replays_on, file_on, file_c, file_hex}

-- two steps that only read are one
pub both_read : (told : Bool) (a b c : Counts) (h k l : Held) → OnlyReads told a b h k → OnlyReads told b c k l → OnlyReads told a c h l
both_read told a b c h k l first second = record {
  reads = omega arith;
  absences = omega arith;
  writes = second.writes ∙ first.writes;
  same = λ y name. second.same y name ∙ first.same y name;
}

-- why a step ends the run
abbrev Why : Bool → (Status → Type 0) → Counts → Counts → Status → Type 0
Why told Answers old new s = (s ≡ status.NoMemory)
    ⊎ (((s ≡ status.ReadFault) × (Rose old.reads new.reads ⊎ (Rose old.absences new.absences × (told ≡ true → Answers status.ReadFault))))
    ⊎ ((is_fault s ≡ false) × (is_end s ≡ false) × (told ≡ true → Answers s)))

rose_behind : (a b c : ℕ) → a ≤ b → Rose b c → Rose a c
rose_behind a b c later rose = omega arith

why_behind : (told : Bool) (A B : Status → Type 0) (a b c : Counts) (h k : Held) (s : Status) → OnlyReads told a b h k
    → (told ≡ true → (t : Status) → A t → B t) → Why told A b c s → Why told B a c s
why_behind told A B a b c h k s reads more (inl w) = inl w
why_behind told A B a b c h k s reads more (inr (inl w)) = inr (inl (w.0, cause w.1))
  where
    cause : (Rose b.reads c.reads ⊎ (Rose b.absences c.absences × (told ≡ true → A status.ReadFault)))
        → Rose a.reads c.reads ⊎ (Rose a.absences c.absences × (told ≡ true → B status.ReadFault))
    cause (inl rose) = inl (rose_behind a.reads b.reads c.reads reads.reads rose)
    cause (inr absent) = inr (rose_behind a.absences b.absences c.absences reads.absences absent.0, λ y. more y status.ReadFault (absent.1 y))
why_behind told A B a b c h k s reads more (inr (inr w)) = inr (inr (w.0, w.1, λ y. more y s (w.2 y)))

-- a step ends the run behind others that only read
pub declined_behind : (told : Bool) (A B : Status → Type 0) (a b c : Counts) (h k : Held) (s : Status) → OnlyReads told a b h k
    → (told ≡ true → (t : Status) → A t → B t) → Declined told A b c s → Declined told B a c s
declined_behind told A B a b c h k s reads more d = record { why = why_behind told A B a b c h k s reads more d.why }

-- the first step ends the run
pub declined_more : (told : Bool) (A B : Status → Type 0) (a b : Counts) (h : Held) (s : Status) → (told ≡ true → (t : Status) → A t → B t)
    → Declined told A a b s → Declined told B a b s
declined_more told A B a b h s more d =
    declined_behind told A B a a b h h s (record { reads = le_refl _; absences = le_refl _; writes = refl; same = λ y name. refl }) more d

-- What a name holds.

-- a name that was held before holds the same
pub held_before : (A : List ℕ → Status → Type 0) (old new : Held) (name : List ℕ) (s : Status) → SameHeld old new → HeldAnswers A (new name) s
    → HeldAnswers A (old name) s
held_before A old new name s same h = subst (λ (o : Option (List ℕ)). HeldAnswers A o s) (same name) h

held_more : (A B : List ℕ → Status → Type 0) (o : Option (List ℕ)) (s : Status) → ((text : List ℕ) → A text s → B text s) → HeldAnswers A o s
    → HeldAnswers B o s
held_more A B None s more h = h
held_more A B (Some text) s more h = more text h

pub held_text : (A : List ℕ → Status → Type 0) (held : Held) (name text : List ℕ) (s : Status) → held name ≡ Some text → A text s → HeldAnswers A (held name) s
held_text A held name text s is h = subst (λ (o : Option (List ℕ)). HeldAnswers A o s) (sym is) h

-- Projects.

abbrev pub NoGo : Project → Status → Type 0
NoGo p s = ⊥

-- the name holds a text of the project
abbrev pub ReadsAs : Held → List ℕ → Project → Type 0
ReadsAs held name p = (text : List ℕ) × (held name ≡ Some text) × IsReadAs (judged text) p

-- the name holds a text with the fault
abbrev pub RefusesText : Held → List ℕ → ProjectFault → Type 0
RefusesText held name fault = (text : List ℕ) × (held name ≡ Some text) × (text_fault (judged text) ≡ Some fault)

-- a source that gives no project ends the run
pub source_declined : (told : Bool) (held : Held) (name : List ℕ) (old new : Counts) (fault : SourceFault) → (fault ≡ source.Failed → Rose old.reads new.reads)
    → (fault ≡ source.Absent → Rose old.absences new.absences) → (told ≡ true → fault ≡ source.Absent → held name ≡ None)
    → (told ≡ true → (f : ProjectFault) → fault ≡ source.Refused f → RefusesText held name f)
    → Declined told (HeldAnswers (ProjectAnswers NoGo) (held name)) old new (status_of_source fault)
source_declined told held name old new source.Absent failed absent none refused = record {
  why =
      inr (inl (refl, inr (absent refl, λ y. subst (λ (o : Option (List ℕ)). HeldAnswers (ProjectAnswers NoGo) o status.ReadFault) (sym (none y refl)) refl)));
}
source_declined told held name old new source.Failed failed absent none refused = record { why = inr (inl (refl, inl (failed refl))) }
source_declined told held name old new (source.Memory e) failed absent none refused = record { why = inl refl }
source_declined told held name old new (source.Refused f) failed absent none refused = record {
  why = inr (inr (
    refl,
    refl,
    λ y.
        let r = refused y f refl in
        held_text (ProjectAnswers NoGo) held name r.0 (status.Refused f) r.1 (inr (f, inl r.2, refl)),
  ));
}

-- so does one whose project breaks a rule or does not fit
pub turned_down : (held : Held) (name : List ℕ) (p : Project) (f : ProjectFault) → ReadsAs held name p → verdict p ≡ Some f
    → HeldAnswers (ProjectAnswers NoGo) (held name) (status.Refused f)
turned_down held name p f r h = held_text (ProjectAnswers NoGo) held name r.0 (status.Refused f) r.1 (inr (f, inr (p, r.2, h), refl))

pub holds_project : (held : Held) (name : List ℕ) (p q : Project) → ReadsAs held name p → q ≡ p → verdict p ≡ None → HoldsProject held name q
holds_project held name p q r same h = record { text = r.0; read = r.1; accepted = (subst (IsReadAs (judged r.0)) (sym same) r.2, ap verdict same ∙ h) }

refused_more : (go_on : Project → Status → Type 0) (s : Status) (text : List ℕ) → ProjectAnswers NoGo text s → ProjectAnswers go_on text s
refused_more go_on s text (inl h) = absurd h.2
refused_more go_on s text (inr h) = inr h

-- what refuses a project refuses all that is asked of it
pub project_more : (go_on : Project → Status → Type 0) (o : Option (List ℕ)) (s : Status) → HeldAnswers (ProjectAnswers NoGo) o s
    → HeldAnswers (ProjectAnswers go_on) o s
project_more go_on o s h = held_more (ProjectAnswers NoGo) (ProjectAnswers go_on) o s (refused_more go_on s) h

pub project_on : (go_on : Project → Status → Type 0) (held : Held) (name : List ℕ) (p : Project) (s : Status) → HoldsProject held name p → go_on p s
    → HeldAnswers (ProjectAnswers go_on) (held name) s
project_on go_on held name p s h on = held_text (ProjectAnswers go_on) held name h.text s h.read (inl (p, h.accepted, on))

-- Traces.

pub holds_trace : (held : Held) (name part : List ℕ) (n : Names) (t : Trace) → Found FILE_BYTES held name part → trace.verdict n part ≡ Ok t
    → HoldsTrace held name n t
holds_trace held name part n t f h = record { text = f.0; read = f.1; given = sym (verdict_whole n f.0) ∙ ap (trace.verdict n) (sym f.2) ∙ h }

abbrev pub NoRun : Trace → Status → Type 0
NoRun t s = ⊥

pub refused_trace : (held : Held) (name part : List ℕ) (n : Names) (line : ℕ) → Found FILE_BYTES held name part → trace.verdict n part ≡ Err line
    → HeldAnswers (TraceAnswers n NoRun) (held name) (status.BadInput (input.Trace line))
refused_trace held name part n line f h =
    let same : trace.verdict n f.0 ≡ Err line = sym (verdict_whole n f.0) ∙ ap (trace.verdict n) (sym f.2) ∙ h in
    let answer = status.BadInput (input.Trace line) in
    held_text (TraceAnswers n NoRun) held name f.0 answer f.1 (subst (λ (v : Result Trace ℕ). AnswersOf NoRun v answer) (sym same) refl)

stops_more : (go_on : Trace → Status → Type 0) (s : Status) (v : Result Trace ℕ) → AnswersOf NoRun v s → AnswersOf go_on v s
stops_more go_on s (Ok t) h = absurd h
stops_more go_on s (Err line) h = h

-- what refuses a trace refuses all that is asked of it
pub trace_more : (n : Names) (go_on : Trace → Status → Type 0) (o : Option (List ℕ)) (s : Status) → HeldAnswers (TraceAnswers n NoRun) o s
    → HeldAnswers (TraceAnswers n go_on) o s
trace_more n go_on o s h = held_more (TraceAnswers n NoRun) (TraceAnswers n go_on) o s (λ text. stops_more go_on s (trace.verdict n text)) h

pub trace_on : (n : Names) (go_on : Trace → Status → Type 0) (held : Held) (name : List ℕ) (t : Trace) (s : Status) → HoldsTrace held name n t → go_on t s
    → HeldAnswers (TraceAnswers n go_on) (held name) s
trace_on n go_on held name t s h on =
    held_text (TraceAnswers n go_on) held name h.text s h.read (subst (λ (v : Result Trace ℕ). AnswersOf go_on v s) (sym h.given) on)

-- a trace that a name held before is the same
pub trace_before : (old new : Held) (name : List ℕ) (n m : Names) (t : Trace) → SameHeld old new → n ≡ m → HoldsTrace new name n t → HoldsTrace old name m t
trace_before old new name n m t same names h =
    record { text = h.text; read = sym (same name) ∙ h.read; given = subst (λ (x : Names). trace.verdict x h.text ≡ Ok t) names h.given }

-- Code.

pub holds_code : (held : Held) (name part : List ℕ) (n : Names) (said : InterpProgram) → Found CODE_BYTES held name part → IsCode part said
    → SameNames n said.names → HoldsCode held name n said.program
holds_code held name part n said f h same = record {
  text = f.0;
  read = f.1;
  said = said;
  code = code_whole f.0 said (subst (λ (x : List ℕ). IsCode x said) f.2 h);
  names = same;
  program = refl;
}

-- a text with other names is another project's
pub other_project : (held : Held) (name part : List ℕ) (n : Names) (said : InterpProgram) → Found CODE_BYTES held name part → IsCode part said
    → (SameNames n said.names → ⊥) → HeldAnswers (CodeAnswers n (λ s. ⊥)) (held name) (status.BadInput (input.OtherProject said.code_line))
other_project held name part n said f h differ =
    held_text (CodeAnswers n (λ s. ⊥)) held name f.0 (status.BadInput (input.OtherProject said.code_line)) f.1
    (inl (said, code_whole f.0 said (subst (λ (x : List ℕ). IsCode x said) f.2 h), inr (differ, refl)))

pub refused_code : (held : Held) (name part : List ℕ) (n : Names) (line : ℕ) → Found CODE_BYTES held name part → IsCodeRefusedAt part line
    → HeldAnswers (CodeAnswers n (λ s. ⊥)) (held name) (status.BadInput (input.Interp line))
refused_code held name part n line f h =
    held_text (CodeAnswers n (λ s. ⊥)) held name f.0 (status.BadInput (input.Interp line)) f.1
    (inr (line, code_refused_whole f.0 line (subst (λ (x : List ℕ). IsCodeRefusedAt x line) f.2 h), refl))

differs_more : (n : Names) (go_on : Status → Type 0) (s : Status) (text : List ℕ) → CodeAnswers n (λ t. ⊥) text s → CodeAnswers n go_on text s
differs_more n go_on s text (inl h) = inl (h.0, h.1, names h.2)
  where
    names : ((SameNames n h.0.names × ⊥) ⊎ ((SameNames n h.0.names → ⊥) × (s ≡ status.BadInput (input.OtherProject h.0.code_line))))
        → (SameNames n h.0.names × go_on s) ⊎ ((SameNames n h.0.names → ⊥) × (s ≡ status.BadInput (input.OtherProject h.0.code_line)))
    names (inl same) = absurd same.1
    names (inr differ) = inr differ
differs_more n go_on s text (inr h) = inr h

-- what a file answers, by what is asked of its bytes
abbrev pub OfFile : Project → (List ℕ → Status → Type 0) → List ℕ → Status → Type 0
OfFile p go_on file answer = FileAnswers p (go_on file) file answer

-- what refuses a text refuses all that is asked of it
pub file_more : (p : Project) (go_on : List ℕ → Status → Type 0) (o : Option (List ℕ)) (s : Status) → p.target ≡ Interp
    → HeldAnswers (CodeAnswers (names_of p.rungs) (λ t. ⊥)) o s → HeldAnswers (OfFile p go_on) o s
file_more p go_on o s e h =
    held_more (CodeAnswers (names_of p.rungs) (λ t. ⊥)) (OfFile p go_on) o s
    (λ text k. file_on p (go_on text) text s e (differs_more (names_of p.rungs) (go_on text) s text k)) h

-- a file that no machine runs is not asked for what it says
pub file_declined : (p : Project) (go_on : List ℕ → Status → Type 0) (o : Option (List ℕ)) (s : Status) → p.target ≡ AnsiC
    → HeldAnswers NoMachineAnswers o s → HeldAnswers (OfFile p go_on) o s
file_declined p go_on o s e h = held_more NoMachineAnswers (OfFile p go_on) o s (λ text k. file_c p (go_on text) text s e k) h

-- HEX files.

pub holds_hex : (held : Held) (name part : List ℕ) (image : Image) → Found FILE_BYTES held name part → hex_verdict Mega16 part ≡ Ok image
    → HoldsHex held name image
holds_hex held name part image f h =
    record { text = f.0; read = f.1; is = sym (hex_whole Mega16 f.0) ∙ ap (hex_verdict Mega16) (sym f.2) ∙ h }

pub refused_hex : (held : Held) (name part : List ℕ) (fault : HexFault) → Found FILE_BYTES held name part → hex_verdict Mega16 part ≡ Err fault
    → HeldAnswers (HexAnswers (λ s. ⊥)) (held name) (status.BadInput (input.Hex fault.line fault.cause))
refused_hex held name part fault f h =
    let same : hex_verdict Mega16 f.0 ≡ Err fault = sym (hex_whole Mega16 f.0) ∙ ap (hex_verdict Mega16) (sym f.2) ∙ h in
    let answer = status.BadInput (input.Hex fault.line fault.cause) in
    held_text (HexAnswers (λ s. ⊥)) held name f.0 answer f.1 (subst (λ (v : Result Image HexFault). HexAnswersOf (λ s. ⊥) v answer) (sym same) refl)

hex_stops : (go_on : Status → Type 0) (s : Status) (v : Result Image HexFault) → HexAnswersOf (λ t. ⊥) v s → HexAnswersOf go_on v s
hex_stops go_on s (Ok image) h = absurd h
hex_stops go_on s (Err fault) h = h

-- what refuses a HEX file refuses all that is asked of it
pub hex_more : (p : Project) (go_on : List ℕ → Status → Type 0) (o : Option (List ℕ)) (s : Status) → p.target ≡ Mega16
    → HeldAnswers (HexAnswers (λ t. ⊥)) o s → HeldAnswers (OfFile p go_on) o s
hex_more p go_on o s e h =
    held_more (HexAnswers (λ t. ⊥)) (OfFile p go_on) o s
    (λ text k. file_hex p (go_on text) text s e (hex_stops (go_on text) s (hex_verdict Mega16 text) k)) h

pub hex_taken : (p : Project) (go_on : List ℕ → Status → Type 0) (held : Held) (name : List ℕ) (image : Image) (s : Status) → p.target ≡ Mega16
    → (h : HoldsHex held name image) → go_on h.text s → HeldAnswers (OfFile p go_on) (held name) s
hex_taken p go_on held name image s e h on =
    held_text (OfFile p go_on) held name h.text s h.read
    (file_hex p (go_on h.text) h.text s e (subst (λ (v : Result Image HexFault). HexAnswersOf (go_on h.text) v s) (sym h.is) on))

pub file_taken : (p : Project) (go_on : List ℕ → Status → Type 0) (held : Held) (name : List ℕ) (program : IntProgram) (s : Status) → p.target ≡ Interp
    → (h : HoldsCode held name (names_of p.rungs) program) → go_on h.text s
    → HeldAnswers (OfFile p go_on) (held name) s
file_taken p go_on held name program s e h on =
    held_text (OfFile p go_on) held name h.text s h.read (file_on p (go_on h.text) h.text s e (inl (h.said, h.code, inl (h.names, on))))

-- the program of the text runs, and the run ends well
pub held_replays : (p : Project) (held : Held) (name : List ℕ) (program : IntProgram) (t : Trace) (printed : List ℕ) → p.target ≡ Interp
    → (h : HoldsCode held name (names_of p.rungs) program) → printed ≡ replayed p program t
    → Replays p h.text t printed status.Ok
held_replays p held name program t printed e h lines = replays_on p h.text t printed status.Ok e (record {
  said = h.said;
  text = h.code;
  names = h.names;
  lines = lines ∙ ap (λ (q : IntProgram). replayed p q t) (sym h.program);
  ends = refl;
})

-- code that a name held before is the same
pub code_before : (old new : Held) (name : List ℕ) (n m : Names) (program : IntProgram) → SameHeld old new → n ≡ m → HoldsCode new name n program
    → HoldsCode old name m program
code_before old new name n m program same names h = record {
  text = h.text;
  read = sym (same name) ∙ h.read;
  said = h.said;
  code = h.code;
  names = subst (λ (x : Names). SameNames x h.said.names) names h.names;
  program = h.program;
}

-- Programs that run over a trace.

pub lowered_runs : (n : Names) (p : Project) (program : IntProgram) → IsJudged n p → IsLowered n p program → IsProgramOf n program
lowered_runs n p program judged h =
    let room = few p.target n judged.fits in
    let kept = h.formed.kept in
    record {
      runs = record { well_formed = h.formed; persistent = omega (arith, h.sizes.persistent, room.persistent); length = omega (arith, h.room.ops) };
      places = record { outputs = sym h.sizes.outputs; variables = sym h.sizes.variables; relays = omega (arith, h.sizes.kept, kept) };
      inputs = h.sizes.inputs;
      analogs = h.sizes.analogs;
    }

pub said_runs : (n : Names) (said : InterpProgram) → IsRunnable said → IsSound said.names said.program → SameNames n said.names → IsProgramOf n said.program
said_runs n said h sound same = record {
  runs = h.runs;
  places = record {
    outputs = ap length (sym same.outputs) ∙ h.places.outputs;
    variables = ap length (sym same.variables) ∙ h.places.variables;
    relays = subst (λ (names : List (List ℕ)). length names ≤ said.program.bits) same.relays h.places.relays;
  };
  inputs = sound.input_count ∙ ap length same.inputs;
  analogs = sound.analog_count ∙ ap length same.analogs;
}

-- Files that are run for a project.

if_ok : {A E : Type 0} (P Q : A → Type 0) (r : Result A E) → ((x : A) → P x → Q x) → IfOk r P → IfOk r Q
if_ok P Q (Ok x) more h = more x h
if_ok P Q (Err e) more h = tt

if_err : {A E : Type 0} (P Q : E → Type 0) (r : Result A E) → ((e : E) → P e → Q e) → IfErr r P → IfErr r Q
if_err P Q (Ok x) more h = tt
if_err P Q (Err e) more h = more e h

module _ (told : Bool) (old mid : Held) (name file trace : List ℕ) (p : Project) (a b : Counts) (reads : OnlyReads told a b old mid)
    (holds : told ≡ true → HoldsProject old name p) where
  same_held : told ≡ true → mid ≡ old
  same_held y = fun_ext (reads.same y)

  pub source_declines : (c : Counts) (s : Status) → Declined told (ReplayAnswers mid file trace p) b c s → Declined told (Expected (Replay name file trace) old) a c s
  source_declines c s d =
      declined_behind told (ReplayAnswers mid file trace p) (Expected (Replay name file trace) old) a b c old mid s reads
      (λ y t h. project_on (ReplayAnswers old file trace) old name p t (holds y) (subst (λ (h : Held). ReplayAnswers h file trace p t) (same_held y) h)) d

  pub source_replays : (r : Result FileRun Status) → (told ≡ true → IfOk r (λ x. ReplaysHeld mid file trace p (lines_of_file x) (end_of_file x)))
      → told ≡ true → IfOk r (λ x. IsReplayed name file trace old (lines_of_file x) (end_of_file x))
  source_replays r h y =
      if_ok (λ x. ReplaysHeld mid file trace p (lines_of_file x) (end_of_file x)) (λ x. IsReplayed name file trace old (lines_of_file x) (end_of_file x)) r
      (λ x k. record {
        project = p;
        source = holds y;
        runs = subst (λ (h : Held). ReplaysHeld h file trace p (lines_of_file x) (end_of_file x)) (same_held y) k;
      }) (h y)

  pub source_refuses : (c : Counts) (r : Result FileRun Status) → IfErr r (Declined told (ReplayAnswers mid file trace p) b c)
      → IfErr r (Declined told (Expected (Replay name file trace) old) a c)
  source_refuses c r h =
      if_err (Declined told (ReplayAnswers mid file trace p) b c) (Declined told (Expected (Replay name file trace) old) a c) r (source_declines c) h
