-- From the steps to a whole run.
use Rattle.std.proofs.Common.{◌≡◌, ◌⊎◌, inl, inr, ℕ, ◌≤◌, Bool, true, false, List, [], ◌∷◌, ◌++◌, refl, sym, ap, ◌∙◌, subst, ⊎_elim, append-nil, append_assoc, cond, Some, arith}
use Rattle.std.specs.Str.{bytes_eq}
use Rattle.ld_base.specs.Counts.{Counts, Rose}
use Rattle.ld_base.specs.Bytes.{Held, SameHeld, HoldsThen}
use Rattle.ld_base.specs.declared.files.FileFault.{FileFault}
use Rattle.ld_base.specs.declared.files.FileFault.TheVariants as file
use Rattle.ldmicro_top.specs.declared.status.Status.{Status}
use Rattle.ldmicro_top.specs.declared.status.Status.TheVariants.{Ok, Usage, Refused, ReadFault, WriteFault, NoMemory, BadInput, NoCycleEnd, Stuck}
use Rattle.ldmicro_top.specs.Command.{Command, Compile}
use Rattle.ldmicro_top.specs.Expected.{Expected, is_fault, is_cut, is_end}
use Rattle.ldmicro_top.specs.StatusLine.{line_of}
use Rattle.ldmicro_top.specs.Ran.{Ran, IsCompiled, Makes, DestHolds, Prints, IsFrontOf, ReadsFiles, WritesFile, ReadCause, WriteCause, IsFrontPrinted, IsFrontHeld, IsComplete}
use Rattle.avr_file.specs.Run as avr
use Rattle.chip_run.specs.declared.end.RunEnd.{RunEnd}
use Rattle.chip_run.specs.declared.end.RunEnd.TheVariants as run
use Rattle.ldmicro_top.specs.Replays.{status_of_run}
use Rattle.ldmicro_top.specs.Steps.{Told, Declined, Unwritten, end_of_file, status_of}
use Rattle.ldmicro_top.specs.declared.traced.FileRun.{FileRun}
use Rattle.ldmicro_top.specs.declared.traced.FileRun.TheVariants.{Interp, Avr}
use Rattle.ldmicro_top.specs.World.{World}
use Rattle.ldmicro_top.proofs.GoodLemmas.{compiled_good}

-- how a chip's run ends ends what was asked for
run_ends : (e : RunEnd) → is_end (status_of_run e) ≡ true
run_ends run.Done = refl
run_ends (run.Late cycle) = refl
run_ends (run.Stuck cycle at) = refl

pub is_end_of_file : (r : FileRun) → is_end (end_of_file r) ≡ true
is_end_of_file (Interp r) = refl
is_end_of_file (Avr r) = run_ends (avr.end_of_run r)

-- a text that is written behind another
pub told_behind : (shown : Bool) (f g h : ℕ) (w x y first line : List ℕ) (wanted status : Status) → f ≤ g → (shown ≡ true → x ≡ w ++ first)
    → Told shown g h x y line wanted status → Told shown f h w y (first ++ line) wanted status
told_behind shown f g h w x y first line wanted status later is t = record {
  cases = ⊎_elim
      (λ e. inl (e.0, λ s. e.1 s ∙ ap (λ z. z ++ line) (is s) ∙ append_assoc w first line))
      (⊎_elim (λ r. inr (inl (r.0, rose f g h later r.1))) (λ e. inr (inr e)))
      t.cases;
  later = let all = t.later in omega arith;
  part = λ s.
      let p = t.part s in
      (first ++ p.0, p.1 ∙ ap (λ z. z ++ p.0) (is s) ∙ append_assoc w first p.0, (p.2.0, ap (λ z. first ++ z) p.2.1 ∙ sym (append_assoc first p.0 p.2.0)));
}
  where
    rose : (a b c : ℕ) → a ≤ b → Rose b c → Rose a c
    rose a b c later r = omega arith

-- lines of which a front was written, where the output failed or memory was wanting
pub unfinished : (shown : Bool) (f g : ℕ) (w x first : List ℕ) (ending : Status) (fault : FileFault) (status : Status) → status ≡ status_of fault → f ≤ g
    → (fault ≡ file.Failed → Rose f g)
    → (shown ≡ true → (front : List ℕ) × (rest : List ℕ) × (first ≡ front ++ rest) × (x ≡ w ++ front))
    → Told shown f g w x (first ++ line_of ending) ending status
unfinished shown f g w x first ending fault status is later rose part = record {
  cases = by fault is rose;
  later = later;
  part = λ s.
      let p = part s in
      (p.0, p.3, (p.1 ++ line_of ending, ap (λ z. z ++ line_of ending) p.2 ∙ append_assoc p.0 p.1 (line_of ending)));
}
  where
    by : (e : FileFault) → status ≡ status_of e → (e ≡ file.Failed → Rose f g)
        → ((status ≡ ending) × (shown ≡ true → x ≡ w ++ (first ++ line_of ending))) ⊎ (((status ≡ WriteFault) × Rose f g) ⊎ (status ≡ NoMemory))
    by file.Failed is rose = inr (inl (is, rose refl))
    by (file.Memory e) is rose = inr (inr is)

-- no count fell
pub record Later (old new : World) : Type 0 where
  pub reads : old.counts.reads ≤ new.counts.reads
  pub absences : old.counts.absences ≤ new.counts.absences
  pub writes : old.counts.writes ≤ new.counts.writes
  pub faults : old.faults ≤ new.faults

abbrev CutText : Bool → Bool → Command → World → World → Type 0
CutText told shown command old new = told ≡ true → shown ≡ true → (front : List ℕ) × (new.written ≡ old.written ++ front) × IsFrontPrinted command old new front

apart : true ≡ false → ⊥
apart e = cc

module _ (told shown : Bool) (command : Command) (old new : World) (later : Later old new) where
  -- an answer that is told whole, and is no end
  whole_ran : (status : Status) → is_cut status ≡ false → is_end status ≡ false → (told ≡ true → is_fault status ≡ false → Expected command old.held status)
      → (status ≡ ReadFault → ReadCause told command old new) → (shown ≡ true → new.written ≡ old.written ++ line_of status)
      → (told ≡ true → SameHeld old.held new.held) → Ran told shown command old new status
  whole_ran status uncut undone answer cause text same = record {
    answer = answer;
    read_fault = cause;
    write_fault = λ e. absurd (apart (ap is_cut (sym e) ∙ uncut));
    text = λ s _ _. text s;
    done = λ t e. absurd (apart (sym e ∙ undone));
    same = λ t _ _. same t;
    cut_text = λ t s e. absurd (apart (sym e ∙ uncut));
    cut_files = λ t e. absurd (apart (sym e ∙ uncut));
    reads = later.reads;
    absences = later.absences;
    writes = later.writes;
    faults = later.faults;
  }

  -- a write fault, or want of memory
  cut_ran : (status : Status) → is_cut status ≡ true → (status ≡ WriteFault → WriteCause told command old new) → CutText told shown command old new
      → (told ≡ true → IsFrontHeld command old new) → Ran told shown command old new status
  cut_ran status cut cause text files = record {
    answer = λ t e. absurd (fault status cut e);
    read_fault = λ e. absurd (apart (sym cut ∙ ap is_cut e));
    write_fault = cause;
    text = λ s e. absurd (apart (sym cut ∙ e));
    done = λ t e. absurd (ends status cut e);
    same = λ t e. absurd (apart (sym cut ∙ e));
    cut_text = λ t s _. text t s;
    cut_files = λ t _. files t;
    reads = later.reads;
    absences = later.absences;
    writes = later.writes;
    faults = later.faults;
  }
    where
      fault : (status : Status) → is_cut status ≡ true → is_fault status ≡ false → ⊥
      fault Ok c f = cc
      fault Usage c f = cc
      fault (Refused n) c f = cc
      fault ReadFault c f = cc
      fault WriteFault c f = cc
      fault NoMemory c f = cc
      fault (BadInput n) c f = cc
      fault (NoCycleEnd n) c f = cc
      fault (Stuck n at) c f = cc

      ends : (status : Status) → is_cut status ≡ true → is_end status ≡ true → ⊥
      ends Ok c e = cc
      ends Usage c e = cc
      ends (Refused n) c e = cc
      ends ReadFault c e = cc
      ends WriteFault c e = cc
      ends NoMemory c e = cc
      ends (BadInput n) c e = cc
      ends (NoCycleEnd n) c e = cc
      ends (Stuck n at) c e = cc

  -- where the wanted status is told, or a front of its text
  told_ran : (line : List ℕ) (wanted status : Status) → Told shown old.faults new.faults old.written new.written line wanted status
      → ((shown ≡ true → new.written ≡ old.written ++ line) → Ran told shown command old new wanted)
      → (told ≡ true → (front : List ℕ) → IsFrontOf front line → IsFrontPrinted command old new front) → (told ≡ true → IsFrontHeld command old new)
      → Ran told shown command old new status
  told_ran line wanted status t whole fronts files = ⊎_elim
      (λ e. subst (Ran told shown command old new) (sym e.0) (whole e.1))
      (⊎_elim
      (λ w. subst (Ran told shown command old new) (sym w.0) (cut_ran WriteFault refl (λ _. inl w.1) text files))
      (λ e. subst (Ran told shown command old new) (sym e) (cut_ran NoMemory refl (λ f. absurd (other f)) text files)))
      t.cases
    where
      text : CutText told shown command old new
      text y s = let p = t.part s in (p.0, p.1, fronts y p.0 p.2)

      other : NoMemory ≡ WriteFault → ⊥
      other e = cc

  none_front : (front : List ℕ) → IsFrontOf front [] → IsFrontPrinted command old new front
  none_front [] h = inl refl
  none_front (x ∷ xs) h = absurd (none h.1)
    where
      none : [] ≡ x ∷ (xs ++ h.0) → ⊥
      none e = cc

  abbrev Gives : Status → Type 0
  Gives status = Ran told shown command old new status

  abbrev TellsLine : Status → Status → Type 0
  TellsLine wanted status = Told shown old.faults new.faults old.written new.written (line_of wanted) wanted status

  -- an answer of which nothing is written
  cut_line : (wanted status : Status) → line_of wanted ≡ [] → is_cut wanted ≡ true → (wanted ≡ WriteFault → WriteCause told command old new)
      → (told ≡ true → IsFrontHeld command old new) → TellsLine wanted status → Gives status
  cut_line wanted status none cut cause files t = told_ran (line_of wanted) wanted status t
      (λ text. cut_ran wanted cut cause (λ _ s. ([], text s ∙ ap (λ l. old.written ++ l) none, inl refl)) files)
      (λ _ front h. none_front front (rw none at h))
      files

  no_memory : (status : Status) → (told ≡ true → IsFrontHeld command old new) → TellsLine NoMemory status → Gives status
  no_memory status files t = cut_line NoMemory status refl refl (λ e. cc) files t

  write_failed : (status : Status) → WritesFile command → Rose old.counts.writes new.counts.writes → (told ≡ true → Expected command old.held Ok)
      → (told ≡ true → IsFrontHeld command old new) → TellsLine WriteFault status → Gives status
  write_failed status writes rose good files t = cut_line WriteFault status refl refl (λ _. inr (rose, writes, good)) files t

  prints_line : (wanted : Status) → is_end wanted ≡ false → Expected command old.held wanted → Prints command old.held (line_of wanted)
  prints_line wanted undone good = inl (wanted, good, undone, refl)

  absent : (status : Status) → ReadCause told command old new → (told ≡ true → SameHeld old.held new.held) → TellsLine ReadFault status → Gives status
  absent status cause same t = told_ran (line_of ReadFault) ReadFault status t
      (λ text. whole_ran ReadFault refl refl (λ _ e. absurd (apart e)) (λ _. cause) text same)
      (λ y front h. inr (⊎_elim (λ rose. inr (rose, h)) (λ a. inl (line_of ReadFault, prints_line ReadFault refl (a.1 y), h)) cause.1))
      (λ y. inl (same y))

  refused : (wanted status : Status) → is_fault wanted ≡ false → is_end wanted ≡ false → (told ≡ true → Expected command old.held wanted)
      → (told ≡ true → SameHeld old.held new.held) → TellsLine wanted status → Gives status
  refused wanted status fine undone answer same t = told_ran (line_of wanted) wanted status t
      (λ text. whole_ran wanted (uncut wanted fine) undone (λ y _. answer y) (λ e. absurd (apart (sym (ap is_fault e) ∙ fine))) text same)
      (λ y front h. inr (inl (line_of wanted, prints_line wanted undone (answer y), h)))
      (λ y. inl (same y))
    where
      uncut : (w : Status) → is_fault w ≡ false → is_cut w ≡ false
      uncut Ok f = refl
      uncut Usage f = refl
      uncut (Refused n) f = refl
      uncut ReadFault f = cc
      uncut WriteFault f = cc
      uncut NoMemory f = cc
      uncut (BadInput n) f = refl
      uncut (NoCycleEnd n) f = refl
      uncut (Stuck n at) f = refl

  -- words that ask for nothing
  pub useless : (status : Status) → Expected command old.held Usage → (told ≡ true → SameHeld old.held new.held) → TellsLine Usage status → Gives status
  useless status usage same t = refused Usage status refl refl (λ _. usage) same t

  -- what the names hold is not what is asked of
  pub declined : (wanted status : Status) → ReadsFiles command → Declined told (Expected command old.held) old.counts new.counts wanted
      → (told ≡ true → SameHeld old.held new.held) → TellsLine wanted status → Gives status
  declined wanted status reads d same t = ⊎_elim
      (λ e. no_memory status (λ y. inl (same y)) (subst (λ (w : Status). TellsLine w status) e t))
      (⊎_elim
      (λ r. absent status (reads, r.1) same (subst (λ (w : Status). TellsLine w status) r.0 t))
      (λ f. refused wanted status f.0 f.1 f.2 same t))
      d.why

  -- an end whose lines and line were printed whole, or a front of them
  pub ended : (code printed : List ℕ) (ending status : Status) → is_end ending ≡ true → (told ≡ true → Expected command old.held ending)
      → (told ≡ true → Makes command old.held code printed ending) → (told ≡ true → DestHolds command old.held new.held code)
      → (told ≡ true → IsFrontHeld command old new)
      → Told shown old.faults new.faults old.written new.written (printed ++ line_of ending) ending status → Gives status
  ended code printed ending status ends good makes dest files t = told_ran (printed ++ line_of ending) ending status t
      (λ text. record {
        answer = λ y _. good y;
        read_fault = λ e. absurd (apart (sym ends ∙ ap is_end e));
        write_fault = λ e. absurd (apart (sym ends ∙ ap is_end e));
        text = λ s _ e. absurd (apart (sym ends ∙ e));
        done = λ y _. (code, printed, makes y, dest y, text);
        same = λ y _ e. absurd (apart (sym ends ∙ e));
        cut_text = λ y s e. absurd (uncut ending ends e);
        cut_files = λ y e. absurd (uncut ending ends e);
        reads = later.reads;
        absences = later.absences;
        writes = later.writes;
        faults = later.faults;
      })
      (λ y front f. inr (inl (printed ++ line_of ending, inr (ending, good y, code, printed, makes y, refl), f)))
      files
    where
      uncut : (status : Status) → is_end status ≡ true → is_cut status ≡ true → ⊥
      uncut Ok e c = cc
      uncut Usage e c = cc
      uncut (Refused n) e c = cc
      uncut ReadFault e c = cc
      uncut WriteFault e c = cc
      uncut NoMemory e c = cc
      uncut (BadInput n) e c = cc
      uncut (NoCycleEnd n) e c = cc
      uncut (Stuck n at) e c = cc

  -- all was made, and then printed whole or a front of it
  pub reported : (code printed : List ℕ) (status : Status) → (told ≡ true → Expected command old.held Ok)
      → (told ≡ true → Makes command old.held code printed Ok) → (told ≡ true → DestHolds command old.held new.held code)
      → Told shown old.faults new.faults old.written new.written printed Ok status → Gives status
  reported code printed status good makes dest t =
      ended code printed Ok status refl good makes dest (λ y. inr (good y, code, printed, makes y, code, ([], sym (append-nil code)), dest y))
      (subst (λ (text : List ℕ). Told shown old.faults new.faults old.written new.written text Ok status) (sym (append-nil printed)) t)

-- the bytes that a name holds after steps that changed nothing
pub from_middle : (dest bytes : List ℕ) (old middle new : Held) → SameHeld old middle → HoldsThen middle new dest bytes → HoldsThen old new dest bytes
from_middle dest bytes old middle new same h n = h n ∙ ap (cond (bytes_eq dest n) (Some bytes)) (same n)

-- writing went on from what was compiled, and failed
pub unwritten : (told shown : Bool) (source dest : List ℕ) (old new : World) → Later old new → (code printed : List ℕ) (wanted status : Status) (middle : Held)
    → (told ≡ true → SameHeld old.held middle) → (told ≡ true → IsCompiled source old.held code printed)
    → Unwritten told dest code old.counts.writes new.counts.writes middle new.held wanted
    → Told shown old.faults new.faults old.written new.written (line_of wanted) wanted status → Ran told shown (Compile source dest) old new status
unwritten told shown source dest old new later code printed wanted status middle same made u t = ⊎_elim
    (λ w. write_failed told shown (Compile source dest) old new later status tt w.1 good files
    (subst (λ (w : Status). TellsLine told shown (Compile source dest) old new later w status) w.0 t))
    (λ e. no_memory told shown (Compile source dest) old new later status files
    (subst (λ (w : Status). TellsLine told shown (Compile source dest) old new later w status) e t))
    u.why
  where
    good : told ≡ true → Expected (Compile source dest) old.held Ok
    good y = compiled_good source dest old.held code printed (made y)

    files : told ≡ true → IsFrontHeld (Compile source dest) old new
    files y = ⊎_elim
        (λ s. inl (λ n. s n ∙ same y n))
        (λ f. inr (good y, code, printed, (made y, refl), f.0, f.1, from_middle dest f.0 old.held middle new.held (same y) f.2))
        (u.part y)

-- where a step declines for a cause, so does the command that has it among its own
pub declined_for : (told : Bool) (A B : Status → Type 0) (old new : Counts) (status : Status) → ((a : Status) → A a → B a) → Declined told A old new status
    → Declined told B old new status
declined_for told A B old new status more d = record {
  why = ⊎_elim inl (λ w. inr (⊎_elim
      (λ r. inl (r.0, ⊎_elim inl (λ a. inr (a.0, λ y. more ReadFault (a.1 y))) r.1))
      (λ f. inr (f.0, f.1, λ y. more status (f.2 y)))
      w)) d.why;
}

-- where nothing failed, the answer is the expected one, or memory was wanting
pub complete_of : (told shown : Bool) (command : Command) (old new : World) (status : Status) → Ran told shown command old new status
    → IsComplete told command old new status
complete_of told shown command old new Ok r t reads writes faults = inl (r.answer t refl)
complete_of told shown command old new Usage r t reads writes faults = inl (r.answer t refl)
complete_of told shown command old new (Refused n) r t reads writes faults = inl (r.answer t refl)
complete_of told shown command old new ReadFault r t reads writes faults = ⊎_elim (λ rose. absurd (reads rose)) (λ a. inl (a.1 t)) (r.read_fault refl).1
complete_of told shown command old new WriteFault r t reads writes faults =
    ⊎_elim (λ rose. absurd (faults rose)) (λ w. absurd (writes w.0)) (r.write_fault refl)
complete_of told shown command old new (BadInput n) r t reads writes faults = inl (r.answer t refl)
complete_of told shown command old new (NoCycleEnd n) r t reads writes faults = inl (r.answer t refl)
complete_of told shown command old new (Stuck n at) r t reads writes faults = inl (r.answer t refl)
complete_of told shown command old new NoMemory r t reads writes faults = inr refl
