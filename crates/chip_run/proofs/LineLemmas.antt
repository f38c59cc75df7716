-- The lines of a run, cycle by cycle.
use Rattle.std.proofs.Common.{◌≡◌, ℕ, ◌+◌, List, [], ◌∷◌, ◌++◌, Option, refl, sym, ap, ◌∙◌, append_assoc, append-nil}
use Rattle.std.specs.Prelude.{Ok, Err}
use Rattle.chip_tables.specs.Step.{Step}
use Rattle.chip_tables.specs.declared.outside.PinReading.{PinReading}
use Rattle.ladder_tree.specs.declared.names.Names.{Names}
use Rattle.ladder_tree.specs.declared.project.Project.{Project}
use Rattle.ladder_trace.specs.Shown.{shown_text}
use Rattle.chip_meaning.specs.Chip.{View}
use Rattle.chip_run.specs.declared.end.RunEnd.{RunEnd}
use Rattle.chip_run.specs.declared.end.TheConstants.{CYCLES_MOST}
use Rattle.chip_run.specs.Replay.{Came, Replayed, replay_from, replay_within, replayed, with_cycle, outcome, ends}
use Rattle.chip_run.specs.Lines.{lines_of}
use Rattle.chip_run.specs.Shown.{shown_of}

-- the run has the limit of this project
pub replayed_is : {M : Type 0} (step : Step M) (flash : List ℕ) (m : M) (rs : List PinReading)
    → replayed step flash m rs ≡ replay_within CYCLES_MOST step flash m rs
unfolding replayed
replayed_is step flash m rs = refl

-- a cycle that is done stands in front of the others
pub one_more : {M : Type 0} (run : M → PinReading → Came M) (k : ℕ) (m : M) (r : PinReading) (rs : List PinReading) (next : M) (sent : Option ℕ)
    → next ≡ (run m r).state → Ok sent ≡ outcome (k + 1) (run m r).end → replay_from run k m (r ∷ rs) ≡ with_cycle next sent (replay_from run (k + 1) next rs)
one_more run k m r rs next sent state end = rw (state, ← end) refl

-- a cycle that is not done is the last
pub one_last : {M : Type 0} (run : M → PinReading → Came M) (k : ℕ) (m : M) (r : PinReading) (rs : List PinReading) (e : RunEnd)
    → Err e ≡ outcome (k + 1) (run m r).end → replay_from run k m (r ∷ rs) ≡ ends e
one_last run k m r rs e end = rw (← end) refl

-- what was written so far of the lines of all readings, where those of some are left
pub record IsSoFar {M : Type 0} (p : Project) (n : Names) (view : M → View) (whole : Replayed M) (passed : ℕ) (left : Replayed M) (old new : List ℕ)
    : Type 0 where
  pub front : List ℕ
  pub split : lines_of p n view 0 whole ≡ front ++ lines_of p n view passed left
  pub written : new ≡ old ++ front

-- the line of one more cycle was written
pub so_far_more : {M : Type 0} (p : Project) (n : Names) (view : M → View) (whole : Replayed M) (passed : ℕ) (next : M) (sent : Option ℕ) (left : Replayed M)
    (old mid new : List ℕ)
    → IsSoFar p n view whole passed (with_cycle next sent left) old mid → new ≡ mid ++ shown_text n (passed + 1) (shown_of p n (view next) sent)
    → IsSoFar p n view whole (passed + 1) left old new
so_far_more p n view whole passed next sent left old mid new s w =
    let line = shown_text n (passed + 1) (shown_of p n (view next) sent) in
    record {
      front = s.front ++ line;
      split = s.split ∙ sym (append_assoc s.front line (lines_of p n view (passed + 1) left));
      written = w ∙ ap (λ bs. bs ++ line) s.written ∙ append_assoc old s.front line;
    }

-- where no cycle is left, all lines were written
pub so_far_end : {M : Type 0} (p : Project) (n : Names) (view : M → View) (whole : Replayed M) (passed : ℕ) (left : Replayed M) (old new : List ℕ)
    → left.cycles ≡ [] → IsSoFar p n view whole passed left old new → new ≡ old ++ lines_of p n view 0 whole
so_far_end p n view whole passed left old new none s =
    let rest : lines_of p n view passed left ≡ [] = rw none refl in
    s.written ∙ ap (λ bs. old ++ bs) (sym (s.split ∙ ap (λ bs. s.front ++ bs) rest ∙ append-nil s.front))

-- what was written is a front of the lines
abbrev pub IsPart : List ℕ → List ℕ → List ℕ → Type 0
IsPart lines old new = (front : List ℕ) × (rest : List ℕ) × (lines ≡ front ++ rest) × (new ≡ old ++ front)

-- all of it is a front of it
pub whole_part : (lines old new : List ℕ) → new ≡ old ++ lines → IsPart lines old new
whole_part lines old new is = (lines, [], sym (append-nil lines), is)

-- a front of the line of one more cycle was written
pub so_far_part : {M : Type 0} (p : Project) (n : Names) (view : M → View) (whole : Replayed M) (passed : ℕ) (next : M) (sent : Option ℕ) (left : Replayed M)
    (old mid new : List ℕ)
    → IsSoFar p n view whole passed (with_cycle next sent left) old mid → IsPart (shown_text n (passed + 1) (shown_of p n (view next) sent)) mid new
    → IsPart (lines_of p n view 0 whole) old new
so_far_part p n view whole passed next sent left old mid new s part =
    let front = part.0 in
    let rest = part.1 in
    let more = lines_of p n view (passed + 1) left in (
      s.front ++ front,
      rest ++ more,
      s.split ∙ ap (λ ls. s.front ++ ls) (ap (λ ls. ls ++ more) part.2 ∙ append_assoc front rest more) ∙ sym (append_assoc s.front front (rest ++ more)),
      part.3 ∙ ap (λ bs. bs ++ front) s.written ∙ append_assoc old s.front front,
    )
