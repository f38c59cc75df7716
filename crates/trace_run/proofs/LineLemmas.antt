-- The lines of readings, part by part.
use Rattle.std.proofs.Common.{◌≡◌, ℕ, ◌+◌, List, [], ◌∷◌, ◌++◌, refl, sym, ap, ◌∙◌, append_assoc, append-nil}
use Rattle.ladder_tree.specs.declared.names.Names.{Names}
use Rattle.ladder_meaning.specs.declared.reading.Reading.{Reading}
use Rattle.ladder_trace.specs.declared.duty.DutyShown.{DutyShown}
use Rattle.ladder_trace.specs.Shown.{shown_text}
use Rattle.int_code.specs.declared.op.IntProgram.{IntProgram}
use Rattle.int_code.specs.Meaning as int
use Rattle.int_sim.specs.Machine.{view_by}
use Rattle.trace_run.specs.Run.{Point, behind, lines_of}

-- the point behind one more reading
abbrev pub next : IntProgram → Point → Reading → Point
next p at r = record { passed = at.passed + 1; store = (int.cycle r p.ops at.store).store }

-- the point behind readings and more of them is that behind the more, from the point behind the first
pub behind_append : (p : IntProgram) (at : Point) (rs qs : List Reading) → behind p at (rs ++ qs) ≡ behind p (behind p at rs) qs
behind_append p at [] qs = refl
behind_append p at (r ∷ rs) qs = behind_append p (next p at r) rs qs

-- the line of one more reading
abbrev line_of : DutyShown → Names → IntProgram → Point → Reading → List ℕ
line_of duty n p at r = shown_text n (at.passed + 1) (view_by duty n p (next p at r).store)

-- the lines of readings and more of them are those of the first, and then those of the more
pub lines_append : (duty : DutyShown) (n : Names) (p : IntProgram) (at : Point) (rs qs : List Reading)
    → lines_of duty n p at (rs ++ qs) ≡ lines_of duty n p at rs ++ lines_of duty n p (behind p at rs) qs
lines_append duty n p at [] qs = refl
lines_append duty n p at (r ∷ rs) qs =
    ap (λ ls. line_of duty n p at r ++ ls) (lines_append duty n p (next p at r) rs qs)
    ∙ sym (append_assoc (line_of duty n p at r) (lines_of duty n p (next p at r) rs) (lines_of duty n p (behind p (next p at r) rs) qs))

-- what was written so far of the lines of all readings, where those of some are left
pub record IsSoFar (duty : DutyShown) (n : Names) (p : IntProgram) (begin : Point) (all : List Reading) (now : Point) (left : List Reading)
    (old new : List ℕ) : Type 0 where
  pub front : List ℕ
  pub split : lines_of duty n p begin all ≡ front ++ lines_of duty n p now left
  pub written : new ≡ old ++ front

-- the lines of some more readings were written
pub so_far_more : (duty : DutyShown) (n : Names) (p : IntProgram) (begin : Point) (all : List Reading) (now : Point) (rs left : List Reading)
    (old mid new : List ℕ)
    → IsSoFar duty n p begin all now (rs ++ left) old mid → new ≡ mid ++ lines_of duty n p now rs → IsSoFar duty n p begin all (behind p now rs) left old new
so_far_more duty n p begin all now rs left old mid new s w =
    let lines = lines_of duty n p now rs in
    record {
      front = s.front ++ lines;
      split =
          s.split ∙ ap (λ ls. s.front ++ ls) (lines_append duty n p now rs left) ∙ sym (append_assoc s.front lines (lines_of duty n p (behind p now rs) left));
      written = w ∙ ap (λ bs. bs ++ lines) s.written ∙ append_assoc old s.front lines;
    }

-- where nothing is left, all lines were written
pub so_far_end : (duty : DutyShown) (n : Names) (p : IntProgram) (begin : Point) (all : List Reading) (now : Point) (old new : List ℕ)
    → IsSoFar duty n p begin all now [] old new → new ≡ old ++ lines_of duty n p begin all
so_far_end duty n p begin all now old new s = s.written ∙ ap (λ bs. old ++ bs) (sym (s.split ∙ append-nil s.front))

-- what was written is a front of the lines
abbrev pub IsPart : List ℕ → List ℕ → List ℕ → Type 0
IsPart lines old new = (front : List ℕ) × (rest : List ℕ) × (lines ≡ front ++ rest) × (new ≡ old ++ front)

-- a front of the lines of some more readings was written
pub so_far_part : (duty : DutyShown) (n : Names) (p : IntProgram) (begin : Point) (all : List Reading) (now : Point) (rs left : List Reading)
    (old mid new : List ℕ)
    → IsSoFar duty n p begin all now (rs ++ left) old mid → IsPart (lines_of duty n p now rs) mid new → IsPart (lines_of duty n p begin all) old new
so_far_part duty n p begin all now rs left old mid new s part =
    let front = part.0 in
    let rest = part.1 in
    let more = lines_of duty n p (behind p now rs) left in (
      s.front ++ front,
      rest ++ more,
      s.split ∙ ap (λ ls. s.front ++ ls) (lines_append duty n p now rs left ∙ ap (λ ls. ls ++ more) part.2 ∙ append_assoc front rest more)
          ∙ sym (append_assoc s.front front (rest ++ more)),
      part.3 ∙ ap (λ bs. bs ++ front) s.written ∙ append_assoc old s.front front,
    )
