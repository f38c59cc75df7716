-- Every text says a program or is refused at a line.
use Rattle.std.proofs.Common.{◌≡◌, ◌⊎◌, inl, inr, ℕ, ◌+◌, ◌<◌, ◌≤◌, Bool, true, false, List, [], ◌∷◌, ◌++◌, length, Option, Some, None, refl, ap, ◌∙◌, subst, append_assoc, arith}
use Rattle.std.proofs.lemmas.Bool.{cases_order}
use Rattle.std.proofs.lemmas.List.{append-nil}
use Rattle.texts.specs.Lines.{lines}
use Rattle.texts.specs.Limits.{judged, is_over}
use Rattle.texts.specs.declared.limits.TheConstants.{CODE_BYTES}
use Rattle.interp_code.specs.declared.program.InterpProgram.{InterpProgram}
use Rattle.int_code.specs.declared.limits.TheConstants.{MOST_OPERATIONS}
use Rattle.interp_code.specs.Program.{IsProgram}
use Rattle.interp_code.specs.Refused.{IsRefusedAt}
use Rattle.interp_code.specs.Draft.{Draft, start, step_line, read, is_ended}
use Rattle.interp_code.specs.Held.{program_of}
use Rattle.interp_code.specs.Outcome.{IsStopped}
use Rattle.interp_code.proofs.Outcomes.{read_push, stops_unread, stops_past, stopped_refused, long_text, short_text, whole_text}

-- a draft was read of the lines, with no more operations than there may be
abbrev IsReadTo : List (List ℕ) → Draft → Type 0
IsReadTo ls d = (read start ls ≡ Some d) × (length d.ops ≤ MOST_OPERATIONS)

-- all lines are read, or one of them stops
abbrev Reaches : List (List ℕ) → Type 0
Reaches ls = ((d : Draft) × IsReadTo ls d) ⊎ ((line : ℕ) × IsStopped ls line)

reached : (passed rest : List (List ℕ)) (d : Draft) → IsReadTo passed d → Reaches (passed ++ rest)
reached passed [] d h = inl (d, (ap (read start) (append-nil passed) ∙ h.0, h.1))
reached passed (l ∷ ls) d h = by_line (step_line d l) refl (λ e k. reached (passed ++ l ∷ []) ls e k)
  where
    by_count : (e : Draft) → step_line d l ≡ Some e → ((f : Draft) → IsReadTo (passed ++ l ∷ []) f → Reaches ((passed ++ l ∷ []) ++ ls))
        → (length e.ops ≡ MOST_OPERATIONS) ⊎ ((length e.ops < MOST_OPERATIONS) ⊎ (MOST_OPERATIONS < length e.ops)) → Reaches (passed ++ (l ∷ ls))
    by_count e said more (inl same) = subst Reaches (append_assoc passed (l ∷ []) ls) (more e (read_push d passed l (Some e) h.0 said, omega (arith, same)))
    by_count e said more (inr (inl less)) =
        subst Reaches (append_assoc passed (l ∷ []) ls) (more e (read_push d passed l (Some e) h.0 said, omega (arith, less)))
    by_count e said more (inr (inr over)) = inr (length passed + 1, stops_past (passed ++ (l ∷ ls)) passed ls l (length passed) d e refl refl h.0 h.1 said over)

    by_line : (o : Option Draft) → step_line d l ≡ o → ((f : Draft) → IsReadTo (passed ++ l ∷ []) f → Reaches ((passed ++ l ∷ []) ++ ls)) →
        Reaches (passed ++ (l ∷ ls))
    by_line None said more = inr (length passed + 1, stops_unread (passed ++ (l ∷ ls)) passed ls l (length passed) d refl refl h.0 h.1 said)
    by_line (Some e) said more = by_count e said more (cases_order (length e.ops) MOST_OPERATIONS)

-- what is known of a text that is read or refused
abbrev IsTold : List ℕ → Type 0
IsTold text = ((p : InterpProgram) × IsProgram (lines text) p × (length text ≤ CODE_BYTES))
    ⊎ ((line : ℕ) × IsRefusedAt (is_over CODE_BYTES text) (lines (judged CODE_BYTES text)) line)

told_within : (text : List ℕ) (d : Draft) → IsReadTo (lines (judged CODE_BYTES text)) d → length text ≤ CODE_BYTES → (b : Bool) → is_ended d.stage ≡ b →
    IsTold text
told_within text d h within true e = inl (program_of d, whole_text text d within h.0 h.1 e, within)
told_within text d h within false e = let n = length (lines (judged CODE_BYTES text)) in inr (n + 1, short_text text d n within h.0 h.1 e refl)

told_by : (text : List ℕ) (d : Draft) → IsReadTo (lines (judged CODE_BYTES text)) d →
    (length text ≡ CODE_BYTES) ⊎ ((length text < CODE_BYTES) ⊎ (CODE_BYTES < length text)) → IsTold text
told_by text d h (inl same) = told_within text d h (omega (arith, same)) (is_ended d.stage) refl
told_by text d h (inr (inl less)) = told_within text d h (omega (arith, less)) (is_ended d.stage) refl
told_by text d h (inr (inr over)) = let n = length (lines (judged CODE_BYTES text)) in inr (n, long_text text d n over h.0 h.1 refl)

pub told : (text : List ℕ) → IsTold text
told text = by (reached [] (lines (judged CODE_BYTES text)) start (refl, omega arith))
  where
    by : Reaches (lines (judged CODE_BYTES text)) → IsTold text
    by (inl r) = told_by text r.0 r.1 (cases_order (length text) CODE_BYTES)
    by (inr s) = inr (s.0, stopped_refused (is_over CODE_BYTES text) (lines (judged CODE_BYTES text)) s.0 s.1)
