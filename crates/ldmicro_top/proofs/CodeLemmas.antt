-- A text is refused at one line at most, and none that says a program is refused.
use Rattle.std.proofs.Common.{◌≡◌, ◌⊎◌, inl, inr, ℕ, ◌+◌, ◌-◌, ◌<◌, ◌≤◌, Bool, true, false, List, [], ◌∷◌, ◌++◌, length, take, drop, Some, refl, sym, ap, ◌∙◌, subst, append_assoc, arith}
use Rattle.std.proofs.lemmas.List.{take-append-drop}
use Rattle.std.proofs.lemmas.Bool.{cases_order}
use Rattle.std.proofs.lemmas.Bool.Decides.{nat_tests}
use Rattle.std.proofs.Math.Seq.{take-add}
use Rattle.texts.specs.Lines.{lines}
use Rattle.texts.specs.Limits.{judged, is_over}
use Rattle.texts.specs.declared.limits.TheConstants.{CODE_BYTES}
use Rattle.texts.proofs.LimitLemmas.{judged_all}
use Rattle.interp_code.specs.declared.program.InterpProgram.{InterpProgram}
use Rattle.interp_code.specs.Program.{IsSound, Says, IsProgram, read_as}
use Rattle.interp_code.specs.Refused.{operations_in, IsBegun, IsRefusedAt}
use Rattle.interp_code.specs.Draft.{Draft, start, read}
use Rattle.interp_code.specs.Held.{program_of}
use Rattle.interp_code.proofs.Reading.{ended, says_ends}
use Rattle.interp_code.proofs.Outcomes.{front_begun}
use Rattle.ldmicro_top.specs.Code.{IsCode, IsCodeRefusedAt}

operations_in-append : (a b : List (List ℕ)) → operations_in (a ++ b) ≡ operations_in a + operations_in b
operations_in-append [] b = omega arith
operations_in-append (l ∷ ls) b = let rest = operations_in-append ls b in omega arith

-- the front of lines that begin a text begins one
front_of_begun : (a b : List (List ℕ)) → IsBegun (a ++ b) → IsBegun a
front_of_begun a b h = record {
  goes_on = let g = h.goes_on in (b ++ g.0, (g.1.0, subst (λ (ls : List (List ℕ)). Says ls g.1.0) (append_assoc a b g.0) g.1.1));
  few = let few = h.few in let parts = operations_in-append a b in omega arith;
}

fewer_begun : (ls : List (List ℕ)) (k n : ℕ) → k ≤ n → IsBegun (take n ls) → IsBegun (take k ls)
fewer_begun ls k n h b =
    let count : n ≡ k + (n - k) = omega arith in
    front_of_begun (take k ls) (take (n - k) (drop k ls)) (subst IsBegun (ap (λ (m : ℕ). take m ls) count ∙ take-add k (n - k) ls) b)

-- of two lines the later one is not refused
not_later : (over : Bool) (ls : List (List ℕ)) (a b : ℕ) → a < b → IsRefusedAt over ls a → IsRefusedAt over ls b → ⊥
not_later over ls a b before first second = by first.cause second.cause
  where
    by : ((0 < a) × (a ≤ length ls) × (IsBegun (take a ls) → ⊥))
        ⊎ (((over ≡ true) × (0 < a) × (a ≡ length ls)) ⊎ ((over ≡ false) × (a ≡ length ls + 1) × (((p : InterpProgram) × IsProgram ls p) → ⊥)))
        → ((0 < b) × (b ≤ length ls) × (IsBegun (take b ls) → ⊥))
        ⊎ (((over ≡ true) × (0 < b) × (b ≡ length ls)) ⊎ ((over ≡ false) × (b ≡ length ls + 1) × (((p : InterpProgram) × IsProgram ls p) → ⊥)))
        → ⊥
    by (inl h) k = h.2 (fewer_begun ls a (b - 1) (omega arith) second.before)
    by (inr (inl h)) (inl k) = let last = h.2 in let within = k.1 in omega arith
    by (inr (inl h)) (inr (inl k)) = let last = h.2 in let also = k.2 in omega arith
    by (inr (inl h)) (inr (inr k)) = let no = sym h.0 ∙ k.0 in cc
    by (inr (inr h)) (inl k) = let behind = h.1 in let within = k.1 in omega arith
    by (inr (inr h)) (inr (inl k)) = let behind = h.1 in let last = k.2 in omega arith
    by (inr (inr h)) (inr (inr k)) = let behind = h.1 in let also = k.1 in omega arith

-- lines are refused at one line at most
one_line : (over : Bool) (ls : List (List ℕ)) (a b : ℕ) → IsRefusedAt over ls a → IsRefusedAt over ls b → a ≡ b
one_line over ls a b h k = by (cases_order a b)
  where
    by : (a ≡ b) ⊎ ((a < b) ⊎ (b < a)) → a ≡ b
    by (inl same) = same
    by (inr (inl less)) = absurd (not_later over ls a b less h k)
    by (inr (inr more)) = absurd (not_later over ls b a more k h)

-- the first lines of a program's text begin one
program_begun : (ls : List (List ℕ)) (p : InterpProgram) (n : ℕ) → IsProgram ls p → IsBegun (take n ls)
program_begun ls p n h = front_begun (take n ls) (drop n ls) _ (ap (read start) (take-append-drop n ls) ∙ says_ends ls p h.says) h.few

-- a program's lines are refused at none
program_stands : (ls : List (List ℕ)) (p : InterpProgram) (line : ℕ) → IsProgram ls p → IsRefusedAt false ls line → ⊥
program_stands ls p line h r = by r.cause
  where
    by : ((0 < line) × (line ≤ length ls) × (IsBegun (take line ls) → ⊥))
        ⊎ (((false ≡ true) × (0 < line) × (line ≡ length ls)) ⊎ ((false ≡ false) × (line ≡ length ls + 1) × (((q : InterpProgram) × IsProgram ls q) → ⊥)))
        → ⊥
    by (inl k) = k.2 (program_begun ls p line h)
    by (inr (inl k)) = let no = k.0 in cc
    by (inr (inr k)) = k.2 (p, h)

-- a text that says a program is refused at no line
pub code_stands : (text : List ℕ) (p : InterpProgram) (line : ℕ) → IsCode text p → IsCodeRefusedAt text line → ⊥
code_stands text p line h r =
    program_stands (lines text) p line h.0
    (subst (λ (t : List ℕ). IsRefusedAt false (lines t) line) (judged_all CODE_BYTES text h.1)
    (subst (λ (over : Bool). IsRefusedAt over (lines (judged CODE_BYTES text)) line) not_over r))
  where
    not_over : is_over CODE_BYTES text ≡ false
    not_over = let within = h.1 in grind (arith, nat_tests)

-- what was read at the end of a program's text
last_of : InterpProgram → Draft
last_of p = ended p.cycle (record p.names { memories = 0 }) p.program.starts p.program.bits p.program.ops

said_again : (p : InterpProgram) → IsSound p.names p.program → read_as p.cycle p.names p.program ≡ program_of (last_of p)
unfolding last_of
said_again p sound = rw (sound.input_count, sound.output_count, sound.analog_count, sound.variable_count, sound.persistent_count) refl

-- a text says one program at most
pub one_code : (text : List ℕ) (p q : InterpProgram) → IsCode text p → IsCode text q → p ≡ q
unfolding last_of
one_code text p q h k =
    let a = h.0.says in
    let b = k.0.says in
    let same : Some (last_of p) ≡ Some (last_of q) = sym (says_ends (lines text) p a) ∙ says_ends (lines text) q b in
    let drafts : last_of p ≡ last_of q = cc in
    a.whole ∙ said_again p a.sound ∙ ap program_of drafts ∙ sym (said_again q b.sound) ∙ sym b.whole

-- a text is refused at one line at most
pub one_refusal : (text : List ℕ) (a b : ℕ) → IsCodeRefusedAt text a → IsCodeRefusedAt text b → a ≡ b
one_refusal text a b h k = one_line (is_over CODE_BYTES text) (lines (judged CODE_BYTES text)) a b h k
