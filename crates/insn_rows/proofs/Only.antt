-- In a table whose rows are apart, a row that a word matches is the first one.
use Rattle.std.proofs.Common.{◌≡◌, ℕ, zero, suc, ◌+◌, ◌<◌, Bool, true, false, not, cond, List, [], ◌∷◌, length, get_or, Some, None, refl, ap, ◌∙◌, arith}
use Rattle.std.proofs.Math.Numerals.{one-add}
use Rattle.std.specs.List.{position, position_or_len}
use Rattle.std.proofs.lemmas.Bool.{and_parts, lt-ltb}
use Rattle.std.specs.Prelude.{nat_lt}
use Rattle.insn_rows.specs.declared.rows.InsnRow.{InsnRow}
use Rattle.insn_rows.specs.Rows.{is_match, Apart, all_apart}
use Rattle.std.proofs.lemmas.Option.{slice_get_within, get_or_from_slice_get}
use Rattle.std.specs.Prelude.{AllPairs, IsTrue, slice_get}
use Rattle.insn_rows.proofs.Apart.{tests_all, all_tests}

pub only_place : (rows : List InsnRow) (w k : ℕ) (d : InsnRow) → all_apart rows ≡ true → k < length rows → is_match w (get_or rows k d) ≡ true →
    position_or_len (is_match w) rows ≡ k
only_place [] w k d t within m = absurd (omega arith)
only_place (row ∷ rows) w zero d t within m =
    ap (λ b. cond (not b) (1 + position_or_len (is_match w) rows) 0) m
only_place (row ∷ rows) w (suc k) d t within m = by (is_match w row) refl (only_place rows w k d (and_parts _ _ t).1 (omega arith) m)
  where
    by : (b : Bool) → is_match w row ≡ b → position_or_len (is_match w) rows ≡ k → position_or_len (is_match w) (row ∷ rows) ≡ suc k
    by true e rest = absurd (tests_all (row ∷ rows) t zero (suc k) d (omega arith) within w e m)
    by false e rest =
        ap (λ b. cond (not b) (1 + position_or_len (is_match w) rows) 0) e ∙ ap (λ n. 1 + n) rest ∙ one-add k

pub only_match : (rows : List InsnRow) (w k : ℕ) (d : InsnRow) → all_apart rows ≡ true → k < length rows → is_match w (get_or rows k d) ≡ true →
    position (is_match w) rows ≡ Some k
only_match rows w k d t within m =
    let e = only_place rows w k d t within m in
    ap (λ n. cond (nat_lt n (length rows)) (Some n) None) e ∙ ap (λ b. cond b (Some k) None) (lt-ltb k (length rows) within)

-- the same where the row is given as what stands at its place
pub only_row : (rows : List InsnRow) (w k : ℕ) (row : InsnRow) → AllPairs Apart rows → slice_get rows k ≡ Some row → IsTrue (is_match w row) →
    position (is_match w) rows ≡ Some k
only_row rows w k row apart at m =
    only_match rows w k row (all_tests rows apart) (slice_get_within rows k row at) (ap (is_match w) (get_or_from_slice_get rows k row row at) ∙ m)
