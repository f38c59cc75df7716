-- The test of two rows is right, and so is that of a table.
use Rattle.std.proofs.Common.{◌≡◌, ℕ, zero, suc, ◌<◌, min, Bool, true, false, not, ◌||◌, eq-eqb, List, [], ◌∷◌, length, get_or, refl, sym, ap, ◌∙◌, arith, ◌==◌, bit_and}
use Rattle.std.specs.Cmp.Derive.{both_true}
use Rattle.std.proofs.lemmas.Bool.{and_parts, eqb-true}
use Rattle.std.proofs.lemmas.Nat.{or_comm}
use Rattle.std.proofs.lemmas.Nat.Bits.{same_from_bits, bit_at_and, bit_at_or, bit_at-lt}
use Rattle.std.proofs.lemmas.Nat.{and_comm, and_assoc}
use Rattle.std.specs.Int.Bits.{and_self}
use Rattle.std.specs.Int.RustNames.{bit_or}
use Rattle.std.specs.Int.{bit_at}
use Rattle.std.proofs.lemmas.Bool.{false≢true}
use Rattle.std.specs.List.{list_all}
use Rattle.insn_rows.specs.declared.rows.InsnRow.{InsnRow}
use Rattle.insn_rows.specs.Rows.{Apart, are_apart, all_apart}

-- where no test fails, a word that has all bits of both rows matches both
both_match : (ma ba mb bb : ℕ) → bit_and ba ma ≡ ba → bit_and ba mb ≡ bit_and bb ma → bit_and (bit_or ba bb) ma ≡ ba
both_match ma ba mb bb own common = same_from_bits _ _ bitwise
  where
    bitwise : (i : ℕ) → bit_at (bit_and (bit_or ba bb) ma) i ≡ bit_at ba i
    bitwise i =
        let one = bit_at_and (bit_or ba bb) ma i in
        let two = bit_at_or ba bb i in
        let three = sym (bit_at_and ba ma i) ∙ ap (λ n. bit_at n i) own in
        let four = sym (bit_at_and ba mb i) ∙ ap (λ n. bit_at n i) common ∙ bit_at_and bb ma i in
        let la = bit_at-lt ba i in
        let lb = bit_at-lt bb i in
        one ∙ ap (λ n. min n (bit_at ma i)) two ∙ grind (arith, three, four, la, lb)

pub sound : (ma ba mb bb w : ℕ) → bit_and w ma ≡ ba → bit_and w mb ≡ bb → (bit_and ba ma ≡ ba) × (bit_and bb mb ≡ bb) × (bit_and ba mb ≡ bit_and bb ma)
sound ma ba mb bb w a b = (
  ap (λ n. bit_and n ma) (sym a) ∙ and_assoc ma w ma ∙ ap (λ n. bit_and w n) (and_self ma) ∙ a,
  ap (λ n. bit_and n mb) (sym b) ∙ and_assoc mb w mb ∙ ap (λ n. bit_and w n) (and_self mb) ∙ b,
  ap (λ n. bit_and n mb) (sym a) ∙ and_assoc mb w ma ∙ ap (λ n. bit_and w n) (and_comm ma mb) ∙ sym (and_assoc ma w mb) ∙ ap (λ n. bit_and n ma) b,
)

-- cases of the tests
all_hold : (a b c : Bool) → a ≡ true → b ≡ true → c ≡ true → (not a || (not b || not c)) ≡ false
all_hold a b c p q r = cc (ap not p, q, r)

none_fails : (a b c : Bool) → (not a || (not b || not c)) ≡ false → (a ≡ true) × (b ≡ true) × (c ≡ true)
none_fails true true true t = (refl, refl, refl)
none_fails true true false t = absurd (false≢true (sym t))
none_fails true false c t = absurd (false≢true (sym t))
none_fails false b c t = absurd (false≢true (sym t))

-- the test of two rows is right
pub tests_apart : (a b : InsnRow) → are_apart a b ≡ true → Apart a b
tests_apart a b t w ma mb =
    let s = sound a.mask a.bits b.mask b.bits w (eqb-true _ _ ma) (eqb-true _ _ mb) in
    false≢true (sym (all_hold (bit_and a.bits a.mask == a.bits) (bit_and b.bits b.mask == b.bits) (bit_and a.bits b.mask == bit_and b.bits a.mask)
    (eq-eqb _ _ s.0) (eq-eqb _ _ s.1) (eq-eqb _ _ s.2)) ∙ t)

pub apart_tests : (a b : InsnRow) → Apart a b → are_apart a b ≡ true
apart_tests a b h = by (are_apart a b) refl
  where
    by : (t : Bool) → are_apart a b ≡ t → are_apart a b ≡ true
    by true e = e
    by false e =
        let s = none_fails _ _ _ e in
        let own = eqb-true _ _ s.0 in
        let other = eqb-true _ _ s.1 in
        let common = eqb-true _ _ s.2 in
        absurd (h (bit_or a.bits b.bits)
        (eq-eqb _ _ (both_match a.mask a.bits b.mask b.bits own common))
        (eq-eqb _ _ (ap (λ n. bit_and n b.mask) (or_comm a.bits b.bits) ∙ both_match b.mask b.bits a.mask a.bits other (sym common))))

-- the test of a table is right
one_of_all : (p : InsnRow → Bool) (rows : List InsnRow) (j : ℕ) (d : InsnRow) → list_all p rows ≡ true → j < length rows → p (get_or rows j d) ≡ true
one_of_all p [] j d t within = absurd (omega arith)
one_of_all p (row ∷ rows) zero d t within = (and_parts _ _ t).0
one_of_all p (row ∷ rows) (suc j) d t within = one_of_all p rows j d (and_parts _ _ t).1 (omega arith)

pub tests_all : (rows : List InsnRow) → all_apart rows ≡ true → (i j : ℕ) (d : InsnRow) → i < j → j < length rows → Apart (get_or rows i d) (get_or rows j d)
tests_all [] t i j d lt within = absurd (omega arith)
tests_all (row ∷ rows) t zero zero d lt within = absurd (omega arith)
tests_all (row ∷ rows) t (suc i) zero d lt within = absurd (omega arith)
tests_all (row ∷ rows) t zero (suc j) d lt within =
    tests_apart row (get_or rows j d) (one_of_all (are_apart row) rows j d (and_parts _ _ t).0 (omega arith))
tests_all (row ∷ rows) t (suc i) (suc j) d lt within = tests_all rows (and_parts _ _ t).1 i j d (omega arith) (omega arith)

first_of_all : (row : InsnRow) (rows : List InsnRow) → ((j : ℕ) → (d : InsnRow) → j < length rows → Apart row (get_or rows j d)) →
    list_all (are_apart row) rows ≡ true
first_of_all row [] h = refl
first_of_all row (next ∷ rows) h =
    both_true (apart_tests row next (h zero row (omega arith))) (first_of_all row rows (λ j d lt. h (suc j) d (omega arith)))

pub all_tests : (rows : List InsnRow) → ((i j : ℕ) (d : InsnRow) → i < j → j < length rows → Apart (get_or rows i d) (get_or rows j d)) → all_apart rows ≡ true
all_tests [] h = refl
all_tests (row ∷ rows) h =
    both_true (first_of_all row rows (λ j d lt. h zero (suc j) d (omega arith) (omega arith)))
    (all_tests rows (λ i j d lt within. h (suc i) (suc j) d (omega arith) (omega arith)))
