-- Lines without their ends, and their tokens.
use Rattle.std.proofs.Common.{◌≡◌, ◌==◌, cond, ℕ, suc, ◌+◌, ◌-◌, ◌<◌, ◌≤◌, Bool, true, false, not, if◌then◌else◌, List, [], ◌∷◌, length, take, drop, refl, sym, ap, ◌∙◌, arith}
use Rattle.std.proofs.lemmas.List.{length-drop}
use Rattle.std.proofs.lemmas.List.Folds.{length-prefix_len}
use Rattle.std.specs.Prelude.{filter}
use Rattle.std.proofs.lemmas.Grind.{common_steps}
use Rattle.std.proofs.lemmas.Bool.Decides.{nat_tests}
use Rattle.std.specs.List.{position_or_len}
use Rattle.texts.specs.Lines.{onto}
use Rattle.ld_line.specs.Tokens.{is_blank, behind, between_blanks, is_some_bytes, runs}
use Rattle.ld_line.specs.Steps.{IsFirstRun}

runs-blank : (b : ℕ) (bs : List ℕ) → is_blank b ≡ true → runs (b ∷ bs) ≡ runs bs
runs-blank b bs e = ap (λ x. filter is_some_bytes (if x then [] ∷ between_blanks bs else onto b (between_blanks bs))) e

runs-behind : (bs : List ℕ) → runs (behind is_blank bs) ≡ runs bs
runs-behind [] = refl
runs-behind (b ∷ bs) = by (is_blank b) refl (runs-behind bs)
  where
    by : (x : Bool) → is_blank b ≡ x → runs (behind is_blank bs) ≡ runs bs → runs (if x then behind is_blank bs else b ∷ bs) ≡ runs (b ∷ bs)
    by true e h = h ∙ sym (runs-blank b bs e)
    by false e h = refl

-- what stands behind the first blank
abbrev later : List ℕ → List (List ℕ)
later [] = []
later (b ∷ bs) = between_blanks bs

one_more : (n : ℕ) → 1 + n ≡ suc n
one_more n = omega arith

split : (xs : List ℕ) → between_blanks xs ≡ take (position_or_len is_blank xs) xs ∷ later (drop (position_or_len is_blank xs) xs)
split [] = refl
split (x ∷ xs) = by (is_blank x) (position_or_len is_blank xs) (split xs)
  where
    by : (b : Bool) (w : ℕ) → between_blanks xs ≡ take w xs ∷ later (drop w xs)
        → (if b then [] ∷ between_blanks xs else onto x (between_blanks xs)) ≡ take (cond (not b) (1 + w) 0) (x ∷ xs) ∷ later
        (drop (cond (not b) (1 + w) 0) (x ∷ xs))
    by true w h = refl
    by false w h = rw (one_more w) (ap (onto x) h)

at_blank : (xs : List ℕ) → position_or_len is_blank (drop (position_or_len is_blank xs) xs) ≡ 0
at_blank [] = refl
at_blank (x ∷ xs) = by (is_blank x) refl (position_or_len is_blank xs) (at_blank xs)
  where
    by : (b : Bool) → is_blank x ≡ b → (w : ℕ) → position_or_len is_blank (drop w xs) ≡ 0
        → position_or_len is_blank (drop (cond (not b) (1 + w) 0) (x ∷ xs)) ≡ 0
    by true e w h = ap (λ y. cond (not y) (1 + position_or_len is_blank xs) 0) e
    by false e w h = rw (one_more w) h

runs-later : (ys : List ℕ) → position_or_len is_blank ys ≡ 0 → runs ys ≡ filter is_some_bytes (later ys)
runs-later [] h = refl
runs-later (y ∷ ys) h = by (is_blank y) refl h
  where
    by : (b : Bool) → is_blank y ≡ b → cond (not b) (1 + position_or_len is_blank ys) 0 ≡ 0 → runs (y ∷ ys) ≡ runs ys
    by true e h = runs-blank y ys e
    by false e h = absurd (omega arith)

begins : (bs : List ℕ) → 0 < length (behind is_blank bs) → 0 < position_or_len is_blank (behind is_blank bs)
begins [] h = absurd (omega arith)
begins (b ∷ bs) h = by (is_blank b) refl (begins bs) h
  where
    by : (x : Bool) → is_blank b ≡ x → (0 < length (behind is_blank bs) → 0 < position_or_len is_blank (behind is_blank bs))
        → 0 < length (if x then behind is_blank bs else b ∷ bs) → 0 < position_or_len is_blank (if x then behind is_blank bs else b ∷ bs)
    by true e rest h = rest h
    by false e rest h = rw e (omega arith)

pub length-behind : (test : ℕ → Bool) (bs : List ℕ) → length (behind test bs) ≤ length bs
length-behind test [] = omega arith
length-behind test (b ∷ bs) = by (test b) (length-behind test bs)
  where
    by : (x : Bool) → length (behind test bs) ≤ length bs → length (if x then behind test bs else b ∷ bs) ≤ suc (length bs)
    by true h = omega (arith, h)
    by false h = omega arith

width_of : (rest : List ℕ) → length (take (position_or_len is_blank rest) rest) ≡ position_or_len is_blank rest
width_of rest = length-prefix_len (λ x. not (is_blank x)) rest

pub kept : (run : List ℕ) (others : List (List ℕ)) → 0 < length run → filter is_some_bytes (run ∷ others) ≡ run ∷ filter is_some_bytes others
kept [] others h = absurd (omega arith)
kept (x ∷ xs) others h = rw some refl
  where
    some : (suc (length xs) == 0) ≡ false
    some = grind (arith, nat_tests)

-- where nothing stands behind the blanks
pub no_run : (bytes : List ℕ) → length (behind is_blank bytes) ≡ 0 → runs bytes ≡ []
no_run bytes h = sym (runs-behind bytes) ∙ by (behind is_blank bytes) h
  where
    by : (xs : List ℕ) → length xs ≡ 0 → runs xs ≡ []
    by [] h = refl
    by (x ∷ xs) h = absurd (omega arith)

-- the first run of what stands behind the blanks
run_of : (bytes rest : List ℕ) (w : ℕ) → rest ≡ behind is_blank bytes → 0 < w → w ≡ position_or_len is_blank rest
    → runs bytes ≡ take w rest ∷ runs (drop w rest)
run_of bytes rest w is some width =
    let size : length (take w rest) ≡ w = rw width (width_of rest) in
    sym (runs-behind bytes) ∙ ap runs (sym is)
    ∙ ap (filter is_some_bytes) (rw (← width) at (split rest))
    ∙ kept (take w rest) (later (drop w rest)) (omega arith)
    ∙ ap (λ others. take w rest ∷ others) (sym (runs-later (drop w rest) (rw (← width) at (at_blank rest))))

all_behind : (rest : List ℕ) (w : ℕ) → take (length rest - w) (drop w rest) ≡ drop w rest
all_behind rest w = grind (arith, common_steps)

pub first_run_of : (bytes rest : List ℕ) (w : ℕ) → rest ≡ behind is_blank bytes → 0 < length rest → w ≡ position_or_len is_blank rest
    → IsFirstRun bytes (take w rest) (take (length rest - w) (drop w rest))
first_run_of bytes rest w is some width =
    let lengths : length rest ≡ length (behind is_blank bytes) = ap length is in
    let short = length-behind is_blank bytes in
    let wide : 0 < position_or_len is_blank rest = rw is (begins bytes (omega arith)) in
    let dropped = length-drop w rest in
    rw (all_behind rest w) (record {
      runs = run_of bytes rest w is (omega arith) width;
      shorter = omega arith;
    })
