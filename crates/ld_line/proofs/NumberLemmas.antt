-- Digits, one behind the other, and sizes that stay at the greatest number.
use Rattle.std.proofs.Common.{◌≡◌, ℕ, suc, ◌+◌, ◌-◌, ◌*◌, ◌^◌, ◌<◌, ◌≤◌, min, Bool, true, false, if◌then◌else◌, nat_le, List, [], ◌∷◌, length, get_or, drop, Option, Some, None, refl, sym, ap, ◌∙◌, arith, add-one, drop-cons}
use Rattle.std.proofs.lemmas.Bool.Decides.{nat_tests}
use Rattle.std.specs.Option.{option_map}
use Rattle.std.specs.List.{list_all}
use Rattle.texts.specs.Digits.{is_digit, value_behind}
use Rattle.ld_line.specs.Numbers.{signed}
use Rattle.ld_line.specs.Steps.{IsSized}

-- what digits write behind a number, up to the greatest
abbrev pub rest_of : ℕ → List ℕ → Option ℕ
rest_of v ds = if list_all is_digit ds then Some (min (2 ^ 32 - 1) (value_behind v ds)) else None

grows : (v : ℕ) (ds : List ℕ) → v ≤ value_behind v ds
grows v [] = omega arith
grows v (c ∷ cs) = let more = grows (10 * v + (c - 48)) cs in omega arith

capped : (v : ℕ) (ds : List ℕ) → min (2 ^ 32 - 1) (value_behind (min (2 ^ 32 - 1) v) ds) ≡ min (2 ^ 32 - 1) (value_behind v ds)
capped v ds = by (nat_le v (2 ^ 32 - 1)) refl
  where
    by : (b : Bool) → nat_le v (2 ^ 32 - 1) ≡ b → min (2 ^ 32 - 1) (value_behind (min (2 ^ 32 - 1) v) ds) ≡ min (2 ^ 32 - 1) (value_behind v ds)
    by true e =
        let small : v ≤ 2 ^ 32 - 1 = grind (arith, nat_tests) in
        let same : min (2 ^ 32 - 1) v ≡ v = omega arith in
        ap (λ n. min (2 ^ 32 - 1) (value_behind n ds)) same
    by false e =
        let large : 2 ^ 32 - 1 < v = grind (arith, nat_tests) in
        let a = grows (min (2 ^ 32 - 1) v) ds in
        let b = grows v ds in
        omega arith

front : (ds : List ℕ) (i c : ℕ) → i < length ds → c ≡ get_or ds i 0 → drop i ds ≡ c ∷ drop (i + 1) ds
front ds i c lt is = rw add-one (drop-cons ds i 0 lt ∙ ap (λ x. x ∷ drop (suc i) ds) (sym is))

pub digit_more : (v : ℕ) (ds : List ℕ) (i c : ℕ) → i < length ds → c ≡ get_or ds i 0 → is_digit c ≡ true
    → rest_of (min (2 ^ 32 - 1) (10 * v + (c - 48))) (drop (i + 1) ds) ≡ rest_of v (drop i ds)
digit_more v ds i c lt is d =
    ap (λ n. if list_all is_digit (drop (i + 1) ds) then Some n else None) (capped (10 * v + (c - 48)) (drop (i + 1) ds))
    ∙ rw (front ds i c lt is, d) refl

pub no_size : (is_negative : Bool) (n : Option ℕ) → None ≡ option_map (min (2 ^ 32 - 1)) n → signed is_negative n ≡ None
no_size is_negative None h = refl
no_size is_negative (Some k) h = absurd cc

pub some_size : (is_negative : Bool) (n : Option ℕ) (size : ℕ) → Some size ≡ option_map (min (2 ^ 32 - 1)) n → IsSized is_negative size (signed is_negative n)
some_size is_negative None size h = absurd cc
some_size is_negative (Some k) size h = record { exact = k; is = refl; capped = cc }
