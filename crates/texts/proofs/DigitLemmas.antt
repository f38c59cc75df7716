-- Digits, one behind the other.
use Rattle.std.proofs.Common.{◌≡◌, ℕ, suc, ◌+◌, ◌-◌, ◌*◌, ◌<◌, ◌≤◌, Bool, true, false, ◌&&◌, if◌then◌else◌, nat_le, List, [], ◌∷◌, length, get_or, drop, Option, Some, None, refl, sym, ap, ◌∙◌, arith, add-one, drop-cons}
use Rattle.std.proofs.lemmas.Bool.Decides.{nat_tests}
use Rattle.std.specs.List.{list_all}
use Rattle.texts.specs.Digits.{is_digit}
use Rattle.texts.specs.Digits.{value_behind, digits_to}

-- what digits write behind others of a value
abbrev pub rest_to : ℕ → ℕ → List ℕ → Option ℕ
rest_to most v ds = if list_all is_digit ds && nat_le (value_behind v ds) most then Some (value_behind v ds) else None

pub all_digits : (most : ℕ) (ds : List ℕ) → 0 < length ds → rest_to most 0 ds ≡ digits_to most ds
all_digits most [] some = absurd (omega arith)
all_digits most (c ∷ cs) some = refl

front : (ds : List ℕ) (i c : ℕ) → i < length ds → c ≡ get_or ds i 0 → drop i ds ≡ c ∷ drop (i + 1) ds
front ds i c lt is = rw add-one (drop-cons ds i 0 lt ∙ ap (λ x. x ∷ drop (suc i) ds) (sym is))

pub digit_more : (most v : ℕ) (ds : List ℕ) (i c : ℕ) → i < length ds → c ≡ get_or ds i 0 → is_digit c ≡ true →
    rest_to most (10 * v + (c - 48)) (drop (i + 1) ds) ≡ rest_to most v (drop i ds)
digit_more most v ds i c lt is d = rw (front ds i c lt is, d) refl

pub no_digit : (most v : ℕ) (ds : List ℕ) (i c : ℕ) → i < length ds → c ≡ get_or ds i 0 → is_digit c ≡ false → rest_to most v (drop i ds) ≡ None
no_digit most v ds i c lt is d = rw (front ds i c lt is, d) refl

grows : (v : ℕ) (ds : List ℕ) → v ≤ value_behind v ds
grows v [] = omega arith
grows v (c ∷ cs) = let more = grows (10 * v + (c - 48)) cs in omega arith

pub too_much : (most v : ℕ) (ds : List ℕ) → most < v → rest_to most v ds ≡ None
too_much most v ds over = by (list_all is_digit ds) (nat_le (value_behind v ds) most) big
  where
    big : nat_le (value_behind v ds) most ≡ false
    big = let more = grows v ds in grind (arith, nat_tests)

    by : (a b : Bool) → b ≡ false → (if a && b then Some (value_behind v ds) else None) ≡ None
    by true b h = rw h refl
    by false b h = refl
