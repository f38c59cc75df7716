-- One byte more at its address.
use Rattle.std.proofs.Common.{◌≡◌, ◌≢◌, ℕ, zero, suc, ◌+◌, ◌-◌, ◌<◌, ◌≤◌, nat_le, Bool, true, false, if◌then◌else◌, List, [], ◌∷◌, length, take, set, get_or, get_or-set_same, get_or-set_other, slice_get, Option, Some, None, inl, inr, refl, sym, ap, ◌∙◌, arith, add-one}
use Rattle.std.proofs.lemmas.Bool.{cases_eq}
use Rattle.std.proofs.lemmas.Bool.Decides.{nat_tests}
use Rattle.intel_hex.specs.Given.{byte_of, or_else}
use Rattle.intel_hex.specs.Loaded.{held}

get_other : (n i : ℕ) (xs : List ℕ) → i ≢ n → slice_get (take n xs) i ≡ slice_get (take (suc n) xs) i
get_other zero i [] h = refl
get_other (suc n) i [] h = refl
get_other zero zero (x ∷ xs) h = absurd (h refl)
get_other zero (suc i) (x ∷ xs) h = refl
get_other (suc n) zero (x ∷ xs) h = refl
get_other (suc n) (suc i) (x ∷ xs) h = get_other n i xs (λ e. h (ap suc e))

get_last : (n : ℕ) (xs : List ℕ) → n < length xs → slice_get (take (suc n) xs) n ≡ Some (get_or xs n 0)
get_last n [] h = absurd (omega arith)
get_last zero (x ∷ xs) h = refl
get_last (suc n) (x ∷ xs) h = get_last n xs (omega arith)

byte_other : (first place : ℕ) (new : List ℕ) (a : ℕ) → a ≢ first + place → byte_of first (take place new) a ≡ byte_of first (take (suc place) new) a
byte_other first place new a h = by (nat_le first a) refl
  where
    by : (b : Bool) → nat_le first a ≡ b
        → (if b then slice_get (take place new) (a - first) else None) ≡ (if b then slice_get (take (suc place) new) (a - first) else None)
    by false test = refl
    by true test = let below : first ≤ a = grind (arith, nat_tests) in get_other place (a - first) new (omega arith)

byte_last : (first place : ℕ) (new : List ℕ) → place < length new → byte_of first (take (suc place) new) (first + place) ≡ Some (get_or new place 0)
byte_last first place new h =
    let test : nat_le first (first + place) ≡ true = grind (arith, nat_tests) in
    let back : first + place - first ≡ place = omega arith in
    ap (λ b. if b then slice_get (take (suc place) new) (first + place - first) else None) test
    ∙ ap (slice_get (take (suc place) new)) back
    ∙ get_last place new h

pub one_more : (first place : ℕ) (new : List ℕ) (bytes old : List (Option ℕ)) → place < length new → first + place < length bytes
    → ((a : ℕ) → held bytes a ≡ or_else (byte_of first (take place new) a) (held old a))
    → (a : ℕ) → held (set bytes (first + place) (Some (get_or new place 0))) a ≡ or_else (byte_of first (take (place + 1) new) a) (held old a)
one_more first place new bytes old some within before a =
    elim (cases_eq a (first + place)) [
      | inl same ↦
          let last : byte_of first (take (suc place) new) a ≡ Some (get_or new place 0) =
          ap (byte_of first (take (suc place) new)) same ∙ byte_last first place new some in
          ap (held (set bytes (first + place) (Some (get_or new place 0)))) same
          ∙ get_or-set_same bytes (first + place) (Some (get_or new place 0)) None within
          ∙ sym (ap (λ b. or_else b (held old a)) last)
          ∙ sym (ap (λ n. or_else (byte_of first (take n new) a) (held old a)) (add-one place))
      | inr other ↦
          get_or-set_other bytes (first + place) a (Some (get_or new place 0)) None other
          ∙ before a
          ∙ ap (λ b. or_else b (held old a)) (byte_other first place new a other)
          ∙ sym (ap (λ n. or_else (byte_of first (take n new) a) (held old a)) (add-one place))
    ]
