-- What places cost that were begun, against a bound on how often each was.
use Rattle.std.proofs.Common.{◌≡◌, ℕ, zero, suc, ◌+◌, ◌*◌, ◌≤◌, List, [], ◌∷◌, Option, Some, None, cond, refl, sym, ap, ◌∙◌, arith}
use Rattle.std.specs.Prelude.{slice_get, sum_by, ◌==◌}
use Rattle.std.proofs.lemmas.List.Sums.{sum_by-cons}
use Rattle.std.proofs.Math.Dec.{eqb-suc-suc, eqb-suc-zero, eqb-zero-suc}
use Rattle.std.proofs.Math.Nat.{mul-le-mul_left}
use Rattle.byte_code.proofs.Times.{times, times-cons}

module _ {X : Type 0} (f : X → ℕ) where
  abbrev pub at_most : Option X → ℕ
  at_most None = 0
  at_most (Some x) = f x

  -- what the places cost together
  abbrev pub spent : List X → List ℕ → ℕ
  spent xs [] = 0
  spent xs (k ∷ L) = at_most (slice_get xs k) + spent xs L

-- the places after the first, one less each
abbrev down : List ℕ → List ℕ
down [] = []
down (zero ∷ L) = down L
down (suc k ∷ L) = k ∷ down L

times_down : (i : ℕ) (L : List ℕ) → times i (down L) ≡ times (suc i) L
times_down i [] = refl
times_down i (zero ∷ L) = times_down i L ∙ sym (times-cons (suc i) zero L ∙ ap (λ b. cond b 1 0 + times (suc i) L) (eqb-zero-suc i) ∙ (omega arith))
times_down i (suc k ∷ L) = times-cons i k (down L) ∙ ap (λ n. cond (k == i) 1 0 + n) (times_down i L)
    ∙ ap (λ b. cond b 1 0 + times (suc i) L) (sym (eqb-suc-suc k i)) ∙ sym (times-cons (suc i) (suc k) L)

module _ {X : Type 0} (f : X → ℕ) where
  spent_none : (L : List ℕ) → spent f [] L ≡ 0
  spent_none [] = refl
  spent_none (k ∷ L) = omega (arith, spent_none L)

  spent_split : (x : X) (xs : List X) (L : List ℕ) → spent f (x ∷ xs) L ≡ f x * times 0 L + spent f xs (down L)
  spent_split x xs [] = omega arith
  spent_split x xs (zero ∷ L) = let e : times 0 (zero ∷ L) ≡ 1 + times 0 L = times-cons 0 zero L in omega (arith, spent_split x xs L, ap (λ n. f x * n) e)
  spent_split x xs (suc k ∷ L) = let e : times 0 (suc k ∷ L) ≡ times 0 L = times-cons 0 (suc k) L ∙ ap (λ b. cond b 1 0 + times 0 L) (eqb-suc-zero k)
      ∙ omega arith in omega (arith, spent_split x xs L, ap (λ n. f x * n) e)

  -- where each place was begun so often at most, they cost at most the sum
  pub spent-le : (n : X → ℕ) (xs : List X) (L : List ℕ) → ((i : ℕ) (x : X) → slice_get xs i ≡ Some x → times i L ≤ n x) →
      spent f xs L ≤ sum_by (λ x. f x * n x) xs
  spent-le n [] L h = omega (arith, spent_none L)
  spent-le n (x ∷ xs) L h =
      let rest = spent-le n xs (down L) (λ i y g. omega (arith, times_down i L, h (suc i) y g)) in
      omega (arith, spent_split x xs L, sum_by-cons (λ x. f x * n x) x xs, rest, mul-le-mul_left (f x) (h 0 x refl))
