-- How often a place is among the places that were begun.
use Rattle.std.proofs.Common.{◌≡◌, ℕ, ◌+◌, List, ◌∷◌, cond}
use Rattle.std.specs.Prelude.{count_by, ◌==◌}
use Rattle.std.proofs.lemmas.List.Sums.{sum_by-cons}

abbrev pub times : ℕ → List ℕ → ℕ
times i L = count_by (λ k. k == i) L

pub times-cons : (i k : ℕ) (L : List ℕ) → times i (k ∷ L) ≡ cond (k == i) 1 0 + times i L
times-cons i k L = sum_by-cons (λ k. cond (k == i) 1 0) k L
