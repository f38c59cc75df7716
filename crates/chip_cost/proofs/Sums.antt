-- Sums over lists.
use Rattle.std.proofs.Common.{◌≡◌, ℕ, zero, suc, ◌+◌, ◌*◌, ◌≤◌, Bool, true, false, cond, List, [], ◌∷◌, map, refl, ap, arith}
use Rattle.std.proofs.Math.Nat.{suc-mul}
use Rattle.std.proofs.lemmas.List.Concat.{flat_map-cons}
use Rattle.std.proofs.lemmas.List.Sums.{sum_by-cons, sum_by-append}
use Rattle.std.specs.List.{flat_map, sum_by, count_by}
use Rattle.byte_code.specs.Kinds.{repeated}

-- a sum over what each of a list gives
pub sum_flat : {X Y : Type 0} (g : Y → ℕ) (f : X → List Y) (xs : List X) → sum_by g (flat_map f xs) ≡ sum_by (λ x. sum_by g (f x)) xs
sum_flat g f [] = refl
sum_flat g f (x ∷ xs) =
    let a = ap (sum_by g) (flat_map-cons f x xs) in
    let b = sum_by-append g (f x) (flat_map f xs) in
    let c = sum_by-cons (λ x. sum_by g (f x)) x xs in
    let d = sum_flat g f xs in
    omega (arith, a, b, c, d)

pub sum_mapped : {X Y : Type 0} (g : Y → ℕ) (f : X → Y) (xs : List X) → sum_by g (map f xs) ≡ sum_by (λ x. g (f x)) xs
sum_mapped g f [] = refl
sum_mapped g f (x ∷ xs) =
    let a = sum_by-cons g (f x) (map f xs) in
    let b = sum_by-cons (λ x. g (f x)) x xs in
    let c = sum_mapped g f xs in
    omega (arith, a, b, c)

-- a sum of two weights
pub sum_both : {X : Type 0} (f g : X → ℕ) (xs : List X) → sum_by (λ x. f x + g x) xs ≡ sum_by f xs + sum_by g xs
sum_both f g [] = refl
sum_both f g (x ∷ xs) =
    let a = sum_by-cons (λ x. f x + g x) x xs in
    let b = sum_by-cons f x xs in
    let c = sum_by-cons g x xs in
    let d = sum_both f g xs in
    omega (arith, a, b, c, d)

pub sum_le : {X : Type 0} (f g : X → ℕ) → ((x : X) → f x ≤ g x) → (xs : List X) → sum_by f xs ≤ sum_by g xs
sum_le f g h [] = omega arith
sum_le f g h (x ∷ xs) =
    let a = sum_by-cons f x xs in
    let b = sum_by-cons g x xs in
    let c = h x in
    let d = sum_le f g h xs in
    omega (arith, a, b, c, d)

pub sum_same : {X : Type 0} (f g : X → ℕ) → ((x : X) → f x ≡ g x) → (xs : List X) → sum_by f xs ≡ sum_by g xs
sum_same f g h [] = refl
sum_same f g h (x ∷ xs) =
    let a = sum_by-cons f x xs in
    let b = sum_by-cons g x xs in
    let c = h x in
    let d = sum_same f g h xs in
    omega (arith, a, b, c, d)

pub sum_none : {X : Type 0} (xs : List X) → sum_by (λ x. 0) xs ≡ 0
sum_none [] = refl
sum_none (x ∷ xs) = let a = sum_by-cons (λ x. 0) x xs in let b = sum_none xs in omega (arith, a, b)

-- what the same number is for each that passes
where_more : (is : Bool) (n m s : ℕ) → s ≡ m * n → cond is n 0 + s ≡ (cond is 1 0 + m) * n
where_more true n m s e = let a = suc-mul m n in let b : suc m * n ≡ (1 + m) * n = ap (λ k. k * n) (omega arith) in omega (arith, a, b, e)
where_more false n m s e = let b : m * n ≡ (0 + m) * n = ap (λ k. k * n) (omega arith) in omega (arith, b, e)

pub sum_where : {X : Type 0} (is : X → Bool) (n : ℕ) (xs : List X) → sum_by (λ x. cond (is x) n 0) xs ≡ count_by is xs * n
sum_where is n [] = omega arith
sum_where is n (x ∷ xs) =
    let a = sum_by-cons (λ x. cond (is x) n 0) x xs in
    let b = where_more (is x) n (count_by is xs) _ (sum_where is n xs) in
    let c : count_by is (x ∷ xs) * n ≡ (cond (is x) 1 0 + count_by is xs) * n = ap (λ k. k * n) (sum_by-cons (λ x. cond (is x) 1 0) x xs) in
    omega (arith, a, b, c)

-- one thing so often
pub sum_repeated : {X : Type 0} (g : X → ℕ) (n : ℕ) (x : X) → sum_by g (repeated n (x ∷ [])) ≡ n * g x
sum_repeated g zero x = omega arith
sum_repeated g (suc n) x =
    let a = sum_by-cons g x (repeated n (x ∷ [])) in
    let b = sum_repeated g n x in
    let c = suc-mul n (g x) in
    omega (arith, a, b, c)
