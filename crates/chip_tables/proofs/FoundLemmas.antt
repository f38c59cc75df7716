-- The first element that passes a test stands at the first place that passes.
use Rattle.std.proofs.Common.{◌≡◌, ℕ, ◌<◌, Bool, true, false, cond, List, length, get_or, Some, None, refl, ap, ◌∙◌, arith}
use Rattle.std.specs.Prelude.{nat_lt, find}
use Rattle.std.specs.List.{position, position_or_len, slice_get}
use Rattle.std.proofs.lemmas.List.Folds.{find_at}
use Rattle.std.proofs.lemmas.Option.{slice_get_past, slice_get-get_or}
use Rattle.std.proofs.lemmas.Bool.Decides.{nat_tests}

some_by : {X : Type 0} (xs : List X) (n k : ℕ) (d : X) (b : Bool) → nat_lt n (length xs) ≡ b → cond b (Some n) None ≡ Some k →
    slice_get xs n ≡ Some (get_or xs k d)
some_by xs n k d true e h =
    let within : n < length xs = grind (arith, nat_tests, e) in
    let same : n ≡ k = cc in
    slice_get-get_or xs n d within ∙ ap (λ i. Some (get_or xs i d)) same
some_by xs n k d false e h = cc

none_by : {X : Type 0} (xs : List X) (n : ℕ) (b : Bool) → nat_lt n (length xs) ≡ b → cond b (Some n) None ≡ None → slice_get xs n ≡ None
none_by xs n true e h = cc
none_by xs n false e h = slice_get_past xs n (grind (arith, nat_tests, e))

pub some_found : {X : Type 0} (p : X → Bool) (xs : List X) (k : ℕ) (d : X) → position p xs ≡ Some k → find p xs ≡ Some (get_or xs k d)
some_found p xs k d h = find_at p xs ∙ some_by xs (position_or_len p xs) k d _ refl h

pub none_found : {X : Type 0} (p : X → Bool) (xs : List X) → position p xs ≡ None → find p xs ≡ None
none_found p xs h = find_at p xs ∙ none_by xs (position_or_len p xs) _ refl h
