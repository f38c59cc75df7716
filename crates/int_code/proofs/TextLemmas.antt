-- The text of the values of a table.
use Rattle.std.proofs.Common.{◌≡◌, ℕ, ◌+◌, ◌<◌, List, [], ◌∷◌, ◌++◌, ℤ, pos, codes, length, get_or, take, refl, append_assoc, append-nil}
use Rattle.std.proofs.lemmas.List.{take_more}
use Rattle.std.specs.Fmt.{signed_decimal}
use Rattle.int_code.specs.Text.{values_text}

values_text-append : (xs ys : List ℤ) → values_text (xs ++ ys) ≡ values_text xs ++ values_text ys
values_text-append [] ys = refl
values_text-append (x ∷ xs) ys = rw (values_text-append xs ys) (simp append_assoc)

-- one more value is written
pub values_text-more : (xs : List ℤ) (i : ℕ) → i < length xs
    → values_text (take i xs) ++ (codes " " ++ signed_decimal (get_or xs i (pos 0))) ≡ values_text (take (i + 1) xs)
values_text-more xs i h = rw (take_more xs i (pos 0) h, values_text-append) (simp append-nil)
