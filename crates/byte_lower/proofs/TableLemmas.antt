-- The value of a table at the index that a word holds.
use Rattle.std.proofs.Common.{◌≡◌, ℕ, zero, suc, ◌<◌, ◌≤◌, inl, inr, List, [], ◌∷◌, length, map, Some, None, ℤ, refl, sym, ap, ◌∙◌, arith}
use Rattle.std.specs.Prelude.{◌⊎◌, All, slice_get, slice_index_or}
use Rattle.std.specs.Int.{w16, cast_signed}
use Rattle.std.proofs.lemmas.List.Elements.{All-head, All-tail}
use Rattle.ladder_meaning.specs.Device.{word_of}
use Rattle.ladder_meaning.specs.Numbers.{IsNumber, value_at}
use Rattle.byte_lower.proofs.WordLemmas.{halves, number_signed, signed_high, signed_low}
use Rattle.byte_lower.specs.Stands.{IsWordOf}

pub none_past : (values : List ℤ) (k : ℕ) → length values ≤ k → slice_get values k ≡ None
none_past [] k h = refl
none_past (x ∷ values) zero h = absurd (omega (arith, h))
none_past (x ∷ values) (suc k) h = none_past values k (omega (arith, h))

-- a word as an index has the value that its number has
pub value_is : (values : List ℤ) (z : ℤ) (w : ℕ) → IsWordOf z w → length values ≤ 60 → value_at values z ≡ slice_get values w
value_is values z w is few = by (halves w)
  where
    signed : z ≡ cast_signed w16 w
    signed = sym (number_signed z is.number) ∙ ap (cast_signed w16) (sym is.word)

    by : (w < 32768) ⊎ (32768 ≤ w) → value_at values z ≡ slice_get values w
    by (inl low) = ap (value_at values) (signed ∙ signed_low w low)
    by (inr high) = ap (value_at values) (signed ∙ signed_high w high) ∙ sym (none_past values w (omega (arith, few, high)))

-- a value of a table, and its word in the table of words
pub record Got (values : List ℤ) (k : ℕ) : Type 0 where
  pub value : ℤ
  pub is : slice_get values k ≡ Some value
  pub number : IsNumber value
  pub word : slice_index_or (map word_of values) k 0 ≡ word_of value

pub got : (values : List ℤ) (k : ℕ) → k < length values → All IsNumber values → Got values k
got [] k h all = absurd (omega (arith, h))
got (x ∷ values) zero h all = record { value = x; is = refl; number = All-head IsNumber x values all; word = refl }
got (x ∷ values) (suc k) h all =
    let g = got values k (omega (arith, h)) (All-tail IsNumber x values all) in
    record { value = g.value; is = g.is; number = g.number; word = g.word }
