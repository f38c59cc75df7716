-- Counting the words that are kept.
use Rattle.std.proofs.Common.{◌≡◌, ℕ, ◌+◌, ◌/◌, true, false, Option, is_some, refl, add-one}
use Rattle.intel_hex.specs.Kept.{word_count}

pub count_none : (byte : ℕ → Option ℕ) → word_count byte 0 ≡ 0
unfolding word_count
count_none byte = refl

pub count_more : (byte : ℕ → Option ℕ) (a count : ℕ) → is_some (byte a) ≡ true → count ≡ a / 2 + 1 → count ≡ word_count byte (a + 1)
unfolding word_count
count_more byte a count some is = rw (add-one, word_count, some) is

pub count_same : (byte : ℕ → Option ℕ) (a count : ℕ) → is_some (byte a) ≡ false → count ≡ word_count byte a → count ≡ word_count byte (a + 1)
unfolding word_count
count_same byte a count none is = rw (add-one, word_count, none) is
