-- The number that two bytes hold.
use Rattle.std.proofs.Common.{◌≡◌, ℕ, ◌<◌, [], ◌∷◌, ap, arith}
use Rattle.std.specs.Int.{int_wrap, w16, cast_signed, from_le_bytes}
use Rattle.ladder_meaning.specs.Device.{number_of}

pub number_of_bytes : (low high : ℕ) → low < 256 → high < 256 → cast_signed w16 (from_le_bytes w16 (low ∷ high ∷ [])) ≡ number_of low high
unfolding int_wrap
number_of_bytes low high l h = ap (cast_signed w16) (omega arith)
