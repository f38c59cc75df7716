-- A byte has no bit from bit 8 on.
use Rattle.std.proofs.Common.{◌≡◌, ℕ, ◌<◌, ◌≤◌, false, ap}
use Rattle.std.proofs.lemmas.Nat.Bits.{bit_at_above}
use Rattle.std.specs.Prelude.{◌==◌}
use Rattle.chip_tables.specs.Bits.{bit_of}

pub none_above : (n b : ℕ) → n < 256 → 8 ≤ b → bit_of n b ≡ false
none_above n b lt le = ap (λ x. x == 1) (bit_at_above n 8 b lt le)
