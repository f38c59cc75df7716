-- Bits of a byte.
use Rattle.std.specs.Prelude.{ℕ, ◌/◌, ◌%◌, ◌^◌, ◌==◌, Bool, if◌then◌else◌}

-- whether bit b is 1
abbrev pub bit_of : ℕ → ℕ → Bool
bit_of n b = n / 2 ^ b % 2 == 1

-- the bit as a number
abbrev pub as_bit : Bool → ℕ
as_bit b = if b then 1 else 0
