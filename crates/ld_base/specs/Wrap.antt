-- The numbers of 16 bits with a sign, round which sums, differences and products wrap.
use Rattle.std.specs.Prelude.{◌≡◌, ℕ, ℤ, pos, negsuc, ◌*◌, ◌+ℤ◌, ◌≤ℤ◌}
use Rattle.std.specs.Int.{int_wrap, w16}

-- the number from -32768 to 32767 that is equal to z modulo 65536
abbrev pub wrap : ℤ → ℤ
wrap z = int_wrap w16 z

-- w is from -32768 to 32767, and differs from z by a multiple of 65536
pub record IsWrapped (z w : ℤ) : Type 0 where
  pub low : negsuc 32767 ≤ℤ w
  pub high : w ≤ℤ pos 32767
  pub equal : (up : ℕ) × (down : ℕ) × ((w +ℤ pos (up * 65536)) ≡ (z +ℤ pos (down * 65536)))
