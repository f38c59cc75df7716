-- What the code's own steps promise to one another.
use Rattle.std.specs.Prelude.{◌≡◌, min, ℕ, ◌-◌, ◌^◌, ◌<◌, Bool, ℤ, pos, neg_ℤ, List, ◌∷◌, length, Option, Some, if◌then◌else◌}
use Rattle.ld_line.specs.Tokens.{runs}

-- a number's sign and its size, which stays at the greatest number of 32 bits where it is greater
pub record IsSized (is_negative : Bool) (size : ℕ) (n : Option ℤ) : Type 0 where
  pub exact : ℕ
  pub is : n ≡ Some (if is_negative then neg_ℤ (pos exact) else pos exact)
  pub capped : size ≡ min (2 ^ 32 - 1) exact

-- the first run of bytes, and what lies behind it
pub record IsFirstRun (bytes run rest : List ℕ) : Type 0 where
  pub runs : runs bytes ≡ run ∷ runs rest
  pub shorter : length rest < length bytes
