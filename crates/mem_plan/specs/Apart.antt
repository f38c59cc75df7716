-- Variables and kept bits do not get in each other's way.
use Rattle.std.specs.Prelude.{◌≡◌, ℕ, ◌+◌, ◌<◌, ◌⊎◌, Some}
use Rattle.chip_tables.specs.declared.target.Target.{Target}
use Rattle.mem_plan.specs.Places.{low_byte, high_byte, byte_of_bit, bit_in_byte}

-- a byte of the variable stands at the address
abbrev pub Takes : Target → ℕ → ℕ → Type 0
Takes target variable address = (low_byte target variable ≡ Some address) ⊎ (high_byte target variable ≡ Some address)

-- of so many variables and the bits behind them
pub record AreApart (target : Target) (variables : ℕ) : Type 0 where
  -- the two bytes of a variable follow one another, so it stands in one range of RAM
  pub whole : (i low : ℕ) → low_byte target i ≡ Some low → high_byte target i ≡ Some (low + 1)
  pub cells : (i j address : ℕ) → Takes target i address → Takes target j address → i ≡ j
  pub bits : (j k address : ℕ) → byte_of_bit target variables j ≡ Some address → byte_of_bit target variables k ≡ Some address →
      bit_in_byte j ≡ bit_in_byte k → j ≡ k
  pub cells_and_bits : (i j address : ℕ) → i < variables → Takes target i address → byte_of_bit target variables j ≡ Some address → ⊥
