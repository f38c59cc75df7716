-- Where variables and kept bits stand in a chip's RAM: the variables first, the low byte of each before its high byte,
-- and then the bits, from the lowest of each byte up.
use Rattle.std.specs.Prelude.{ℕ, ◌+◌, ◌*◌, ◌/◌, ◌%◌, Option, IsSome}
use Rattle.chip_tables.specs.Memory.{ram_address, flash_size}
use Rattle.chip_tables.specs.declared.target.Target.{Target}

-- a chip has program flash; what is no chip has no addresses
abbrev pub IsChip : Target → Type 0
IsChip target = IsSome (flash_size target)

abbrev pub low_byte : Target → ℕ → Option ℕ
low_byte target variable = ram_address target (2 * variable)

abbrev pub high_byte : Target → ℕ → Option ℕ
high_byte target variable = ram_address target (2 * variable + 1)

-- the byte of a bit behind so many variables
abbrev pub byte_of_bit : Target → ℕ → ℕ → Option ℕ
byte_of_bit target variables bit = ram_address target (2 * variables + bit / 8)

abbrev pub bit_in_byte : ℕ → ℕ
bit_in_byte bit = bit % 8
