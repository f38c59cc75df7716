-- A chip, as those see it who have it in their hands.
use Rattle.std.specs.Prelude.{ℕ, Bool, List}
use Rattle.chip_tables.specs.declared.outside.PinReading.{PinReading}
use Rattle.chip_tables.specs.declared.pins.PortBit.{PortBit}
use Rattle.chip_tables.specs.Step.{Step}

-- What is to be seen of a chip between two steps: the byte at each data address, the latch of each port bit, whether the chip drives the pin there,
-- and the byte at each address of its EEPROM.
pub record View : Type 0 where
  pub cell : ℕ → ℕ
  pub latch : PortBit → Bool
  pub drives : PortBit → Bool
  pub eeprom : ℕ → ℕ

-- A chip's written machine. Its converter gives readings of a kind alone, and each answer that a device is not ready takes so many cycles.
pub record Chip (M : Type 0) : Type 1 where
  pub step : Step M
  pub view : M → View
  pub reads : PinReading → Type 0
  pub wait : ℕ

-- what a machine may be at reset with these bytes in its EEPROM: its RAM and its registers hold anything
abbrev pub Resets : Type 0 → Type 1
Resets M = List ℕ → M → Type 0
