-- What tells one AVR from another, as far as the written machine goes.
use Rattle.std.specs.Prelude.{ℕ, Bool, true}
use Rattle.chip_tables.specs.declared.mega16.TheConstants.{FLASH_WORDS}

pub record AvrPart : Type 0 where
  -- the words of program flash
  pub flash_words : ℕ
  -- whether there is a port A
  pub has_port_a : Bool
  -- whether there are JMP and CALL
  pub has_long_jumps : Bool

-- ATmega16 data sheet, "Pin Configurations" and "Instruction Set Summary"
abbrev pub mega16 : AvrPart
mega16 = record { flash_words = FLASH_WORDS; has_port_a = true; has_long_jumps = true }
