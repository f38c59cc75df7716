-- What the file of each chip may hold, and what of that is kept.
use Rattle.std.specs.Prelude.{ℕ, ◌+◌, ◌*◌, ◌&&◌, ◌||◌, nat_le, nat_lt, Bool, true, false, unwrap_or}
use Rattle.chip_tables.specs.declared.target.Target.{Target}
use Rattle.chip_tables.specs.declared.target.Target.TheVariants.{F628, F877, Mega16, Interp, AnsiC}
use Rattle.chip_tables.specs.Memory.{eeprom_size, flash_size}

abbrev pub is_pic : Target → Bool
is_pic F628 = true
is_pic F877 = true
is_pic Mega16 = false
is_pic Interp = false
is_pic AnsiC = false

-- the program words of a chip; a target that is no chip has none
abbrev pub flash_of : Target → ℕ
flash_of t = unwrap_or (flash_size t) 0

-- a word is two bytes
abbrev pub is_program : Target → ℕ → Bool
is_program t address = nat_lt address (2 * flash_of t)

-- Words 2000h to 2007h of a PIC: its identification and configuration.
-- PIC16F62X and PIC16F87X programming specifications, "Program Memory Map".
abbrev pub is_configuration : ℕ → Bool
is_configuration address = nat_le 0x4000 address && nat_le address 0x400f

-- Words 2100h and up of a PIC's file: a byte of EEPROM each.
abbrev pub is_eeprom : Target → ℕ → Bool
is_eeprom t address = nat_le 0x4200 address && nat_lt address (0x4200 + 2 * eeprom_size t)

-- Addresses past FFFFh are in no area, so a record whose bytes run past it is outside.
abbrev pub is_in_area : Target → ℕ → Bool
is_in_area t address = is_program t address || (is_pic t && (is_configuration address || is_eeprom t address))
