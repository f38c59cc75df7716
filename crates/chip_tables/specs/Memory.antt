-- The memories of each target: RAM for variables and bits, EEPROM, program flash.
use Rattle.std.specs.Prelude.{ℕ, ◌+◌, ◌-◌, nat_lt, nat_le, ◌&&◌, Bool, IsTrue, if◌then◌else◌, List, [], ◌∷◌, Option, Some, None, sum_by}
use Rattle.std.specs.List.{list_any}
use Rattle.chip_tables.specs.declared.mega16.TheConstants.{EEPROM_BYTES, FLASH_WORDS, SCRATCH_FIRST, SRAM_FIRST}
use Rattle.chip_tables.specs.declared.memory.Range.{Range}
use Rattle.chip_tables.specs.declared.memory.TheConstants.{EEPROM_MOST}
use Rattle.chip_tables.specs.declared.target.Target.{Target}
use Rattle.chip_tables.specs.declared.target.Target.TheVariants.{F628, F877, Mega16, Interp, AnsiC}

abbrev pub range : ℕ → ℕ → Range
range first last = record { first = first; last = last }

abbrev pub size : Range → ℕ
size r = r.last + 1 - r.first

abbrev pub holds : ℕ → Range → Bool
holds address r = nat_le r.first address && nat_le address r.last

-- the file registers and the SRAM that hold variables and bits, in this order.
-- PIC16F62X data sheet, "Data Memory Organization"; PIC16F87X data sheet, figure 2-3;
-- ATmega16 data sheet, "SRAM Data Memory". What stands in no range here is left to the
-- compiler's scratch cells and the stack.
abbrev pub ram_ranges : Target → List Range
ram_ranges F628 = range 0x20 0x6f ∷ range 0xa0 0xef ∷ range 0x120 0x14f ∷ []
ram_ranges F877 = range 0x20 0x6f ∷ range 0xa0 0xef ∷ range 0x110 0x16f ∷ range 0x190 0x1ef ∷ []
ram_ranges Mega16 = range SRAM_FIRST (SCRATCH_FIRST - 1) ∷ []
ram_ranges Interp = []
ram_ranges AnsiC = []

-- the bytes for variables and bits; a target that is no chip has a limit of this project's own
abbrev pub ram_size : Target → ℕ
ram_size F628 = sum_by size (ram_ranges F628)
ram_size F877 = sum_by size (ram_ranges F877)
ram_size Mega16 = sum_by size (ram_ranges Mega16)
ram_size Interp = 8192
ram_size AnsiC = 8192

-- the address of byte `index` of the ranges one after the other
abbrev pub byte_at : List Range → ℕ → Option ℕ
byte_at [] index = None
byte_at (r ∷ rs) index =
    if nat_lt index (size r) then Some (r.first + index) else byte_at rs (index - size r)

abbrev pub ram_address : Target → ℕ → Option ℕ
ram_address target index = byte_at (ram_ranges target) index

abbrev pub IsRam : Target → ℕ → Type 0
IsRam target address = IsTrue (list_any (holds address) (ram_ranges target))

-- bytes; PIC16F62X and PIC16F87X data sheets, "Data EEPROM Memory"; ATmega16 data sheet, "EEPROM
-- Data Memory"; a target that is no chip has the most of any chip
abbrev pub eeprom_size : Target → ℕ
eeprom_size F628 = 128
eeprom_size F877 = 256
eeprom_size Mega16 = EEPROM_BYTES
eeprom_size Interp = EEPROM_MOST
eeprom_size AnsiC = EEPROM_MOST

-- program words of a chip; the device overview of each data sheet (the ATmega16's 16 K bytes are
-- 8 K words)
abbrev pub flash_size : Target → Option ℕ
flash_size F628 = Some 2048
flash_size F877 = Some 8192
flash_size Mega16 = Some FLASH_WORDS
flash_size Interp = None
flash_size AnsiC = None
