-- What tells one PIC from the other, as far as the written machine goes.
use Rattle.std.specs.Prelude.{ℕ, ◌+◌, ◌-◌, ◌%◌, nat_le, ◌||◌, Bool, if◌then◌else◌}
use Rattle.std.specs.List.{list_any}
use Rattle.chip_tables.specs.Memory.{holds, ram_ranges, eeprom_size}
use Rattle.chip_tables.specs.declared.pic16.TheConstants.{SCRATCH_FIRST}
use Rattle.chip_tables.specs.declared.target.Target.{Target}
use Rattle.chip_tables.specs.declared.target.Target.TheVariants as target
use Rattle.pic_devices.specs.declared.part.PicPart.{PicPart}
use Rattle.pic_devices.specs.declared.part.PicPart.TheVariants.{F628, F877}

abbrev pub target_of : PicPart → Target
target_of F628 = target.F628
target_of F877 = target.F877

-- the words of program flash: the device overview of each data sheet
abbrev pub flash_words : PicPart → ℕ
flash_words F628 = 2048
flash_words F877 = 8192

abbrev pub eeprom_bytes : PicPart → ℕ
eeprom_bytes part = eeprom_size (target_of part)

-- the addresses of one bank
abbrev pub bank_size : ℕ
bank_size = 128

-- a file register that holds a byte and does nothing else: those for variables, and the last sixteen of each bank
abbrev pub is_ram : PicPart → ℕ → Bool
is_ram part address = nat_le SCRATCH_FIRST (address % bank_size) || list_any (holds address) (ram_ranges (target_of part))

-- the last sixteen of each bank are those of bank 0
abbrev pub cell_of : ℕ → ℕ
cell_of address = if nat_le SCRATCH_FIRST (address % bank_size) then address % bank_size else address
