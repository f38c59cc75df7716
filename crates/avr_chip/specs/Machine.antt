-- The ATmega16: what is seen of its written machine, and what it may hold at reset.
use Rattle.std.specs.Prelude.{◌≡◌, ℕ, ◌<◌, ◌≤◌, List, length, slice_index, All}
use Rattle.chip_tables.specs.Bits.{bit_of}
use Rattle.chip_tables.specs.declared.mega16.TheConstants.{EEPROM_BYTES, IO_FIRST, SRAM_BYTES}
use Rattle.chip_tables.specs.declared.settings.Settings.{Settings}
use Rattle.ladder_tree.specs.declared.limits.TheConstants.{ANALOG_NUMBER}
use Rattle.avr_devices.specs.Device.{port_of}
use Rattle.avr_devices.specs.Part.{mega16}
use Rattle.avr_mach.specs.Memory.{ram_byte}
use Rattle.avr_mach.specs.Reset.{reset_state}
use Rattle.avr_mach.specs.Step.{avr_step}
use Rattle.avr_mach.specs.declared.state.AvrState.{AvrState}
use Rattle.chip_meaning.specs.Chip.{Chip, View}

-- The bytes of RAM are those of the SRAM. A pin is driven where its bit of DDRx is set, by its bit of PORTx.
abbrev pub view_of : AvrState → View
view_of m = record {
  cell = ram_byte m;
  latch = λ b. bit_of (port_of m.devices b.port).latch b.bit;
  drives = λ b. bit_of (port_of m.devices b.port).direction b.bit;
  eeprom = slice_index m.devices.eeprom.bytes;
}

-- so many bytes
pub record AreBytes (bytes : List ℕ) (many : ℕ) : Type 0 where
  pub all : length bytes ≡ many
  pub each : (a : ℕ) → slice_index bytes a < 256

-- at reset, with any bytes in the SRAM and in the registers
pub record IsReset (settings : Settings) (eeprom : List ℕ) (m : AvrState) : Type 0 where
  pub sram : List ℕ
  pub regs : List ℕ
  pub sram_bytes : AreBytes sram SRAM_BYTES
  pub regs_bytes : AreBytes regs IO_FIRST
  pub eeprom_bytes : AreBytes eeprom EEPROM_BYTES
  pub is : m ≡ reset_state sram regs eeprom settings

-- The ATmega16. A turn of the loop that waits for an answer takes four cycles.
abbrev pub avr_chip : Chip AvrState
avr_chip = record {
  step = avr_step mega16;
  view = view_of;
  reads = λ r. All (λ n. n ≤ ANALOG_NUMBER) r.adc;
  wait = 4;
}
