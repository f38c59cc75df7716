-- The machine after a reset: ATmega16 data sheet, "Resetting the AVR"; the registers and the SRAM are as they were.
use Rattle.std.specs.Prelude.{ℕ, List, false}
use Rattle.chip_tables.specs.declared.settings.Settings.{Settings}
use Rattle.avr_devices.specs.Reset.{reset_devices}
use Rattle.avr_mach.specs.declared.state.AvrState.{AvrState}

abbrev pub reset_state : List ℕ → List ℕ → List ℕ → Settings → AvrState
reset_state sram regs eeprom settings =
    record {
      place = 0;
      regs = regs;
      sram = sram;
      carry = false;
      zero = false;
      negative = false;
      overflow = false;
      sign = false;
      half_carry = false;
      bit_copy = false;
      interrupts = false;
      stack = 0;
      devices = reset_devices eeprom settings;
    }
