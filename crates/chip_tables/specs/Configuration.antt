-- The configuration word of a compiled program. PIC16F62X data sheet and PIC16F87X data sheet, "Configuration Bits": the oscillator HS in the lowest bits, the
-- watchdog off by bit 2, the power-up timer on by bit 3, the brown-out reset on by bit 6, low-voltage programming off by bit 7, no code protection, and on
-- the PIC16F628 the reset at its pin by bit 5. The fuses of the ATmega16 are in no file.
use Rattle.std.specs.Prelude.{ℕ, Option, Some, None}
use Rattle.chip_tables.specs.declared.target.Target.{Target}
use Rattle.chip_tables.specs.declared.target.Target.TheVariants.{F628, F877, Mega16, Interp, AnsiC}

abbrev pub configuration_of : Target → Option ℕ
configuration_of F628 = Some 0x3f62
configuration_of F877 = Some 0x3f72
configuration_of Mega16 = None
configuration_of Interp = None
configuration_of AnsiC = None
