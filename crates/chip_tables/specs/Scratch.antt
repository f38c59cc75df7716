-- The cells of a chip that are left to the compiler: 70h..7Fh of a PIC; the registers, and the SRAM from 420h on, of the ATmega16. Which cell holds
-- what is this project's choice.
use Rattle.std.specs.Prelude.{ℕ, ◌+◌, ◌-◌, ◌/◌, ◌%◌, ◌==◌, nat_lt, if◌then◌else◌, Option, Some, None}
use Rattle.chip_tables.specs.declared.pic16.TheConstants.{SCRATCH_FIRST}
use Rattle.chip_tables.specs.declared.scratch.CellBit.{CellBit}
use Rattle.chip_tables.specs.declared.scratch.Scratch.{Scratch}
use Rattle.chip_tables.specs.declared.scratch.TheConstants.{WIRES}
use Rattle.chip_tables.specs.declared.target.Target.{Target}
use Rattle.chip_tables.specs.declared.target.Target.TheVariants.{F628, F877, Mega16, Interp, AnsiC}

abbrev pub at_bit : ℕ → ℕ → CellBit
at_bit address bit = record { address = address; bit = bit }

abbrev pub pic_scratch : Scratch
pic_scratch =
    record {
      left = 0x76;
      right = 0x78;
      outcome = 0x7a;
      count = 0x7c;
      sign = 0x7d;
      answer = at_bit 0x7d 0;
      pending_low = 0x7e;
      pending_high = None;
      pending_byte = 0x7f;
    }

-- R24 and R25, R22 and R23, R30 and R31, R21, R0, bit 7 of R14, R15, R26, R27
abbrev pub avr_scratch : Scratch
avr_scratch =
    record {
      left = 24;
      right = 22;
      outcome = 30;
      count = 21;
      sign = 0;
      answer = at_bit 14 7;
      pending_low = 15;
      pending_high = Some 26;
      pending_byte = 27;
    }

abbrev pub scratch_of : Target → Option Scratch
scratch_of F628 = Some pic_scratch
scratch_of F877 = Some pic_scratch
scratch_of Mega16 = Some avr_scratch
scratch_of Interp = None
scratch_of AnsiC = None

-- wire 0, which carries the power, has bit 0 of R20, the next eight have bit 0 of R2 to R9, and the others share R10 to R14
abbrev pub avr_wire : ℕ → CellBit
avr_wire w = if w == 0 then at_bit 20 0 else if nat_lt w 9 then at_bit (w + 1) 0 else at_bit (10 + (w - 9) / 8) ((w - 9) % 8)

-- the wires share the bytes from the first one on
abbrev pub pic_wire : ℕ → CellBit
pic_wire w = at_bit (SCRATCH_FIRST + w / 8) (w % 8)

abbrev pub wire_of : Target → ℕ → Option CellBit
wire_of F628 w = if nat_lt w WIRES then Some (pic_wire w) else None
wire_of F877 w = if nat_lt w WIRES then Some (pic_wire w) else None
wire_of Mega16 w = if nat_lt w WIRES then Some (avr_wire w) else None
wire_of Interp w = None
wire_of AnsiC w = None
