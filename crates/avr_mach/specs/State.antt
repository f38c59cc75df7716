-- The processor's state, and what an instruction leaves: AVR Instruction Set Manual; ATmega16 data sheet, "AVR CPU Core".
use Rattle.std.specs.Prelude.{ℕ, ◌+◌, ◌*◌, ◌/◌, ◌%◌, ◌==◌, Bool, if◌then◌else◌, Option, None, slice_index, slice_set}
use Rattle.chip_tables.specs.declared.outside.Poll.{Poll}
use Rattle.chip_tables.specs.declared.outside.Poll.TheVariants.{NoPoll}
use Rattle.avr_mach.specs.declared.state.AvrState.{AvrState}
use Rattle.avr_mach.specs.declared.state.Acted.{Acted}
use Rattle.avr_mach.specs.declared.state.Flow.{Flow}
use Rattle.chip_tables.specs.Bits.{bit_of, as_bit}

-- the machine after an instruction, and what the instruction did beside that
pub record After : Type 0 where
  pub state : AvrState
  pub acted : Acted

abbrev pub act : Flow → ℕ → Poll → Option ℕ → Acted
act flow cycles poll sent = record { flow = flow; cycles = cycles; poll = poll; sent = sent }

-- an instruction that asks nobody and sends nothing
abbrev pub after : AvrState → Flow → ℕ → After
after m flow cycles = record { state = m; acted = act flow cycles NoPoll None }

abbrev pub reg : AvrState → ℕ → ℕ
reg m d = slice_index m.regs d

abbrev pub with_reg : AvrState → ℕ → ℕ → AvrState
with_reg m d x = record m { regs = slice_set m.regs d x }

-- a pair of registers as a pointer: X is at 26, Y at 28
abbrev pub pointer : AvrState → ℕ → ℕ
pointer m low = reg m (low + 1) * 256 + reg m low

abbrev pub with_pointer : AvrState → ℕ → ℕ → AvrState
with_pointer m low x = with_reg (with_reg m low (x % 256)) (low + 1) (x / 256)

-- a flag by its bit of SREG
abbrev pub flag : AvrState → ℕ → Bool
flag m s =
    if s == 0 then m.carry
    else if s == 1 then m.zero
    else if s == 2 then m.negative
    else if s == 3 then m.overflow
    else if s == 4 then m.sign
    else if s == 5 then m.half_carry
    else if s == 6 then m.bit_copy
    else m.interrupts

abbrev pub with_flag : AvrState → ℕ → Bool → AvrState
with_flag m s x =
    if s == 0 then record m { carry = x }
    else if s == 1 then record m { zero = x }
    else if s == 2 then record m { negative = x }
    else if s == 3 then record m { overflow = x }
    else if s == 4 then record m { sign = x }
    else if s == 5 then record m { half_carry = x }
    else if s == 6 then record m { bit_copy = x }
    else record m { interrupts = x }

abbrev pub sreg : AvrState → ℕ
sreg m =
    as_bit m.carry + (as_bit m.zero * 2 + as_bit m.negative * 4 + as_bit m.overflow * 8 + as_bit m.sign * 16 + as_bit m.half_carry * 32 + as_bit m.bit_copy *
    64 + as_bit m.interrupts * 128)

abbrev pub with_sreg : AvrState → ℕ → AvrState
with_sreg m x =
    record m {
      carry = bit_of x 0;
      zero = bit_of x 1;
      negative = bit_of x 2;
      overflow = bit_of x 3;
      sign = bit_of x 4;
      half_carry = bit_of x 5;
      bit_copy = bit_of x 6;
      interrupts = bit_of x 7;
    }
