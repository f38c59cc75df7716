-- The processor's state, and what an instruction leaves: PIC16F87X Data Sheet, "STATUS Register" and "Memory Organization".
use Rattle.std.specs.Prelude.{ℕ, ◌+◌, ◌*◌, ◌<◌, ◌==◌, if◌then◌else◌, Option, None}
use Rattle.chip_tables.specs.Bits.{bit_of, as_bit}
use Rattle.chip_tables.specs.declared.outside.Poll.{Poll}
use Rattle.chip_tables.specs.declared.outside.Poll.TheVariants.{NoPoll}
use Rattle.pic16_mach.specs.declared.state.PicState.{PicState}
use Rattle.pic16_mach.specs.declared.state.Acted.{Acted}
use Rattle.pic16_mach.specs.declared.state.Flow.{Flow}
use Rattle.pic16_mach.specs.declared.state.Flow.TheVariants.{Next, Skip, To}

-- the machine after an instruction, and what the instruction did beside that
pub record After : Type 0 where
  pub state : PicState
  pub acted : Acted

abbrev pub act : Flow → ℕ → Poll → Option ℕ → Acted
act flow cycles poll sent = record { flow = flow; cycles = cycles; poll = poll; sent = sent }

-- an instruction that asks nobody and sends nothing
abbrev pub after : PicState → Flow → ℕ → After
after m flow cycles = record { state = m; acted = act flow cycles NoPoll None }

-- STATUS: bits 3 and 4, which tell a reset's cause, are 1
abbrev pub status : PicState → ℕ
status m =
    as_bit m.carry + (as_bit m.digit_carry * 2 + (as_bit m.zero * 4 + (24 + (as_bit m.rp0 * 32 + (as_bit m.rp1 * 64 + as_bit m.irp * 128)))))

-- a write to STATUS sets the bank bits
abbrev pub with_banks : PicState → ℕ → PicState
with_banks m x = record m { rp0 = bit_of x 5; rp1 = bit_of x 6; irp = bit_of x 7 }

-- and the flags, unless the instruction sets a flag itself
abbrev pub with_status : PicState → ℕ → PicState
with_status m x =
    record m {
      carry = bit_of x 0;
      digit_carry = bit_of x 1;
      zero = bit_of x 2;
      rp0 = bit_of x 5;
      rp1 = bit_of x 6;
      irp = bit_of x 7;
    }

-- the address of a file register: the two bank bits before the seven of the instruction
abbrev pub direct_address : PicState → ℕ → ℕ
direct_address m f = as_bit m.rp1 * 256 + (as_bit m.rp0 * 128 + f)

-- and that to which FSR points, with IRP before its eight bits
abbrev pub indirect_address : PicState → ℕ
indirect_address m = as_bit m.irp * 256 + m.fsr

-- file register 0 is INDF: it is the one that FSR points to
abbrev pub address_of : PicState → ℕ → ℕ
address_of m f = if f == 0 then indirect_address m else direct_address m f

-- a place that an instruction goes to can be gone past
abbrev pub IsNear : Flow → Type 0
IsNear Next = Unit {0}
IsNear Skip = Unit {0}
IsNear (To place) = place < 10000
