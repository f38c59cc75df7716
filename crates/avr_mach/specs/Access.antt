-- Loads, stores and bits of the I/O space: AVR Instruction Set Manual, the operation of each instruction.
use Rattle.std.specs.Prelude.{ℕ, ◌-◌, ◌^◌, not, Bool, if◌then◌else◌, None, bit_and, bit_or}
use Rattle.chip_tables.specs.declared.outside.Poll.TheVariants.{NoPoll}
use Rattle.chip_tables.specs.Bits.{bit_of}
use Rattle.avr_devices.specs.declared.io_space.IoRegister.{IoRegister}
use Rattle.avr_devices.specs.DeviceWrites.{sent_to}
use Rattle.avr_mach.specs.declared.state.AvrState.{AvrState}
use Rattle.avr_mach.specs.declared.state.Flow.TheVariants.{Next, Skip}
use Rattle.avr_mach.specs.Memory.{Read, plain_read, io_written}
use Rattle.avr_mach.specs.State.{After, act, with_reg}

-- d := what was read
abbrev pub loaded : Read → ℕ → ℕ → After
loaded got d cycles =
    record { state = with_reg got.state d got.answer.value; acted = act Next cycles got.answer.poll None }

-- a register takes a byte
abbrev pub stored : AvrState → IoRegister → ℕ → ℕ → After
stored m r x cycles =
    record { state = io_written m r x cycles; acted = act Next cycles NoPoll (sent_to m.devices r x) }

-- a register is read, and takes the byte back with one bit cleared
abbrev pub bit_cleared : AvrState → IoRegister → ℕ → After
bit_cleared m r b =
    let got = plain_read m r in
    stored got.state r (bit_and got.answer.value (255 - 2 ^ b)) 2

-- the same with the bit set
abbrev pub bit_made : AvrState → IoRegister → ℕ → After
bit_made m r b =
    let got = plain_read m r in
    stored got.state r (bit_or got.answer.value (2 ^ b)) 2

-- skips where the bit that was read is as wanted
abbrev pub skip_where : Read → ℕ → Bool → After
skip_where got b set =
    let test = if set then bit_of got.answer.value b else not (bit_of got.answer.value b) in
    record { state = got.state; acted = act (if test then Skip else Next) 1 got.answer.poll None }
