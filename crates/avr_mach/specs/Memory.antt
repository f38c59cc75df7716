-- The I/O space and the data memory: ATmega16 data sheet, "SRAM Data Memory" and "I/O Memory".
use Rattle.std.specs.Prelude.{ℕ, ◌+◌, ◌-◌, ◌*◌, ◌/◌, ◌%◌, nat_lt, nat_le, ◌&&◌, if◌then◌else◌, Option, None, slice_index, slice_set}
use Rattle.chip_tables.specs.declared.outside.Env.{Env}
use Rattle.chip_tables.specs.declared.outside.Poll.TheVariants.{NoPoll}
use Rattle.avr_devices.specs.declared.devices.Answer.{Answer}
use Rattle.avr_mach.specs.declared.state.AvrState.{AvrState}
use Rattle.avr_devices.specs.declared.io_space.IoRegister.{IoRegister}
use Rattle.avr_devices.specs.declared.io_space.IoRegister.TheVariants.{Adcsra, Udr, Tifr, Spl, Sph, Sreg}
use Rattle.chip_tables.specs.declared.mega16.TheConstants.{IO_FIRST, SRAM_FIRST, SRAM_END}
use Rattle.avr_devices.specs.DeviceReads.{device_byte, byte_taken}
use Rattle.avr_devices.specs.DeviceWrites.{device_written, sent_to}
use Rattle.avr_devices.specs.DevicePolls.{answer, cycle_answer, cycle_asked, converter_answer, converter_asked}
use Rattle.avr_devices.specs.IoSpace.{register_in}
use Rattle.avr_devices.specs.Part.{AvrPart}
use Rattle.avr_mach.specs.State.{reg, with_reg, sreg, with_sreg}

-- the machine after a byte was read, and what was read
pub record Read : Type 0 where
  pub state : AvrState
  pub answer : Answer

-- what an I/O register shows
abbrev pub io_byte : AvrState → IoRegister → ℕ
io_byte m Spl = m.stack % 256
io_byte m Sph = m.stack / 256
io_byte m Sreg = sreg m
io_byte m r = device_byte m.devices r

-- reading UDR takes its byte
abbrev pub after_reading : AvrState → IoRegister → AvrState
after_reading m Udr = record m { devices = byte_taken m.devices }
after_reading m _ = m

-- a read that asks nobody
abbrev pub plain_read : AvrState → IoRegister → Read
plain_read m r = record { state = after_reading m r; answer = answer (io_byte m r) NoPoll }

abbrev pub timer_read : Env → AvrState → Read
timer_read env m =
    record { state = record m { devices = cycle_asked env m.devices }; answer = cycle_answer env m.devices }

abbrev pub converter_read : Env → AvrState → Read
converter_read env m =
    record { state = record m { devices = converter_asked env m.devices }; answer = converter_answer env m.devices }

-- IN asks the cycle timer by TIFR and the converter by ADCSRA
abbrev pub in_read : Env → AvrState → IoRegister → Read
in_read env m Tifr = timer_read env m
in_read env m Adcsra = converter_read env m
in_read env m r = plain_read m r

-- SBIC and SBIS ask the converter
abbrev pub bit_read : Env → AvrState → IoRegister → Read
bit_read env m Adcsra = converter_read env m
bit_read env m r = plain_read m r

-- LDS asks the cycle timer
abbrev pub lds_register : Env → AvrState → IoRegister → Read
lds_register env m Tifr = timer_read env m
lds_register env m r = plain_read m r

-- an I/O register takes a byte, by an instruction of so many cycles
abbrev pub io_written : AvrState → IoRegister → ℕ → ℕ → AvrState
io_written m Spl x cycles = record m { stack = m.stack / 256 * 256 + x }
io_written m Sph x cycles = record m { stack = x * 256 + m.stack % 256 }
io_written m Sreg x cycles = with_sreg m x
io_written m r x cycles = record m { devices = device_written m.devices r x cycles }

-- an address that is none of the SRAM reads 0
abbrev pub ram_byte : AvrState → ℕ → ℕ
ram_byte m address =
    if nat_le SRAM_FIRST address && nat_lt address SRAM_END then slice_index m.sram (address - SRAM_FIRST) else 0

-- and takes no write
abbrev pub with_ram : AvrState → ℕ → ℕ → AvrState
with_ram m address x =
    if nat_le SRAM_FIRST address && nat_lt address SRAM_END then
    record m { sram = slice_set m.sram (address - SRAM_FIRST) x }
    else m

-- data memory: the registers from 0 on, the I/O space, the SRAM
abbrev pub data_read : AvrPart → AvrState → ℕ → Read
data_read part m address =
    if nat_lt address IO_FIRST then record { state = m; answer = answer (reg m address) NoPoll }
    else if nat_lt address SRAM_FIRST then plain_read m (register_in part (address - IO_FIRST))
    else record { state = m; answer = answer (ram_byte m address) NoPoll }

abbrev pub lds_read : AvrPart → Env → AvrState → ℕ → Read
lds_read part env m address =
    if nat_lt address IO_FIRST then record { state = m; answer = answer (reg m address) NoPoll }
    else if nat_lt address SRAM_FIRST then lds_register env m (register_in part (address - IO_FIRST))
    else record { state = m; answer = answer (ram_byte m address) NoPoll }

abbrev pub data_written : AvrPart → AvrState → ℕ → ℕ → ℕ → AvrState
data_written part m address x cycles =
    if nat_lt address IO_FIRST then with_reg m address x
    else if nat_lt address SRAM_FIRST then io_written m (register_in part (address - IO_FIRST)) x cycles
    else with_ram m address x

-- the byte that a write to data memory sends
abbrev pub sent_at : AvrPart → AvrState → ℕ → ℕ → Option ℕ
sent_at part m address x =
    if nat_lt address IO_FIRST then None
    else if nat_lt address SRAM_FIRST then sent_to m.devices (register_in part (address - IO_FIRST)) x
    else None
