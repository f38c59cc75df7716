-- What an instruction of the ATmega16 asks the outside for, by the register that it reads.
use Rattle.std.specs.Prelude.{ℕ, ◌-◌, nat_lt, if◌then◌else◌, List, Option, Some, None}
use Rattle.runs.specs.declared.ask.Ask.{Ask}
use Rattle.runs.specs.declared.ask.Ask.TheVariants as ask
use Rattle.chip_tables.specs.declared.mega16.TheConstants.{FLASH_WORDS, IO_FIRST, SRAM_FIRST}
use Rattle.chip_tables.specs.declared.outside.StuckCause.{StuckCause}
use Rattle.avr_devices.specs.declared.devices.AvrDevices.{AvrDevices}
use Rattle.avr_devices.specs.declared.io_space.IoRegister.{IoRegister}
use Rattle.avr_devices.specs.declared.io_space.IoRegister.TheVariants.{Adcsra, Tifr}
use Rattle.avr_devices.specs.Device.{is_timing}
use Rattle.avr_devices.specs.IoSpace.{register_at}
use Rattle.avr_devices.specs.Part.{mega16}
use Rattle.avr_mach.specs.declared.insn.AvrInsn.{AvrInsn}
use Rattle.avr_mach.specs.declared.insn.AvrInsn.TheVariants.{In, Sbic, Sbis, Lds}
use Rattle.avr_mach.specs.declared.state.AvrState.{AvrState}
use Rattle.avr_mach.specs.Control.{obstacle}
use Rattle.avr_mach.specs.Step.{insn_at}

-- the cycle timer is asked where it is set up and its flag does not stand
abbrev pub timer_ask : AvrDevices → Ask
timer_ask d = if d.timer.flag then ask.Nothing else if is_timing d then ask.Reading else ask.Nothing

abbrev pub in_ask : AvrDevices → IoRegister → Ask
in_ask d Tifr = timer_ask d
in_ask d Adcsra = ask.Device
in_ask d r = ask.Nothing

abbrev pub bit_ask : IoRegister → Ask
bit_ask Adcsra = ask.Device
bit_ask r = ask.Nothing

abbrev pub lds_ask : AvrDevices → IoRegister → Ask
lds_ask d Tifr = timer_ask d
lds_ask d r = ask.Nothing

abbrev pub insn_ask : AvrInsn → AvrDevices → Ask
insn_ask (In d a) o = in_ask o (register_at a)
insn_ask (Sbic a b) o = bit_ask (register_at a)
insn_ask (Sbis a b) o = bit_ask (register_at a)
insn_ask (Lds d address) o =
    if nat_lt address IO_FIRST then ask.Nothing
    else if nat_lt address SRAM_FIRST then lds_ask o (register_at (address - IO_FIRST))
    else ask.Nothing
insn_ask _ o = ask.Nothing

abbrev pub unless_stuck_ask : AvrInsn → AvrState → Option StuckCause → Ask
unless_stuck_ask i m (Some cause) = ask.Nothing
unless_stuck_ask i m None = insn_ask i m.devices

abbrev pub ask_by : AvrState → Option AvrInsn → Ask
ask_by m None = ask.Nothing
ask_by m (Some i) = unless_stuck_ask i m (obstacle mega16 i m)

abbrev pub ask_at : List ℕ → AvrState → Ask
ask_at flash m = if nat_lt m.place FLASH_WORDS then ask_by m (insn_at mega16 flash m.place) else ask.Nothing
