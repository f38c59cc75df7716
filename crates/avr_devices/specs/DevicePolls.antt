-- Instructions that ask the cycle timer or the analog-to-digital converter whether it is ready. These rules are the written machine's own.
use Rattle.std.specs.Prelude.{ℕ, ◌&&◌, true, false, if◌then◌else◌, List, slice_index}
use Rattle.chip_tables.specs.declared.outside.Env.{Env}
use Rattle.chip_tables.specs.declared.outside.Poll.{Poll}
use Rattle.chip_tables.specs.declared.outside.Poll.TheVariants.{NoPoll, CycleReady, CycleNotReady, CycleStill, DeviceNotReady}
use Rattle.avr_devices.specs.declared.devices.AvrDevices.{AvrDevices}
use Rattle.avr_devices.specs.declared.devices.Conversion.{Conversion}
use Rattle.avr_devices.specs.declared.devices.Conversion.TheVariants.{Idle, Channel, Unsupported}
use Rattle.avr_devices.specs.declared.devices.Answer.{Answer}
use Rattle.avr_devices.specs.Device.{is_timing, converter_status}

abbrev pub answer : ℕ → Poll → Answer
answer value poll = record { value = value; poll = poll }

-- the compare flag of timer 1 is asked: it stands, or a timer that is set up has come to its end, or not
abbrev pub cycle_poll : Env → AvrDevices → Poll
cycle_poll env d =
    if d.timer.flag then CycleStill else if is_timing d && env.ready then CycleReady else CycleNotReady

-- TIFR after the answer
abbrev pub cycle_flags : Poll → ℕ
cycle_flags CycleReady = 16
cycle_flags CycleStill = 16
cycle_flags _ = 0

abbrev pub cycle_answer : Env → AvrDevices → Answer
cycle_answer env d = answer (cycle_flags (cycle_poll env d)) (cycle_poll env d)

-- a ready answer sets the flag and brings the next reading
abbrev pub answered : Poll → Env → AvrDevices → AvrDevices
answered CycleReady env d = record d { reading = env.reading; timer = record d.timer { flag = true } }
answered _ env d = d

abbrev pub cycle_asked : Env → AvrDevices → AvrDevices
cycle_asked env d = answered (cycle_poll env d) env d

-- the start bit of ADCSRA is asked: it is clear where the converter is ready
abbrev pub converter_answer : Env → AvrDevices → Answer
converter_answer env d =
    if env.ready then answer (converter_status d.converter.control false) NoPoll
    else answer (converter_status d.converter.control true) DeviceNotReady

-- what the result registers hold when a conversion ends
abbrev pub result_of : Conversion → ℕ → List ℕ → ℕ
result_of Idle result adc = result
result_of (Channel c) result adc = slice_index adc c
result_of Unsupported result adc = 0

-- a ready answer ends the conversion
abbrev pub converter_asked : Env → AvrDevices → AvrDevices
converter_asked env d =
    if env.ready then
    record d { converter = record d.converter { result = result_of d.converter.conversion d.converter.result d.reading.adc; conversion = Idle } }
    else d
