-- Instructions that ask the cycle timer or the analog-to-digital converter whether it is ready. These rules are the written machine's own.
use Rattle.std.specs.Prelude.{ℕ, ◌&&◌, true, false, if◌then◌else◌}
use Rattle.chip_tables.specs.declared.outside.Env.{Env}
use Rattle.chip_tables.specs.declared.outside.Poll.{Poll}
use Rattle.chip_tables.specs.declared.outside.Poll.TheVariants.{NoPoll, CycleReady, CycleNotReady, CycleStill, DeviceNotReady}
use Rattle.avr_devices.specs.declared.devices.Answer.{Answer}
use Rattle.avr_devices.specs.declared.devices.Conversion.TheVariants.{Idle}
use Rattle.avr_devices.specs.DevicePolls.{answer, result_of}
use Rattle.pic_devices.specs.declared.devices.PicDevices.{PicDevices}
use Rattle.pic_devices.specs.Device.{is_timing, converter_status}

-- CCP1IF is asked: it stands, or a timer that is set up has come to its end, or not
abbrev pub cycle_poll : Env → PicDevices → Poll
cycle_poll env d =
    if d.timer.flag then CycleStill else if is_timing d && env.ready then CycleReady else CycleNotReady

-- PIR1 bit 2 after the answer
abbrev pub cycle_flags : Poll → ℕ
cycle_flags CycleReady = 4
cycle_flags CycleStill = 4
cycle_flags _ = 0

abbrev pub cycle_answer : Env → PicDevices → Answer
cycle_answer env d = answer (cycle_flags (cycle_poll env d)) (cycle_poll env d)

-- a ready answer sets the flag and brings the next reading
abbrev pub answered : Poll → Env → PicDevices → PicDevices
answered CycleReady env d = record d { reading = env.reading; timer = record d.timer { flag = true } }
answered _ env d = d

abbrev pub cycle_asked : Env → PicDevices → PicDevices
cycle_asked env d = answered (cycle_poll env d) env d

-- GO of ADCON0 is asked: it is clear where the converter is ready
abbrev pub converter_answer : Env → PicDevices → Answer
converter_answer env d =
    if env.ready then answer (converter_status d.converter.control false) NoPoll
    else answer (converter_status d.converter.control true) DeviceNotReady

-- a ready answer ends the conversion
abbrev pub converter_asked : Env → PicDevices → PicDevices
converter_asked env d =
    if env.ready then
    record d { converter = record d.converter { result = result_of d.converter.conversion d.converter.result d.reading.adc; conversion = Idle } }
    else d
