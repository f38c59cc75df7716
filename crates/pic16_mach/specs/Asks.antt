-- What an instruction of a PIC asks the outside for, by the file register whose bit it tests.
use Rattle.std.specs.Prelude.{ℕ, ◌==◌, nat_lt, if◌then◌else◌, List, Option, Some, None}
use Rattle.runs.specs.declared.ask.Ask.{Ask}
use Rattle.runs.specs.declared.ask.Ask.TheVariants as ask
use Rattle.chip_tables.specs.declared.outside.StuckCause.{StuckCause}
use Rattle.pic_devices.specs.declared.devices.PicDevices.{PicDevices}
use Rattle.pic_devices.specs.declared.part.PicPart.{PicPart}
use Rattle.pic_devices.specs.declared.file_space.PicPlace.{PicPlace}
use Rattle.pic_devices.specs.declared.file_space.PicPlace.TheVariants.{Special}
use Rattle.pic_devices.specs.declared.file_space.PicRegister.TheVariants.{Pir1, Adcon0}
use Rattle.pic_devices.specs.Device.{is_timing}
use Rattle.pic_devices.specs.Part.{flash_words}
use Rattle.pic16_mach.specs.declared.insn.PicInsn.{PicInsn}
use Rattle.pic16_mach.specs.declared.insn.PicInsn.TheVariants.{Btfsc, Btfss}
use Rattle.pic16_mach.specs.declared.state.PicState.{PicState}
use Rattle.pic16_mach.specs.Control.{obstacle}
use Rattle.pic16_mach.specs.File.{place_of}
use Rattle.pic16_mach.specs.Step.{insn_at}

-- the cycle timer is asked where it is set up and its flag does not stand
abbrev pub timer_ask : PicDevices → Ask
timer_ask d = if d.timer.flag then ask.Nothing else if is_timing d then ask.Reading else ask.Nothing

abbrev pub place_ask : PicDevices → PicPlace → Ask
place_ask d (Special Pir1) = timer_ask d
place_ask d (Special Adcon0) = ask.Device
place_ask d p = ask.Nothing

-- bit 2 alone asks
abbrev pub bit_ask : PicDevices → PicPlace → ℕ → Ask
bit_ask d p b = if b == 2 then place_ask d p else ask.Nothing

abbrev pub insn_ask : PicPart → PicInsn → PicState → Ask
insn_ask part (Btfsc f b) m = bit_ask m.devices (place_of part m f) b
insn_ask part (Btfss f b) m = bit_ask m.devices (place_of part m f) b
insn_ask part _ m = ask.Nothing

abbrev pub unless_stuck_ask : PicPart → PicInsn → PicState → Option StuckCause → Ask
unless_stuck_ask part i m (Some cause) = ask.Nothing
unless_stuck_ask part i m None = insn_ask part i m

abbrev pub ask_by : PicPart → PicState → Option PicInsn → Ask
ask_by part m None = ask.Nothing
ask_by part m (Some i) = unless_stuck_ask part i m (obstacle i m)

abbrev pub ask_at : PicPart → List ℕ → PicState → Ask
ask_at part flash m = if nat_lt m.place (flash_words part) then ask_by part m (insn_at part flash m.place) else ask.Nothing
