-- One step of the machine: a word of program flash is fetched and executed.
use Rattle.std.specs.Prelude.{ℕ, ◌+◌, nat_lt, if◌then◌else◌, List, Option, Some, None, slice_index_or}
use Rattle.chip_tables.specs.declared.outside.Env.{Env}
use Rattle.chip_tables.specs.declared.outside.StuckCause.{StuckCause}
use Rattle.chip_tables.specs.declared.outside.StuckCause.TheVariants.{Undefined, PastFlash}
use Rattle.chip_tables.specs.declared.outside.StepEnd.TheVariants.{Went, Stuck}
use Rattle.chip_tables.specs.Step.{Step, Stepped}
use Rattle.pic_devices.specs.declared.part.PicPart.{PicPart}
use Rattle.pic_devices.specs.DeviceWrites.{instruction_passed}
use Rattle.pic_devices.specs.Part.{flash_words}
use Rattle.pic16_mach.specs.declared.insn.PicInsn.{PicInsn}
use Rattle.pic16_mach.specs.declared.state.PicState.{PicState}
use Rattle.pic16_mach.specs.declared.state.Acted.{Acted}
use Rattle.pic16_mach.specs.declared.state.Flow.{Flow}
use Rattle.pic16_mach.specs.declared.state.Flow.TheVariants.{Next, Skip, To}
use Rattle.pic16_mach.specs.Control.{obstacle}
use Rattle.pic16_mach.specs.Exec.{exec}
use Rattle.pic16_mach.specs.Insn.{pic_decode}

-- the word at a place: erased flash is all ones, where no word is given and past the flash
abbrev pub word_at : PicPart → List ℕ → ℕ → ℕ
word_at part flash place = if nat_lt place (flash_words part) then slice_index_or flash place 0x3fff else 0x3fff

abbrev pub insn_at : PicPart → List ℕ → ℕ → Option PicInsn
insn_at part flash place = pic_decode (word_at part flash place)

-- where the machine goes on from a place
abbrev pub goes_to : ℕ → Flow → ℕ
goes_to here Next = here + 1
goes_to here Skip = here + 2
goes_to here (To place) = place

-- the machine comes to a place, and the devices see that an instruction ended
abbrev pub went : PicState → ℕ → Acted → Stepped PicState
went m place acted =
    record {
      state = record m { place = place; devices = instruction_passed m.devices };
      end = Went (record { cycles = acted.cycles; poll = acted.poll; sent = acted.sent });
    }

abbrev pub stuck : PicPart → List ℕ → PicState → StuckCause → Stepped PicState
stuck part flash m cause =
    record { state = m; end = Stuck (record { place = m.place; word = word_at part flash m.place; cause = cause }) }

abbrev pub unless_stuck : PicPart → List ℕ → Env → PicState → PicInsn → Option StuckCause → Stepped PicState
unless_stuck part flash env m i (Some cause) = stuck part flash m cause
unless_stuck part flash env m i None =
    let a = exec part env i m in
    went a.state (goes_to m.place a.acted.flow) a.acted

abbrev pub step_by : PicPart → List ℕ → Env → PicState → Option PicInsn → Stepped PicState
step_by part flash env m None = stuck part flash m Undefined
step_by part flash env m (Some i) = unless_stuck part flash env m i (obstacle i m)

abbrev pub pic_step : PicPart → Step PicState
pic_step part flash env m =
    if nat_lt m.place (flash_words part) then step_by part flash env m (insn_at part flash m.place) else stuck part flash m PastFlash
