-- One step of the machine: a word of program flash is fetched and executed.
use Rattle.std.specs.Prelude.{ℕ, ◌+◌, nat_lt, if◌then◌else◌, List, Option, Some, None, option_and_then, slice_index_or}
use Rattle.chip_tables.specs.declared.outside.Env.{Env}
use Rattle.chip_tables.specs.declared.outside.StuckCause.{StuckCause}
use Rattle.chip_tables.specs.declared.outside.StuckCause.TheVariants.{Undefined, PastFlash}
use Rattle.chip_tables.specs.declared.outside.StepEnd.TheVariants.{Went, Stuck}
use Rattle.chip_tables.specs.Step.{Step, Stepped}
use Rattle.avr_devices.specs.DeviceWrites.{cycles_passed}
use Rattle.avr_devices.specs.Part.{AvrPart}
use Rattle.avr_mach.specs.declared.insn.AvrInsn.{AvrInsn}
use Rattle.avr_mach.specs.declared.insn.AvrInsn.TheVariants.{Add, Adc, Sub, Sbc, Cp, Cpc, And, Eor, Or, Mov, Cpi, Ldi, Com, Inc, Lsr, Ror, Dec, Brbs, Brbc, Bset, Bclr, Rjmp, Rcall, Jmp, Call, Ret, In, Out, Cbi, Sbi, Sbic, Sbis, Sbrc, Sbrs, Lds, Sts, Ldd, Std, St, Nop}
use Rattle.avr_mach.specs.declared.state.AvrState.{AvrState}
use Rattle.avr_mach.specs.declared.state.Acted.{Acted}
use Rattle.avr_mach.specs.declared.state.Flow.{Flow}
use Rattle.avr_mach.specs.declared.state.Flow.TheVariants.{Next, Skip, To}
use Rattle.avr_mach.specs.Control.{obstacle}
use Rattle.avr_mach.specs.Exec.{exec}
use Rattle.avr_mach.specs.Insn.{avr_decode}
use Rattle.avr_mach.specs.Words.{size_of}

-- the word at a place: erased flash is all ones, where no word is given and past the flash
abbrev pub word_at : AvrPart → List ℕ → ℕ → ℕ
word_at part flash place = if nat_lt place part.flash_words then slice_index_or flash place 0xffff else 0xffff

-- JMP and CALL are words of no instruction on a part that lacks them
abbrev pub unless_far : AvrInsn → Option AvrInsn
unless_far (Jmp place) = None
unless_far (Call place) = None
unless_far (Add d r) = Some (Add d r)
unless_far (Adc d r) = Some (Adc d r)
unless_far (Sub d r) = Some (Sub d r)
unless_far (Sbc d r) = Some (Sbc d r)
unless_far (Cp d r) = Some (Cp d r)
unless_far (Cpc d r) = Some (Cpc d r)
unless_far (And d r) = Some (And d r)
unless_far (Eor d r) = Some (Eor d r)
unless_far (Or d r) = Some (Or d r)
unless_far (Mov d r) = Some (Mov d r)
unless_far (Cpi d k) = Some (Cpi d k)
unless_far (Ldi d k) = Some (Ldi d k)
unless_far (Com d) = Some (Com d)
unless_far (Inc d) = Some (Inc d)
unless_far (Lsr d) = Some (Lsr d)
unless_far (Ror d) = Some (Ror d)
unless_far (Dec d) = Some (Dec d)
unless_far (Brbs s k) = Some (Brbs s k)
unless_far (Brbc s k) = Some (Brbc s k)
unless_far (Bset s) = Some (Bset s)
unless_far (Bclr s) = Some (Bclr s)
unless_far (Rjmp k) = Some (Rjmp k)
unless_far (Rcall k) = Some (Rcall k)
unless_far Ret = Some Ret
unless_far (In d a) = Some (In d a)
unless_far (Out a r) = Some (Out a r)
unless_far (Cbi a b) = Some (Cbi a b)
unless_far (Sbi a b) = Some (Sbi a b)
unless_far (Sbic a b) = Some (Sbic a b)
unless_far (Sbis a b) = Some (Sbis a b)
unless_far (Sbrc r b) = Some (Sbrc r b)
unless_far (Sbrs r b) = Some (Sbrs r b)
unless_far (Lds d address) = Some (Lds d address)
unless_far (Sts address r) = Some (Sts address r)
unless_far (Ldd d q) = Some (Ldd d q)
unless_far (Std q r) = Some (Std q r)
unless_far (St r) = Some (St r)
unless_far Nop = Some Nop

abbrev pub known : AvrPart → Option AvrInsn → Option AvrInsn
known part found = if part.has_long_jumps then found else option_and_then unless_far found

abbrev pub insn_at : AvrPart → List ℕ → ℕ → Option AvrInsn
insn_at part flash place = known part (avr_decode (word_at part flash place) (word_at part flash (place + 1)))

-- how many words a skip passes
abbrev pub width_of : Option AvrInsn → ℕ
width_of None = 1
width_of (Some i) = size_of i

-- the machine comes to a place, and cycles pass for the devices too
abbrev pub at_place : AvrState → ℕ → ℕ → AvrState
at_place m place cycles = record m { place = place; devices = cycles_passed m.devices cycles }

abbrev pub went : AvrState → ℕ → ℕ → Acted → Stepped AvrState
went m place cycles acted =
    record { state = at_place m place cycles; end = Went (record { cycles = cycles; poll = acted.poll; sent = acted.sent }) }

-- by where the instruction goes on; `next` is the place after it. A skip takes a cycle for each word that it passes
abbrev pub settled : AvrPart → List ℕ → ℕ → AvrState → Flow → Acted → Stepped AvrState
settled part flash next m Next acted = went m next acted.cycles acted
settled part flash next m (To place) acted = went m place acted.cycles acted
settled part flash next m Skip acted =
    let words = width_of (insn_at part flash next) in
    went m (next + words) (acted.cycles + words) acted

abbrev pub stuck : AvrPart → List ℕ → AvrState → StuckCause → Stepped AvrState
stuck part flash m cause =
    record { state = m; end = Stuck (record { place = m.place; word = word_at part flash m.place; cause = cause }) }

abbrev pub unless_stuck : AvrPart → List ℕ → Env → AvrState → AvrInsn → Option StuckCause → Stepped AvrState
unless_stuck part flash env m i (Some cause) = stuck part flash m cause
unless_stuck part flash env m i None =
    let a = exec part env i m.place m in
    settled part flash (m.place + size_of i) a.state a.acted.flow a.acted

abbrev pub step_by : AvrPart → List ℕ → Env → AvrState → Option AvrInsn → Stepped AvrState
step_by part flash env m None = stuck part flash m Undefined
step_by part flash env m (Some i) = unless_stuck part flash env m i (obstacle part i m)

abbrev pub avr_step : AvrPart → Step AvrState
avr_step part flash env m =
    if nat_lt m.place part.flash_words then step_by part flash env m (insn_at part flash m.place) else stuck part flash m PastFlash
