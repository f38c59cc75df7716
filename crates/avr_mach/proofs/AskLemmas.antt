-- What the next step asks for is what the register asks for that its instruction reads.
use Rattle.std.proofs.Common.{◌≡◌, ℕ, ◌-◌, Bool, true, false, List, Option, Some, None, refl, ap, ◌∙◌}
use Rattle.std.specs.Prelude.{◌+◌, ◌%◌, ◌&&◌, not, nat_lt, if◌then◌else◌}
use Rattle.chip_tables.specs.Outside.{no_reading}
use Rattle.chip_tables.specs.declared.mega16.TheConstants.{FLASH_WORDS, IO_FIRST, SRAM_FIRST}
use Rattle.chip_tables.specs.declared.outside.Env.{Env}
use Rattle.chip_tables.specs.declared.outside.Poll.{Poll}
use Rattle.chip_tables.specs.declared.outside.Poll.TheVariants.{NoPoll, CycleReady, CycleNotReady, CycleStill}
use Rattle.chip_tables.specs.declared.outside.StuckCause.{StuckCause}
use Rattle.runs.specs.declared.ask.Ask.{Ask}
use Rattle.runs.specs.declared.ask.Ask.TheVariants as ask
use Rattle.runs.specs.Run.{ask_of, reading_asked, device_asked, reading_ask, device_ask}
use Rattle.runs.specs.Chip.{steps_over, went_to}
use Rattle.avr_devices.specs.declared.io_space.IoRegister.{IoRegister}
use Rattle.avr_devices.specs.declared.io_space.IoRegister.TheVariants.{Adcl, Adch, Adcsra, Admux, Ubrrl, Ucsrb, Ucsra, Udr, Pind, Ddrd, Portd, Pinc, Ddrc, Portc, Pinb, Ddrb, Portb, Pina, Ddra, Porta, Eecr, Eedr, Eearl, Eearh, Ubrrh, Ocr2, Tccr2, Ocr1al, Ocr1ah, Tccr1b, Tccr1a, Tifr, Spl, Sph, Sreg, Absent}
use Rattle.avr_devices.specs.Device.{is_timing}
use Rattle.avr_devices.specs.IoSpace.{register_at}
use Rattle.avr_devices.specs.Part.{mega16}
use Rattle.avr_mach.specs.declared.insn.AvrInsn.{AvrInsn}
use Rattle.avr_mach.specs.declared.insn.AvrInsn.TheVariants.{Add, Adc, Sub, Sbc, Cp, Cpc, And, Eor, Or, Mov, Cpi, Ldi, Com, Inc, Lsr, Ror, Dec, Brbs, Brbc, Bset, Bclr, Rjmp, Rcall, Jmp, Call, Ret, In, Out, Cbi, Sbi, Sbic, Sbis, Sbrc, Sbrs, Lds, Sts, Ldd, Std, St, Nop}
use Rattle.avr_mach.specs.declared.state.AvrState.{AvrState}
use Rattle.avr_mach.specs.declared.state.Acted.{Acted}
use Rattle.avr_mach.specs.declared.state.Flow.{Flow}
use Rattle.avr_mach.specs.declared.state.Flow.TheVariants.{Next, Skip, To}
use Rattle.avr_mach.specs.Asks.{in_ask, bit_ask, lds_ask, insn_ask, unless_stuck_ask, ask_by, ask_at}
use Rattle.avr_mach.specs.Control.{branch, skip_if, obstacle}
use Rattle.avr_mach.specs.Exec.{exec}
use Rattle.avr_mach.specs.Memory.{Read, in_read, bit_read, lds_register, data_read}
use Rattle.avr_mach.specs.State.{flag, reg, pointer}
use Rattle.avr_mach.specs.Step.{avr_step, settled, stuck, unless_stuck, step_by, insn_at}
use Rattle.avr_mach.specs.Words.{size_of}
use Rattle.chip_tables.specs.declared.outside.StuckCause.TheVariants.{PastFlash}
use Rattle.chip_tables.specs.Bits.{bit_of}

abbrev env_of : Bool → Env
env_of ready = record { ready = ready; reading = no_reading }

-- what two polls say of the state: the one with a ready answer, and the one without
abbrev asked : Poll → Poll → Ask
asked p q = reading_asked p (device_asked q)

quiet : (p q : Poll) → p ≡ NoPoll → q ≡ NoPoll → asked p q ≡ ask.Nothing
quiet p q e f = ap (λ x. asked x q) e ∙ ap (asked NoPoll) f

branch_quiet : (m : AvrState) (taken : Bool) (here k : ℕ) → (branch mega16 m taken here k).acted.poll ≡ NoPoll
branch_quiet m true here k = refl
branch_quiet m false here k = refl

skip_quiet : (m : AvrState) (test : Bool) → (skip_if m test).acted.poll ≡ NoPoll
skip_quiet m true = refl
skip_quiet m false = refl

one_of_three : (b c : Bool) (x y z : Read) → x.answer.poll ≡ NoPoll → y.answer.poll ≡ NoPoll → z.answer.poll ≡ NoPoll →
    (if b then x else if c then y else z).answer.poll ≡ NoPoll
one_of_three true c x y z e f g = e
one_of_three false true x y z e f g = f
one_of_three false false x y z e f g = g

data_quiet : (m : AvrState) (address : ℕ) → (data_read mega16 m address).answer.poll ≡ NoPoll
data_quiet m address = one_of_three (nat_lt address IO_FIRST) (nat_lt address SRAM_FIRST) _ _ _ refl refl refl

-- the cycle timer
timer_asks : (flag timing : Bool) → asked (if flag then CycleStill else if timing && true then CycleReady else CycleNotReady)
    (if flag then CycleStill else if timing && false then CycleReady else CycleNotReady) ≡ (if flag then ask.Nothing else if timing then ask.Reading else
    ask.Nothing)
timer_asks true timing = refl
timer_asks false true = refl
timer_asks false false = refl

in_asks : (m : AvrState) (r : IoRegister) → asked (in_read (env_of true) m r).answer.poll (in_read (env_of false) m r).answer.poll ≡ in_ask m.devices r
in_asks m Tifr = timer_asks m.devices.timer.flag (is_timing m.devices)
in_asks m Adcsra = refl
in_asks m Adcl = refl
in_asks m Adch = refl
in_asks m Admux = refl
in_asks m Ubrrl = refl
in_asks m Ucsrb = refl
in_asks m Ucsra = refl
in_asks m Udr = refl
in_asks m Pind = refl
in_asks m Ddrd = refl
in_asks m Portd = refl
in_asks m Pinc = refl
in_asks m Ddrc = refl
in_asks m Portc = refl
in_asks m Pinb = refl
in_asks m Ddrb = refl
in_asks m Portb = refl
in_asks m Pina = refl
in_asks m Ddra = refl
in_asks m Porta = refl
in_asks m Eecr = refl
in_asks m Eedr = refl
in_asks m Eearl = refl
in_asks m Eearh = refl
in_asks m Ubrrh = refl
in_asks m Ocr2 = refl
in_asks m Tccr2 = refl
in_asks m Ocr1al = refl
in_asks m Ocr1ah = refl
in_asks m Tccr1b = refl
in_asks m Tccr1a = refl
in_asks m Spl = refl
in_asks m Sph = refl
in_asks m Sreg = refl
in_asks m Absent = refl

bit_asks : (m : AvrState) (r : IoRegister) → asked (bit_read (env_of true) m r).answer.poll (bit_read (env_of false) m r).answer.poll ≡ bit_ask r
bit_asks m Tifr = refl
bit_asks m Adcsra = refl
bit_asks m Adcl = refl
bit_asks m Adch = refl
bit_asks m Admux = refl
bit_asks m Ubrrl = refl
bit_asks m Ucsrb = refl
bit_asks m Ucsra = refl
bit_asks m Udr = refl
bit_asks m Pind = refl
bit_asks m Ddrd = refl
bit_asks m Portd = refl
bit_asks m Pinc = refl
bit_asks m Ddrc = refl
bit_asks m Portc = refl
bit_asks m Pinb = refl
bit_asks m Ddrb = refl
bit_asks m Portb = refl
bit_asks m Pina = refl
bit_asks m Ddra = refl
bit_asks m Porta = refl
bit_asks m Eecr = refl
bit_asks m Eedr = refl
bit_asks m Eearl = refl
bit_asks m Eearh = refl
bit_asks m Ubrrh = refl
bit_asks m Ocr2 = refl
bit_asks m Tccr2 = refl
bit_asks m Ocr1al = refl
bit_asks m Ocr1ah = refl
bit_asks m Tccr1b = refl
bit_asks m Tccr1a = refl
bit_asks m Spl = refl
bit_asks m Sph = refl
bit_asks m Sreg = refl
bit_asks m Absent = refl

register_asks : (m : AvrState) (r : IoRegister) →
    asked (lds_register (env_of true) m r).answer.poll (lds_register (env_of false) m r).answer.poll ≡ lds_ask m.devices r
register_asks m Tifr = timer_asks m.devices.timer.flag (is_timing m.devices)
register_asks m Adcsra = refl
register_asks m Adcl = refl
register_asks m Adch = refl
register_asks m Admux = refl
register_asks m Ubrrl = refl
register_asks m Ucsrb = refl
register_asks m Ucsra = refl
register_asks m Udr = refl
register_asks m Pind = refl
register_asks m Ddrd = refl
register_asks m Portd = refl
register_asks m Pinc = refl
register_asks m Ddrc = refl
register_asks m Portc = refl
register_asks m Pinb = refl
register_asks m Ddrb = refl
register_asks m Portb = refl
register_asks m Pina = refl
register_asks m Ddra = refl
register_asks m Porta = refl
register_asks m Eecr = refl
register_asks m Eedr = refl
register_asks m Eearl = refl
register_asks m Eearh = refl
register_asks m Ubrrh = refl
register_asks m Ocr2 = refl
register_asks m Tccr2 = refl
register_asks m Ocr1al = refl
register_asks m Ocr1ah = refl
register_asks m Tccr1b = refl
register_asks m Tccr1a = refl
register_asks m Spl = refl
register_asks m Sph = refl
register_asks m Sreg = refl
register_asks m Absent = refl

lds_cases : (b c : Bool) (x y z x' y' z' : Read) (a : Ask) → x.answer.poll ≡ NoPoll → x'.answer.poll ≡ NoPoll → asked y.answer.poll y'.answer.poll ≡ a →
    z.answer.poll ≡ NoPoll → z'.answer.poll ≡ NoPoll → asked (if b then x else if c then y else z).answer.poll
    (if b then x' else if c then y' else z').answer.poll ≡ (if b then ask.Nothing else if c then a else ask.Nothing)
lds_cases true c x y z x' y' z' a e e' f g g' = quiet x.answer.poll x'.answer.poll e e'
lds_cases false true x y z x' y' z' a e e' f g g' = f
lds_cases false false x y z x' y' z' a e e' f g g' = quiet z.answer.poll z'.answer.poll g g'

-- an instruction
insn_asks : (i : AvrInsn) (here : ℕ) (m : AvrState) →
    asked (exec mega16 (env_of true) i here m).acted.poll (exec mega16 (env_of false) i here m).acted.poll ≡ insn_ask i m.devices
insn_asks (Add d r) here m = refl
insn_asks (Adc d r) here m = refl
insn_asks (Sub d r) here m = refl
insn_asks (Sbc d r) here m = refl
insn_asks (Cp d r) here m = refl
insn_asks (Cpc d r) here m = refl
insn_asks (And d r) here m = refl
insn_asks (Eor d r) here m = refl
insn_asks (Or d r) here m = refl
insn_asks (Mov d r) here m = refl
insn_asks (Cpi d r) here m = refl
insn_asks (Ldi d r) here m = refl
insn_asks (Com d) here m = refl
insn_asks (Inc d) here m = refl
insn_asks (Lsr d) here m = refl
insn_asks (Ror d) here m = refl
insn_asks (Dec d) here m = refl
insn_asks (Brbs s k) here m = let e = branch_quiet m (flag m s) here k in quiet _ _ e e
insn_asks (Brbc s k) here m = let e = branch_quiet m (not (flag m s)) here k in quiet _ _ e e
insn_asks (Bset s) here m = refl
insn_asks (Bclr s) here m = refl
insn_asks (Rjmp k) here m = refl
insn_asks (Rcall k) here m = refl
insn_asks (Jmp place) here m = refl
insn_asks (Call place) here m = refl
insn_asks Ret here m = refl
insn_asks (In d a) here m = in_asks m (register_at a)
insn_asks (Out a r) here m = refl
insn_asks (Cbi a b) here m = refl
insn_asks (Sbi a b) here m = refl
insn_asks (Sbic a b) here m = bit_asks m (register_at a)
insn_asks (Sbis a b) here m = bit_asks m (register_at a)
insn_asks (Sbrc r b) here m = let e = skip_quiet m (not (bit_of (reg m r) b)) in quiet _ _ e e
insn_asks (Sbrs r b) here m = let e = skip_quiet m (bit_of (reg m r) b) in quiet _ _ e e
insn_asks (Lds d address) here m =
    lds_cases (nat_lt address IO_FIRST) (nat_lt address SRAM_FIRST) _ _ _ _ _ _ (lds_ask m.devices (register_at (address - IO_FIRST))) refl refl
    (register_asks m (register_at (address - IO_FIRST))) refl refl
insn_asks (Sts address r) here m = refl
insn_asks (Ldd d q) here m = let e = data_quiet m ((pointer m 28 + q) % 65536) in quiet _ _ e e
insn_asks (Std q r) here m = refl
insn_asks (St r) here m = refl
insn_asks Nop here m = refl

settled_reading : (flash : List ℕ) (next : ℕ) (m : AvrState) (f : Flow) (a : Acted) (other : Ask) →
    reading_ask (went_to (settled mega16 flash next m f a).state (settled mega16 flash next m f a).end) other ≡ reading_asked a.poll other
settled_reading flash next m Next a other = refl
settled_reading flash next m Skip a other = refl
settled_reading flash next m (To place) a other = refl

settled_device : (flash : List ℕ) (next : ℕ) (m : AvrState) (f : Flow) (a : Acted) →
    device_ask (went_to (settled mega16 flash next m f a).state (settled mega16 flash next m f a).end) ≡ device_asked a.poll
settled_device flash next m Next a = refl
settled_device flash next m Skip a = refl
settled_device flash next m (To place) a = refl

by_obstacle : (flash : List ℕ) (m : AvrState) (i : AvrInsn) (o : Option StuckCause) →
    let s = unless_stuck mega16 flash (env_of true) m i o in let t = unless_stuck mega16 flash (env_of false) m i o in
    reading_ask (went_to s.state s.end) (device_ask (went_to t.state t.end)) ≡ unless_stuck_ask i m o
by_obstacle flash m i (Some cause) = refl
by_obstacle flash m i None =
    let a = exec mega16 (env_of true) i m.place m in
    let b = exec mega16 (env_of false) i m.place m in
    settled_reading flash (m.place + size_of i) a.state a.acted.flow a.acted _
    ∙ ap (reading_asked a.acted.poll) (settled_device flash (m.place + size_of i) b.state b.acted.flow b.acted)
    ∙ insn_asks i m.place m

by_insn : (flash : List ℕ) (m : AvrState) (i : Option AvrInsn) →
    let s = step_by mega16 flash (env_of true) m i in let t = step_by mega16 flash (env_of false) m i in
    reading_ask (went_to s.state s.end) (device_ask (went_to t.state t.end)) ≡ ask_by m i
by_insn flash m None = refl
by_insn flash m (Some i) = by_obstacle flash m i (obstacle mega16 i m)

by_place : (flash : List ℕ) (m : AvrState) (b : Bool) →
    let s = (if b then step_by mega16 flash (env_of true) m (insn_at mega16 flash m.place) else stuck mega16 flash m PastFlash) in
    let t = (if b then step_by mega16 flash (env_of false) m (insn_at mega16 flash m.place) else stuck mega16 flash m PastFlash) in
    reading_ask (went_to s.state s.end) (device_ask (went_to t.state t.end)) ≡ (if b then ask_by m (insn_at mega16 flash m.place) else ask.Nothing)
by_place flash m true = by_insn flash m (insn_at mega16 flash m.place)
by_place flash m false = refl

pub asks_is : (flash : List ℕ) (m : AvrState) → ask_of (steps_over (avr_step mega16) flash) m ≡ ask_at flash m
unfolding ask_of
asks_is flash m = by_place flash m (nat_lt m.place FLASH_WORDS)
