-- What the next step asks for is what the file register asks for whose bit its instruction tests.
use Rattle.std.proofs.Common.{◌≡◌, ℕ, Bool, true, false, List, Option, Some, None, refl, ap, ◌∙◌}
use Rattle.std.specs.Prelude.{◌==◌, ◌&&◌, nat_lt, if◌then◌else◌}
use Rattle.chip_tables.specs.Outside.{no_reading}
use Rattle.chip_tables.specs.declared.outside.Env.{Env}
use Rattle.chip_tables.specs.declared.outside.Poll.{Poll}
use Rattle.chip_tables.specs.declared.outside.Poll.TheVariants.{NoPoll, CycleReady, CycleNotReady, CycleStill}
use Rattle.chip_tables.specs.declared.outside.StuckCause.{StuckCause}
use Rattle.chip_tables.specs.declared.outside.StuckCause.TheVariants.{PastFlash}
use Rattle.runs.specs.declared.ask.Ask.{Ask}
use Rattle.runs.specs.declared.ask.Ask.TheVariants as ask
use Rattle.runs.specs.Run.{ask_of, reading_asked, device_asked, reading_ask, device_ask}
use Rattle.runs.specs.Chip.{steps_over, went_to}
use Rattle.pic_devices.specs.declared.part.PicPart.{PicPart}
use Rattle.pic_devices.specs.declared.file_space.PicPlace.{PicPlace}
use Rattle.pic_devices.specs.declared.file_space.PicPlace.TheVariants.{Ram, Special}
use Rattle.pic_devices.specs.declared.file_space.PicRegister.TheVariants.{Indf, Pcl, Status, Fsr, Pclath, Porta, Portb, Portc, Portd, Porte, Trisa, Trisb, Trisc, Trisd, Trise, Pir1, Tmr1l, Tmr1h, T1con, Ccpr1l, Ccpr1h, Ccp1con, Rcsta, Txreg, Rcreg, Txsta, Spbrg, Cmcon, T2con, Pr2, Ccpr2l, Ccp2con, Adresh, Adresl, Adcon0, Adcon1, Eedata, Eeadr, Eecon1, Eecon2, Absent}
use Rattle.pic_devices.specs.Device.{is_timing}
use Rattle.pic_devices.specs.Part.{flash_words}
use Rattle.pic16_mach.specs.declared.insn.Destination.{Destination}
use Rattle.pic16_mach.specs.declared.insn.Destination.TheVariants.{W, File}
use Rattle.pic16_mach.specs.declared.insn.PicInsn.{PicInsn}
use Rattle.pic16_mach.specs.declared.insn.PicInsn.TheVariants.{Addwf, Andwf, Clrf, Clrw, Comf, Decf, Decfsz, Incf, Incfsz, Iorwf, Movf, Movwf, Nop, Rlf, Rrf, Subwf, Swapf, Xorwf, Bcf, Bsf, Btfsc, Btfss, Addlw, Andlw, Iorlw, Movlw, Sublw, Xorlw, Call, Goto, Retlw, Return, Retfie, Clrwdt, Sleep}
use Rattle.pic16_mach.specs.declared.state.PicState.{PicState}
use Rattle.pic16_mach.specs.declared.state.Acted.{Acted}
use Rattle.pic16_mach.specs.declared.state.Flow.TheVariants.{Next}
use Rattle.pic16_mach.specs.Asks.{place_ask, bit_ask, insn_ask, unless_stuck_ask, ask_by, ask_at}
use Rattle.pic16_mach.specs.Control.{skipped, obstacle}
use Rattle.pic16_mach.specs.Exec.{exec, taken}
use Rattle.pic16_mach.specs.File.{place_of, asking_read, plain_read, bit_read, delivered}
use Rattle.pic16_mach.specs.State.{act}
use Rattle.pic16_mach.specs.Step.{pic_step, stuck, unless_stuck, step_by, insn_at}

abbrev env_of : Bool → Env
env_of ready = record { ready = ready; reading = no_reading }

-- what two polls say of the state: the one with a ready answer, and the one without
abbrev asked : Poll → Poll → Ask
asked p q = reading_asked p (device_asked q)

quiet : (p q : Poll) → p ≡ NoPoll → q ≡ NoPoll → asked p q ≡ ask.Nothing
quiet p q e f = ap (λ x. asked x q) e ∙ ap (asked NoPoll) f

skipped_poll : (a : Acted) (test : Bool) → (skipped a test).poll ≡ a.poll
skipped_poll a true = refl
skipped_poll a false = refl

-- a result goes quietly to W and to a file register
delivered_quiet : (part : PicPart) (m : PicState) (p : PicPlace) (d : Destination) (x : ℕ) (flagged : Bool) →
    (delivered part m p d x flagged).acted.poll ≡ NoPoll
delivered_quiet part m p W x flagged = refl
delivered_quiet part m p File x flagged = refl

result_quiet : (part : PicPart) (m : PicState) (p : PicPlace) (d : Destination) (x : ℕ) (flagged : Bool) →
    asked (delivered part m p d x flagged).acted.poll (delivered part m p d x flagged).acted.poll ≡ ask.Nothing
result_quiet part m p d x flagged = let e = delivered_quiet part m p d x flagged in quiet _ _ e e

skip_quiet : (part : PicPart) (m : PicState) (p : PicPlace) (d : Destination) (x : ℕ) (test : Bool) →
    asked (skipped (delivered part m p d x false).acted test).poll (skipped (delivered part m p d x false).acted test).poll ≡ ask.Nothing
skip_quiet part m p d x test =
    let e = skipped_poll (delivered part m p d x false).acted test ∙ delivered_quiet part m p d x false in quiet _ _ e e

-- the cycle timer
timer_asks : (flag timing : Bool) → asked (if flag then CycleStill else if timing && true then CycleReady else CycleNotReady)
    (if flag then CycleStill else if timing && false then CycleReady else CycleNotReady) ≡ (if flag then ask.Nothing else if timing then ask.Reading else
    ask.Nothing)
timer_asks true timing = refl
timer_asks false true = refl
timer_asks false false = refl

place_asks : (part : PicPart) (m : PicState) (p : PicPlace) →
    asked (asking_read part (env_of true) m p).answer.poll (asking_read part (env_of false) m p).answer.poll ≡ place_ask m.devices p
place_asks part m (Ram cell) = refl
place_asks part m (Special Pir1) = timer_asks m.devices.timer.flag (is_timing m.devices)
place_asks part m (Special Indf) = refl
place_asks part m (Special Pcl) = refl
place_asks part m (Special Status) = refl
place_asks part m (Special Fsr) = refl
place_asks part m (Special Pclath) = refl
place_asks part m (Special Porta) = refl
place_asks part m (Special Portb) = refl
place_asks part m (Special Portc) = refl
place_asks part m (Special Portd) = refl
place_asks part m (Special Porte) = refl
place_asks part m (Special Trisa) = refl
place_asks part m (Special Trisb) = refl
place_asks part m (Special Trisc) = refl
place_asks part m (Special Trisd) = refl
place_asks part m (Special Trise) = refl
place_asks part m (Special Tmr1l) = refl
place_asks part m (Special Tmr1h) = refl
place_asks part m (Special T1con) = refl
place_asks part m (Special Ccpr1l) = refl
place_asks part m (Special Ccpr1h) = refl
place_asks part m (Special Ccp1con) = refl
place_asks part m (Special Rcsta) = refl
place_asks part m (Special Txreg) = refl
place_asks part m (Special Rcreg) = refl
place_asks part m (Special Txsta) = refl
place_asks part m (Special Spbrg) = refl
place_asks part m (Special Cmcon) = refl
place_asks part m (Special T2con) = refl
place_asks part m (Special Pr2) = refl
place_asks part m (Special Ccpr2l) = refl
place_asks part m (Special Ccp2con) = refl
place_asks part m (Special Adresh) = refl
place_asks part m (Special Adresl) = refl
place_asks part m (Special Adcon0) = refl
place_asks part m (Special Adcon1) = refl
place_asks part m (Special Eedata) = refl
place_asks part m (Special Eeadr) = refl
place_asks part m (Special Eecon1) = refl
place_asks part m (Special Eecon2) = refl
place_asks part m (Special Absent) = refl

bit_cases : (part : PicPart) (m : PicState) (p : PicPlace) (b : Bool) →
    asked (if b then asking_read part (env_of true) m p else plain_read part m p).answer.poll
    (if b then asking_read part (env_of false) m p else plain_read part m p).answer.poll ≡ (if b then place_ask m.devices p else ask.Nothing)
bit_cases part m p true = place_asks part m p
bit_cases part m p false = refl

test_asks : (part : PicPart) (m : PicState) (p : PicPlace) (b : ℕ) (s t : Bool) →
    let y = bit_read part (env_of true) m p b in let n = bit_read part (env_of false) m p b in
    asked (skipped (act Next 1 y.answer.poll None) s).poll (skipped (act Next 1 n.answer.poll None) t).poll ≡ bit_ask m.devices p b
test_asks part m p b s t =
    let y = bit_read part (env_of true) m p b in
    let n = bit_read part (env_of false) m p b in
    ap (λ x. asked x (skipped (act Next 1 n.answer.poll None) t).poll) (skipped_poll (act Next 1 y.answer.poll None) s)
    ∙ ap (asked y.answer.poll) (skipped_poll (act Next 1 n.answer.poll None) t)
    ∙ bit_cases part m p (b == 2)

-- an instruction
insn_asks : (part : PicPart) (i : PicInsn) (m : PicState) →
    asked (exec part (env_of true) i m).acted.poll (exec part (env_of false) i m).acted.poll ≡ insn_ask part i m
insn_asks part (Addwf f d) m = result_quiet part _ (place_of part m f) d _ _
insn_asks part (Andwf f d) m = result_quiet part _ (place_of part m f) d _ _
insn_asks part (Clrf f) m = refl
insn_asks part Clrw m = refl
insn_asks part (Comf f d) m = result_quiet part _ (place_of part m f) d _ _
insn_asks part (Decf f d) m = result_quiet part _ (place_of part m f) d _ _
insn_asks part (Decfsz f d) m = skip_quiet part (taken part m f) (place_of part m f) d _ _
insn_asks part (Incf f d) m = result_quiet part _ (place_of part m f) d _ _
insn_asks part (Incfsz f d) m = skip_quiet part (taken part m f) (place_of part m f) d _ _
insn_asks part (Iorwf f d) m = result_quiet part _ (place_of part m f) d _ _
insn_asks part (Movf f d) m = result_quiet part _ (place_of part m f) d _ _
insn_asks part (Movwf f) m = refl
insn_asks part Nop m = refl
insn_asks part (Rlf f d) m = result_quiet part _ (place_of part m f) d _ _
insn_asks part (Rrf f d) m = result_quiet part _ (place_of part m f) d _ _
insn_asks part (Subwf f d) m = result_quiet part _ (place_of part m f) d _ _
insn_asks part (Swapf f d) m = result_quiet part _ (place_of part m f) d _ _
insn_asks part (Xorwf f d) m = result_quiet part _ (place_of part m f) d _ _
insn_asks part (Bcf f b) m = refl
insn_asks part (Bsf f b) m = refl
insn_asks part (Btfsc f b) m = test_asks part m (place_of part m f) b _ _
insn_asks part (Btfss f b) m = test_asks part m (place_of part m f) b _ _
insn_asks part (Addlw k) m = refl
insn_asks part (Andlw k) m = refl
insn_asks part (Iorlw k) m = refl
insn_asks part (Movlw k) m = refl
insn_asks part (Sublw k) m = refl
insn_asks part (Xorlw k) m = refl
insn_asks part (Call k) m = refl
insn_asks part (Goto k) m = refl
insn_asks part (Retlw k) m = refl
insn_asks part Return m = refl
insn_asks part Retfie m = refl
insn_asks part Clrwdt m = refl
insn_asks part Sleep m = refl

by_obstacle : (part : PicPart) (flash : List ℕ) (m : PicState) (i : PicInsn) (o : Option StuckCause) →
    let s = unless_stuck part flash (env_of true) m i o in let t = unless_stuck part flash (env_of false) m i o in
    reading_ask (went_to s.state s.end) (device_ask (went_to t.state t.end)) ≡ unless_stuck_ask part i m o
by_obstacle part flash m i (Some cause) = refl
by_obstacle part flash m i None = insn_asks part i m

by_insn : (part : PicPart) (flash : List ℕ) (m : PicState) (i : Option PicInsn) →
    let s = step_by part flash (env_of true) m i in let t = step_by part flash (env_of false) m i in
    reading_ask (went_to s.state s.end) (device_ask (went_to t.state t.end)) ≡ ask_by part m i
by_insn part flash m None = refl
by_insn part flash m (Some i) = by_obstacle part flash m i (obstacle i m)

by_place : (part : PicPart) (flash : List ℕ) (m : PicState) (b : Bool) →
    let s = (if b then step_by part flash (env_of true) m (insn_at part flash m.place) else stuck part flash m PastFlash) in
    let t = (if b then step_by part flash (env_of false) m (insn_at part flash m.place) else stuck part flash m PastFlash) in
    reading_ask (went_to s.state s.end) (device_ask (went_to t.state t.end)) ≡ (if b then ask_by part m (insn_at part flash m.place) else ask.Nothing)
by_place part flash m true = by_insn part flash m (insn_at part flash m.place)
by_place part flash m false = refl

pub asks_is : (part : PicPart) (flash : List ℕ) (m : PicState) → ask_of (steps_over (pic_step part) flash) m ≡ ask_at part flash m
unfolding ask_of
asks_is part flash m = by_place part flash m (nat_lt m.place (flash_words part))
