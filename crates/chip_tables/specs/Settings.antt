-- The settings of the timer, the serial port and the pulse-width modulator.
use Rattle.std.specs.Prelude.{ℕ, ◌+◌, ◌-◌, ◌*◌, ◌/◌, ◌&&◌, ◌==◌, nat_le, nat_lt, Bool, true, false, if◌then◌else◌, List, [], ◌∷◌, Option, Some, None, find, option_map, option_and_then}
use Rattle.std.specs.Option.{option_or}
use Rattle.chip_tables.specs.declared.target.Target.{Target}
use Rattle.chip_tables.specs.declared.target.Target.TheVariants.{F628, F877, Mega16, Interp, AnsiC}
use Rattle.chip_tables.specs.declared.settings.Prescaler.{Prescaler}
use Rattle.chip_tables.specs.declared.settings.TimerSetting.{TimerSetting}
use Rattle.chip_tables.specs.declared.settings.BaudSetting.{BaudSetting}
use Rattle.chip_tables.specs.declared.settings.PwmSetting.{PwmSetting}

abbrev pub by : ℕ → ℕ → Prescaler
by ratio control = record { ratio = ratio; control = control }

-- Timer 1 counts instruction cycles of four clocks. PIC16F87X data sheet, register T1CON: prescaler
-- in bits 5:4, on by bit 0
abbrev pub pic_timer : List Prescaler
pic_timer = by 1 0x01 ∷ by 2 0x11 ∷ by 4 0x21 ∷ by 8 0x31 ∷ []

-- Timer 1 counts clocks. ATmega16 data sheet, register TCCR1B: clear on compare match by bit 3,
-- prescaler in bits 2:0
abbrev pub avr_timer : List Prescaler
avr_timer = by 1 0x09 ∷ by 8 0x0a ∷ by 64 0x0b ∷ by 256 0x0c ∷ by 1024 0x0d ∷ []

-- the whole ticks of a timer in a cycle of so many microseconds
abbrev pub ticks : ℕ → ℕ → ℕ → ℕ → ℕ
ticks cycle hz clocks ratio = cycle * hz / (ratio * clocks * 1000000)

-- a count of n ticks ends at n - 1
abbrev pub ending_at : ℕ → ℕ → Option TimerSetting
ending_at control n = if n == 0 then None else Some (record { control = control; compare = n - 1 })

-- the first prescaler for which the ticks of a cycle fit the timer
abbrev pub timer_among : List Prescaler → ℕ → ℕ → ℕ → Option TimerSetting
timer_among prescalers clocks cycle hz =
    option_and_then (λ p. ending_at p.control (ticks cycle hz clocks p.ratio))
    (find (λ p. nat_le (ticks cycle hz clocks p.ratio) 65536) prescalers)

abbrev pub timer_of : Target → ℕ → ℕ → Option TimerSetting
timer_of F628 cycle hz = timer_among pic_timer 4 cycle hz
timer_of F877 cycle hz = timer_among pic_timer 4 cycle hz
timer_of Mega16 cycle hz = timer_among avr_timer 1 cycle hz
timer_of Interp cycle hz = None
timer_of AnsiC cycle hz = None

-- the crystal over the rate and the clocks of a bit, rounded to the nearest whole
abbrev pub nearest_ratio : ℕ → ℕ → ℕ → ℕ
nearest_ratio hz baud clocks = (hz + clocks / 2 * baud) / (clocks * baud)

-- the register holds the ratio less one
abbrev pub divisor_within : ℕ → Bool → ℕ → Option BaudSetting
divisor_within most fast ratio =
    if nat_le 1 ratio && nat_le ratio most then Some (record { divisor = ratio - 1; fast = fast }) else None

-- PIC16F87X data sheet, "USART Baud Rate Generator": 16 clocks a bit where BRGH is set, else 64
abbrev pub pic_baud : ℕ → ℕ → Option BaudSetting
pic_baud hz baud =
    option_or (divisor_within 256 true (nearest_ratio hz baud 16)) (divisor_within 256 false (nearest_ratio hz baud 64))

-- ATmega16 data sheet, "Internal Clock Generation": UBRR has 12 bits
abbrev pub avr_baud : ℕ → ℕ → Option BaudSetting
avr_baud hz baud = divisor_within 4096 false (nearest_ratio hz baud 16)

abbrev pub baud_of : Target → ℕ → ℕ → Option BaudSetting
baud_of F628 hz baud = if baud == 0 then None else pic_baud hz baud
baud_of F877 hz baud = if baud == 0 then None else pic_baud hz baud
baud_of Mega16 hz baud = if baud == 0 then None else avr_baud hz baud
baud_of Interp hz baud = None
baud_of AnsiC hz baud = None

-- Timer 2 gives the period of the modulator. PIC16F87X data sheet, register T2CON: prescaler in bits
-- 1:0, on by bit 2
abbrev pub pic_pwm : List Prescaler
pic_pwm = by 1 0x04 ∷ by 4 0x05 ∷ by 16 0x06 ∷ []

-- ATmega16 data sheet, register TCCR2: fast mode, not inverted, by bits 6, 5 and 3, prescaler in
-- bits 2:0
abbrev pub avr_pwm : List Prescaler
avr_pwm =
    by 1 0x69 ∷ by 8 0x6a ∷ by 32 0x6b ∷ by 64 0x6c ∷ by 128 0x6d ∷ by 256 0x6e ∷ by 1024 0x6f ∷ []

-- the whole ticks of a PIC's period
abbrev pub period : ℕ → ℕ → ℕ → ℕ
period hz freq ratio = hz / (4 * ratio * freq)

abbrev pub lasting : ℕ → ℕ → Option PwmSetting
lasting control top = if nat_lt top 2 then None else Some (record { control = control; top = top })

-- the first prescaler for which the period is at most 255 ticks
abbrev pub pic_pwm_among : List Prescaler → ℕ → ℕ → Option PwmSetting
pic_pwm_among prescalers hz freq =
    option_and_then (λ p. lasting p.control (period hz freq p.ratio))
    (find (λ p. nat_le (period hz freq p.ratio) 255) prescalers)

-- the first prescaler for which a period of 256 ticks is no shorter than asked
abbrev pub avr_pwm_among : List Prescaler → ℕ → ℕ → Option PwmSetting
avr_pwm_among prescalers hz freq =
    option_map (λ p. record { control = p.control; top = 255 }) (find (λ p. nat_le hz (256 * p.ratio * freq)) prescalers)

abbrev pub pwm_of : Target → ℕ → ℕ → Option PwmSetting
pwm_of F628 hz freq = None
pwm_of F877 hz freq = if freq == 0 then None else pic_pwm_among pic_pwm hz freq
pwm_of Mega16 hz freq = if freq == 0 then None else avr_pwm_among avr_pwm hz freq
pwm_of Interp hz freq = None
pwm_of AnsiC hz freq = None
