-- Timers, counters, arithmetic and comparisons on signed 16-bit numbers.
use Rattle.std.specs.Prelude.{◌≡◌, ℕ, ◌/◌, Bool, true, false, not, ◌&&◌, List, ℤ, pos, negsuc, ◌+ℤ◌, ◌-ℤ◌, ◌*ℤ◌, int_lt, int_le, int_div, if◌then◌else◌, slice_get, Option, None}
use Rattle.std.specs.Ordering.{int_eq}
use Rattle.ladder_tree.specs.declared.element.CompareHow.{CompareHow}
use Rattle.ladder_tree.specs.declared.element.CompareHow.TheVariants.{Equ, Neq, Grt, Geq, Les, Leq}
use Rattle.ladder_tree.specs.declared.element.CounterHow.{CounterHow}
use Rattle.ladder_tree.specs.declared.element.CounterHow.TheVariants.{Ctu, Ctd, Ctc}
use Rattle.ladder_tree.specs.declared.element.MathHow.{MathHow}
use Rattle.ladder_tree.specs.declared.element.MathHow.TheVariants.{Add, Sub, Mul, Div}
use Rattle.ladder_tree.specs.declared.element.TimerHow.{TimerHow}
use Rattle.ladder_tree.specs.declared.element.TimerHow.TheVariants.{Ton, Tof, Rto}
use Rattle.ld_base.specs.Wrap.{wrap}

-- a number has 16 bits with a sign: it is from -32768 to 32767
abbrev pub is_number : ℤ → Bool
is_number n = int_le (negsuc 32767) n && int_le n (pos 32767)

abbrev pub IsNumber : ℤ → Type 0
IsNumber n = is_number n ≡ true

-- the number behind n, which is -32768 behind 32767
abbrev pub next : ℤ → ℤ
next n = wrap (n +ℤ pos 1)

-- how many cycles a delay has, both in microseconds
abbrev pub period : ℕ → ℕ → ℕ
period cycle delay = delay / cycle

-- a timer's number and output
pub record Timed : Type 0 where
  pub number : ℤ
  pub output : Bool

-- a timer of p cycles that stands at t, on an input
abbrev pub timed : TimerHow → ℤ → ℤ → Bool → Timed
timed Ton p t true = if int_lt t p then record { number = next t; output = false } else record { number = t; output = true }
timed Ton p t false = record { number = pos 0; output = false }
timed Tof p t true = record { number = pos 0; output = true }
timed Tof p t false = if int_lt t p then record { number = next t; output = true } else record { number = t; output = false }
timed Rto p t true = if int_lt t p then record { number = next t; output = false } else record { number = t; output = true }
timed Rto p t false = record { number = t; output = not (int_lt t p) }

-- a counter's number behind a count, by its limit
abbrev pub counted : CounterHow → ℤ → ℤ → ℤ
counted Ctu max n = next n
counted Ctd max n = wrap (n -ℤ pos 1)
counted Ctc max n = if int_le max n then pos 0 else next n

-- a counter's output: CTC passes its input
abbrev pub counter_output : CounterHow → ℤ → ℤ → Bool → Bool
counter_output Ctu max n power = int_le max n
counter_output Ctd max n power = int_le max n
counter_output Ctc max n power = power

-- a quotient is truncated toward zero, and by zero it is 0
abbrev pub computed : MathHow → ℤ → ℤ → ℤ
computed Add a b = wrap (a +ℤ b)
computed Sub a b = wrap (a -ℤ b)
computed Mul a b = wrap (a *ℤ b)
computed Div a b = if int_eq b (pos 0) then pos 0 else wrap (int_div a b)

abbrev pub compares : CompareHow → ℤ → ℤ → Bool
compares Equ a b = int_eq a b
compares Neq a b = not (int_eq a b)
compares Grt a b = int_lt b a
compares Geq a b = int_le b a
compares Les a b = int_lt a b
compares Leq a b = int_le a b

-- the value at an index, if there is one
abbrev pub value_at : List ℤ → ℤ → Option ℤ
value_at values (pos k) = slice_get values k
value_at values (negsuc k) = None
