-- The devices: the PWM, the serial line, and the bytes of numbers.
use Rattle.std.specs.Prelude.{ℕ, ◌+◌, ◌*◌, ◌/◌, ◌%◌, Bool, true, false, List, [], ◌∷◌, ◌++◌, ℤ, pos, unsigned_abs, if◌then◌else◌, Option, None, Some}
use Rattle.std.specs.Int.{int_min, int_max, int_rem_euclid}
use Rattle.ladder_meaning.specs.State.{Now, with_kept, with_number}
use Rattle.ld_base.specs.Wrap.{wrap}

-- the state after an element, and its output
pub record Went : Type 0 where
  pub now : Now
  pub output : Bool

-- the number modulo 65536
abbrev pub word_of : ℤ → ℕ
word_of n = unsigned_abs (int_rem_euclid n (pos 65536))

abbrev pub low_byte : ℤ → ℕ
low_byte n = word_of n % 256

abbrev pub high_byte : ℤ → ℕ
high_byte n = word_of n / 256

-- the number that two bytes hold
abbrev pub number_of : ℕ → ℕ → ℤ
number_of low high = wrap (pos (low + 256 * high))

-- a duty is from 0 to 100 percent
abbrev pub with_duty : Now → ℤ → Now
with_duty s n = with_kept s (record s.kept { duty = int_max (pos 0) (int_min (pos 100) n) })

-- takes the received byte, if there is one that was not taken
abbrev pub receive : List ℕ → Now → Option ℕ → Went
receive name s None = record { now = s; output = false }
receive name s (Some byte) = record { now = with_number (record s { received = None }) name (pos byte); output = true }

-- sends a number's low byte, if the transmitter does not send
abbrev pub send : List ℕ → Now → Now
send name s = if s.sending then s else record s { sending = true; sent = s.sent ++ low_byte (s.kept.number name) ∷ [] }
