-- What operations do to the devices.
use Rattle.std.specs.Prelude.{ℕ, ◌+◌, ◌*◌, Bool, true, false, ◌||◌, [], ◌∷◌, ◌++◌, ℤ, pos, nat_eq, if◌then◌else◌, Option, None, Some}
use Rattle.std.specs.Int.{int_min, int_max}
use Rattle.ladder_meaning.specs.Device.{low_byte, high_byte, number_of}
use Rattle.ladder_meaning.specs.State.{Pending}
use Rattle.int_code.specs.Store.{Devices}

-- persistent variable a has its low byte at 2 * a and its high byte at 2 * a + 1
abbrev pub saved : Devices → ℕ → ℤ
saved d a = number_of (d.eeprom (2 * a)) (d.eeprom (2 * a + 1))

-- the EEPROM writes a byte, and is busy for the rest of the cycle
abbrev pub with_byte : Devices → ℕ → ℕ → Devices
with_byte d address byte = record d { eeprom = λ k. if nat_eq address k then byte else d.eeprom k; writing = true }

-- the low byte is written, and the high byte waits
abbrev pub saves : Devices → ℕ → ℤ → Devices
saves d a n = record (with_byte d (2 * a) (low_byte n)) { pending = Some (record { address = 2 * a + 1; byte = high_byte n }) }

abbrev pub waits : Option Pending → Bool
waits None = false
waits (Some p) = true

-- The EEPROM is busy where it writes, and else where a byte waits, which is then written.
abbrev pub is_busy : Devices → Bool
is_busy d = d.writing || waits d.pending

abbrev pub flushed : Devices → Option Pending → Devices
flushed d None = d
flushed d (Some p) = record (with_byte d p.address p.byte) { pending = None }

abbrev pub checked : Devices → Devices
checked d = if d.writing then d else flushed d d.pending

-- a number's low byte is sent, if the transmitter does not send
abbrev pub sends : Devices → ℤ → Devices
sends d n = if d.sending then d else record d { sending = true; sent = d.sent ++ low_byte n ∷ [] }

-- a duty is from 0 to 100 percent
abbrev pub with_duty : Devices → ℤ → Devices
with_duty d n = record d { duty = int_max (pos 0) (int_min (pos 100) n) }
