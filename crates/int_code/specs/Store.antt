-- What operations read and write: bits, outputs and variables by their numbers, and the devices.
use Rattle.std.specs.Prelude.{ℕ, Bool, false, List, [], ℤ, pos, nat_eq, if◌then◌else◌, slice_index_or, Option, None}
use Rattle.ladder_meaning.specs.State.{Pending}
use Rattle.ladder_meaning.specs.declared.reading.Reading.{Reading}
use Rattle.int_code.specs.declared.op.BitDest.{BitDest}
use Rattle.int_code.specs.declared.op.BitDest.TheVariants as dest
use Rattle.int_code.specs.declared.op.BitSource.{BitSource}
use Rattle.int_code.specs.declared.op.BitSource.TheVariants as source
use Rattle.int_code.specs.declared.op.NumSource.{NumSource}
use Rattle.int_code.specs.declared.op.NumSource.TheVariants.{V, N}

-- The bytes of the EEPROM, the byte that waits to be written there and the duty of the PWM in percent are kept from cycle
-- to cycle. Within a cycle there are whether the transmitter sends and the EEPROM writes, the received byte as long as it is
-- not taken, and the bytes that were sent.
pub record Devices : Type 0 where
  pub eeprom : ℕ → ℕ
  pub pending : Option Pending
  pub duty : ℤ
  pub sending : Bool
  pub writing : Bool
  pub received : Option ℕ
  pub sent : List ℕ

pub record Store : Type 0 where
  pub bit : ℕ → Bool
  pub output : ℕ → Bool
  pub number : ℕ → ℤ
  pub devices : Devices

-- at the start each variable has its start value, the EEPROM holds any bytes, and all else is false or 0
abbrev pub start : List ℤ → (ℕ → ℕ) → Store
start starts eeprom = record {
  bit = λ k. false;
  output = λ k. false;
  number = λ k. slice_index_or starts k (pos 0);
  devices = record { eeprom = eeprom; pending = None; duty = pos 0; sending = false; writing = false; received = None; sent = [] };
}

-- a cycle begins with what its reading says of the devices, and nothing sent
abbrev pub opened : Reading → Store → Store
opened r t = record t { devices = record t.devices { sending = r.tx_busy; writing = r.ee_busy; received = r.rx; sent = [] } }

-- an input's bit is its level in the reading
abbrev pub value_of : Reading → Store → BitSource → Bool
value_of r t (source.B k) = t.bit k
value_of r t (source.X k) = slice_index_or r.inputs k false
value_of r t (source.Y k) = t.output k

abbrev pub number_of : Store → NumSource → ℤ
number_of t (V k) = t.number k
number_of t (N n) = n

abbrev pub with : Store → BitDest → Bool → Store
with t (dest.B k) v = record t { bit = λ j. if nat_eq k j then v else t.bit j }
with t (dest.Y k) v = record t { output = λ j. if nat_eq k j then v else t.output j }

abbrev pub with_number : Store → ℕ → ℤ → Store
with_number t k n = record t { number = λ j. if nat_eq k j then n else t.number j }

abbrev pub with_devices : Store → Devices → Store
with_devices t d = record t { devices = d }
