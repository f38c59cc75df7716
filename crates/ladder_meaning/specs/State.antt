-- What a ladder sees in a cycle, and its state.
use Rattle.std.specs.Prelude.{ℕ, ◌+◌, Bool, false, List, [], ◌∷◌, ℤ, pos, nat_eq, if◌then◌else◌, slice_index_or, Option}
use Rattle.std.specs.Str.{bytes_eq}
use Rattle.ladder_tree.specs.declared.names.Names.{Names}
use Rattle.ladder_meaning.specs.declared.reading.Reading.{Reading}
use Rattle.ladder_tree.specs.Names.{is_input}

-- What a ladder sees: a level for each input's name, a number for each analog name, the byte that was received, if there
-- is one, and whether the transmitter still sends and the EEPROM still writes.
pub record Seen : Type 0 where
  pub level : List ℕ → Bool
  pub analog : List ℕ → ℤ
  pub received : Option ℕ
  pub sending : Bool
  pub writing : Bool

-- a byte that waits to be written to the EEPROM, and its address
pub record Pending : Type 0 where
  pub address : ℕ
  pub byte : ℕ

-- The state between cycles. Bits and variables have names, memories have numbers, EEPROM bytes have addresses. A
-- persistent variable is loaded once it got its number from the EEPROM. The duty is that of the PWM, in percent.
pub record State : Type 0 where
  pub bit : List ℕ → Bool
  pub number : List ℕ → ℤ
  pub memory : ℕ → Bool
  pub loaded : List ℕ → Bool
  pub eeprom : ℕ → ℕ
  pub pending : Option Pending
  pub duty : ℤ

-- The state within a cycle: what is kept, the master relay bit, whether the transmitter sends and the EEPROM writes, the
-- received byte as long as it is not taken, and the bytes that were sent.
pub record Now : Type 0 where
  pub kept : State
  pub master : Bool
  pub sending : Bool
  pub writing : Bool
  pub received : Option ℕ
  pub sent : List ℕ

abbrev pub with_kept : Now → State → Now
with_kept s kept = record s { kept = kept }

abbrev pub with_bit : Now → List ℕ → Bool → Now
with_bit s name v = with_kept s (record s.kept { bit = λ n. if bytes_eq name n then v else s.kept.bit n })

abbrev pub with_number : Now → List ℕ → ℤ → Now
with_number s name v = with_kept s (record s.kept { number = λ n. if bytes_eq name n then v else s.kept.number n })

abbrev pub with_memory : Now → ℕ → Bool → Now
with_memory s k v = with_kept s (record s.kept { memory = λ j. if nat_eq k j then v else s.kept.memory j })

abbrev pub with_master : Now → Bool → Now
with_master s v = record s { master = v }

-- the bit of an input is its level
abbrev pub value_of : Seen → Now → List ℕ → Bool
value_of r s name = if is_input name then r.level name else s.kept.bit name

-- the place of a name in a list of names, or the list's length
abbrev pub place_of : List (List ℕ) → List ℕ → ℕ
place_of [] name = 0
place_of (x ∷ xs) name = if bytes_eq x name then 0 else place_of xs name + 1

-- what a ladder sees of a reading, whose levels and numbers stand in the order of the names
abbrev pub seen : Names → Reading → Seen
seen n r = record {
  level = λ name. slice_index_or r.inputs (place_of n.inputs name) false;
  analog = λ name. slice_index_or r.analog (place_of n.analog name) (pos 0);
  received = r.rx;
  sending = r.tx_busy;
  writing = r.ee_busy;
}
