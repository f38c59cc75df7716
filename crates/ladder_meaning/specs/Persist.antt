-- PERSIST: a variable that is loaded from the EEPROM once, and written there when it differs.
use Rattle.std.specs.Prelude.{ℕ, ◌+◌, ◌*◌, Bool, true, false, not, ◌&&◌, List, ℤ, nat_eq, if◌then◌else◌, Option, None, Some}
use Rattle.std.specs.Ordering.{int_eq}
use Rattle.std.specs.Str.{bytes_eq}
use Rattle.ladder_meaning.specs.Device.{low_byte, high_byte, number_of}
use Rattle.ladder_meaning.specs.State.{State, Pending, Now, with_kept, with_number, place_of}

-- where a persistent variable has its low byte: its high byte is the next one
abbrev pub address_of : List (List ℕ) → List ℕ → ℕ
address_of persistent name = 2 * place_of persistent name

abbrev pub saved_number : State → ℕ → ℤ
saved_number s address = number_of (s.eeprom address) (s.eeprom (address + 1))

-- the EEPROM writes a byte, and is busy for the rest of the cycle
abbrev pub with_byte : Now → ℕ → ℕ → Now
with_byte s address byte = record s { kept = record s.kept { eeprom = λ a. if nat_eq address a then byte else s.kept.eeprom a }; writing = true }

abbrev pub with_pending : Now → Option Pending → Now
with_pending s pending = with_kept s (record s.kept { pending = pending })

abbrev pub with_loaded : Now → List ℕ → Now
with_loaded s name = with_kept s (record s.kept { loaded = λ n. if bytes_eq name n then true else s.kept.loaded n })

-- the state after a check, and whether the EEPROM is free
pub record Checked : Type 0 where
  pub now : Now
  pub is_free : Bool

abbrev pub check_pending : Now → Option Pending → Checked
check_pending s None = record { now = s; is_free = true }
check_pending s (Some p) = record { now = with_pending (with_byte s p.address p.byte) None; is_free = false }

-- The EEPROM is not free while it writes. A byte that waits is written first.
abbrev pub check : Now → Checked
check s = if s.writing then record { now = s; is_free = false } else check_pending s s.kept.pending

abbrev pub load_checked : ℕ → List ℕ → Checked → Now
load_checked address name c = if c.is_free then with_loaded (with_number c.now name (saved_number c.now.kept address)) name else c.now

-- the first step: the variable gets its number, if it has not got it
abbrev pub load : ℕ → List ℕ → Now → Now
load address name s = if s.kept.loaded name then s else load_checked address name (check s)

abbrev pub save_checked : ℕ → List ℕ → Checked → Now
save_checked address name c =
    let n = c.now.kept.number name in
    if c.is_free && not (int_eq (saved_number c.now.kept address) n)
    then with_pending (with_byte c.now address (low_byte n)) (Some (record { address = address + 1; byte = high_byte n }))
    else c.now

-- the second step: a number that differs from the saved one is written, its low byte now and its high byte later
abbrev pub save : ℕ → List ℕ → Now → Now
save address name s = save_checked address name (check s)

abbrev pub persist : List (List ℕ) → List ℕ → Now → Now
persist persistent name s = save (address_of persistent name) name (load (address_of persistent name) name s)
