-- What lines give, and the fault of a line behind others. The lines that stand before one are listed with the last of them first.
use Rattle.std.specs.Prelude.{ℕ, ◌+◌, ◌-◌, ◌*◌, Bool, true, false, not, nat_le, if◌then◌else◌, List, [], ◌∷◌, length, slice_get, Option, Some, None, is_some}
use Rattle.std.specs.List.{range_with_len, list_any}
use Rattle.chip_tables.specs.declared.target.Target.{Target}
use Rattle.intel_hex.specs.declared.fault.HexCause.{HexCause}
use Rattle.intel_hex.specs.declared.fault.HexCause.TheVariants.{BadRecord, Outside, Overlap}
use Rattle.intel_hex.specs.declared.said.Said.{Said}
use Rattle.intel_hex.specs.declared.said.Said.TheVariants.{Nothing, Data, End, Upper, Broken}
use Rattle.intel_hex.specs.Areas.{is_in_area}

-- the upper half of the addresses behind the lines; it is 0 at first
abbrev pub upper : List Said → ℕ
upper [] = 0
upper (Upper bits ∷ before) = bits
upper (other ∷ before) = upper before

-- one of the lines is the end record
abbrev pub is_ended : List Said → Bool
is_ended [] = false
is_ended (End ∷ before) = true
is_ended (other ∷ before) = is_ended before

-- the address of a record's first byte, from its lower half
abbrev pub start : List Said → ℕ → ℕ
start before address = 65536 * upper before + address

-- of bytes from an address on, the one at an address
abbrev pub byte_of : ℕ → List ℕ → ℕ → Option ℕ
byte_of first bytes address = if nat_le first address then slice_get bytes (address - first) else None

abbrev pub or_else : Option ℕ → Option ℕ → Option ℕ
or_else (Some byte) other = Some byte
or_else None other = other

-- the byte that the lines give an address
abbrev pub given : List Said → ℕ → Option ℕ
given [] address = None
given (Data low bytes ∷ before) address = or_else (byte_of (start before low) bytes address) (given before address)
given (other ∷ before) address = given before address

-- where bytes from an address on stand
abbrev pub addresses : ℕ → List ℕ → List ℕ
addresses first bytes = range_with_len first (length bytes)

-- the fault of data from an address on, where these bytes were given before
abbrev pub data_fault : Target → (ℕ → Option ℕ) → ℕ → List ℕ → Option HexCause
data_fault t before first bytes =
    if list_any (λ a. not (is_in_area t a)) (addresses first bytes) then Some Outside
    else if list_any (λ a. is_some (before a)) (addresses first bytes) then Some Overlap
    else None

-- only empty lines stand behind the end record
abbrev pub end_fault : Said → Option HexCause
end_fault Nothing = None
end_fault other = Some BadRecord

-- the fault of a line behind lines that have no end record
abbrev pub open_fault : Target → List Said → Said → Option HexCause
open_fault t before Nothing = None
open_fault t before (Data low bytes) = data_fault t (given before) (start before low) bytes
open_fault t before End = None
open_fault t before (Upper bits) = None
open_fault t before (Broken cause) = Some cause

-- the fault of a line behind others
abbrev pub fault_of : Target → List Said → Said → Option HexCause
fault_of t before said = if is_ended before then end_fault said else open_fault t before said
