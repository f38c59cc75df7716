-- What a line of an Intel HEX file says by itself.
use Rattle.std.specs.Prelude.{ℕ, ◌+◌, ◌*◌, ◌%◌, ◌==◌, Bool, if◌then◌else◌, List, [], ◌∷◌, length, take, sum, Option, Some, None, Result, Ok, Err}
use Rattle.hex.specs.Hex.{decode_of}
use Rattle.texts.specs.Lines.{without_return}
use Rattle.hex.specs.declared.error.FromHexError.{FromHexError}
use Rattle.intel_hex.specs.declared.fault.HexCause.TheVariants.{BadRecord, BadSum}
use Rattle.intel_hex.specs.declared.said.Said.{Said}
use Rattle.intel_hex.specs.declared.said.Said.TheVariants.{Nothing, Data, End, Upper, Broken}
use Rattle.intel_hex.specs.Record.{data_type, end_type, upper_type}

-- two bytes, the high one first
abbrev pub half : ℕ → ℕ → ℕ
half high low = high * 256 + low

-- the end record has no data
abbrev pub end_said : List ℕ → Option Said
end_said [] = Some End
end_said (b ∷ bytes) = None

-- the data of the record that sets the upper half of the addresses are two bytes
abbrev pub upper_said : List ℕ → Option Said
upper_said (high ∷ low ∷ []) = Some (Upper (half high low))
upper_said other = None

-- what a record of a type says, if it has the form of the type
abbrev pub kind_said : ℕ → ℕ → List ℕ → Option Said
kind_said kind address bytes =
    if kind == data_type then Some (Data address bytes)
    else if kind == end_type then end_said bytes
    else if kind == upper_type then upper_said bytes
    else None

-- what the bytes of a record say, but for their sum
abbrev pub unsummed : List ℕ → Option Said
unsummed (count ∷ high ∷ low ∷ kind ∷ rest) =
    if length rest == count + 1 then kind_said kind (half high low) (take count rest) else None
unsummed other = None

-- the bytes of a record add up to 0 modulo 256
abbrev pub summed : Option Said → Bool → Said
summed None sums = Broken BadRecord
summed (Some said) sums = if sums then said else Broken BadSum

-- what the bytes of a record say
abbrev pub said_by : List ℕ → Said
said_by record_bytes = summed (unsummed record_bytes) (sum record_bytes % 256 == 0)

abbrev pub decoded : Result (List ℕ) FromHexError → Said
decoded (Ok bytes) = said_by bytes
decoded (Err e) = Broken BadRecord

-- a record is a colon (58) and pairs of digits
abbrev pub marked : List ℕ → Said
marked [] = Nothing
marked (mark ∷ digits) = if mark == 58 then decoded (decode_of digits) else Broken BadRecord

-- a carriage return at the end of a line does not count
abbrev pub said_of : List ℕ → Said
said_of line = marked (without_return line)
