-- A record of an Intel HEX file: `:`, then pairs of hexadecimal digits for the number of data bytes, the address (high byte first),
-- the type, the data, and a byte that makes the sum of all these bytes 0 modulo 256.
-- Intel, "Hexadecimal Object File Format Specification", revision A, 1988.
use Rattle.std.specs.Prelude.{ℕ, ◌-◌, ◌/◌, ◌%◌, List, [], ◌∷◌, ◌++◌, length, sum}
use Rattle.hex.specs.Hex.{encode_upper}

abbrev pub data_type : ℕ
data_type = 0

abbrev pub end_type : ℕ
end_type = 1

-- the data are the upper sixteen bits of the addresses behind it, high byte first
abbrev pub upper_type : ℕ
upper_type = 4

-- the byte that makes the sum 0 modulo 256
abbrev pub closing : List ℕ → ℕ
closing bytes = (256 - sum bytes % 256) % 256

-- the bytes in front of the closing one
abbrev pub bytes_of : ℕ → ℕ → List ℕ → List ℕ
bytes_of kind address bytes = length bytes ∷ address / 256 ∷ address % 256 ∷ kind ∷ bytes

-- the line of a record, with its line feed
abbrev pub line_of : ℕ → ℕ → List ℕ → List ℕ
line_of kind address bytes =
    let front = bytes_of kind address bytes in
    58 ∷ (encode_upper (front ++ closing front ∷ []) ++ 10 ∷ [])
