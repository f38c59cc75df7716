-- What the byte machine holds, and how its bits, bytes and words are read and written.
use Rattle.std.specs.Prelude.{ℕ, ◌+◌, ◌-◌, ◌*◌, ◌/◌, ◌%◌, ◌^◌, Bool, true, false, Option, Some, None, slice_index, slice_set, bit_and, bit_or}
use Rattle.chip_tables.specs.Bits.{bit_of}
use Rattle.byte_code.specs.declared.prim.BitSource.{BitSource}
use Rattle.byte_code.specs.declared.prim.BitSource.TheVariants as bit
use Rattle.byte_code.specs.declared.prim.BitDest.{BitDest}
use Rattle.byte_code.specs.declared.prim.BitDest.TheVariants as dest
use Rattle.byte_code.specs.declared.prim.ByteSource.{ByteSource}
use Rattle.byte_code.specs.declared.prim.ByteSource.TheVariants as byte
use Rattle.byte_code.specs.declared.prim.WordSource.{WordSource}
use Rattle.byte_code.specs.declared.prim.WordSource.TheVariants as word
use Rattle.byte_code.specs.declared.store.Store.{Store}

abbrev pub cell : Store → ℕ → ℕ
cell d a = slice_index d.cells a

abbrev pub with_cell : Store → ℕ → ℕ → Store
with_cell d a x = record d { cells = slice_set d.cells a x }

-- two cells, the low byte first
abbrev pub word_at : Store → ℕ → ℕ
word_at d a = cell d a + cell d (a + 1) * 256

abbrev pub with_word : Store → ℕ → ℕ → Store
with_word d a n = with_cell (with_cell d a (n % 256)) (a + 1) (n / 256 % 256)

abbrev pub byte_from : Store → ByteSource → ℕ
byte_from d (byte.Cell a) = cell d a
byte_from d (byte.Number n) = n

abbrev pub word_from : Store → WordSource → ℕ
word_from d (word.Cells a) = word_at d a
word_from d (word.Number low high) = low + high * 256

-- a byte with one bit that is so
abbrev pub with_bit : ℕ → ℕ → Bool → ℕ
with_bit n b true = bit_or n (2 ^ b)
with_bit n b false = bit_and n (255 - 2 ^ b)

-- of the number of a bit its lowest three bits count
abbrev pub in_byte : ℕ → ℕ
in_byte b = b % 8

abbrev pub bit_from : Store → BitSource → Bool
bit_from d (bit.Cell a b) = bit_of (cell d a) (in_byte b)
bit_from d (bit.Level port b) = bit_of (slice_index d.reading.levels port) (in_byte b)
bit_from d (bit.Latch port b) = bit_of (slice_index d.latches port) (in_byte b)

abbrev pub with_bit_at : Store → BitDest → Bool → Store
with_bit_at d (dest.Cell a b) x = with_cell d a (with_bit (cell d a) (in_byte b) x)
with_bit_at d (dest.Latch port b) x = record d { latches = slice_set d.latches port (with_bit (slice_index d.latches port) (in_byte b) x) }

-- a word as a number with a sign, moved up so that it is none below 0
abbrev pub lifted : ℕ → ℕ
lifted n = (n + 32768) % 65536

-- what waits for the EEPROM: its address, whose high byte only a larger EEPROM has
abbrev pub high_from : Store → Option ℕ → ℕ
high_from d None = 0
high_from d (Some a) = cell d a

abbrev pub with_high : Store → Option ℕ → ℕ → Store
with_high d None x = d
with_high d (Some a) x = with_cell d a x
