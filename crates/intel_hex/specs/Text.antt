-- The text that is written for an image.
use Rattle.std.specs.Prelude.{ℕ, zero, suc, ◌+◌, ◌/◌, ◌%◌, Bool, true, false, List, [], ◌∷◌, ◌++◌, length, take, drop, Option, Some, None}
use Rattle.intel_hex.specs.declared.image.Image.{Image}
use Rattle.intel_hex.specs.Areas.{is_pic}
use Rattle.intel_hex.specs.Record.{line_of, data_type, end_type, upper_type}

-- each word as two bytes, the low one first
abbrev pub word_bytes : List ℕ → List ℕ
word_bytes [] = []
word_bytes (w ∷ ws) = w % 256 ∷ w / 256 ∷ word_bytes ws

-- so many records from the address on, of eight words each; the last may have fewer
abbrev pub data_lines : ℕ → ℕ → List ℕ → List ℕ
data_lines zero address words = []
data_lines (suc more) address words =
    line_of data_type address (word_bytes (take 8 words)) ++ data_lines more (address + 16) (drop 8 words)

-- how many records so many words take
abbrev pub record_count : ℕ → ℕ
record_count words = (words + 7) / 8

-- a PIC's file sets the upper half of the addresses, although it is 0
abbrev pub upper_line : Bool → List ℕ
upper_line true = line_of upper_type 0 (0 ∷ 0 ∷ [])
upper_line false = []

-- a PIC's configuration word is its word 2007h
abbrev pub config_line : Bool → Option ℕ → List ℕ
config_line true (Some word) = line_of data_type 0x400e (word_bytes (word ∷ []))
config_line true None = []
config_line false word = []

abbrev pub hex_text : Image → List ℕ
hex_text image =
    upper_line (is_pic image.target)
    ++ (data_lines (record_count (length image.words)) 0 image.words
    ++ (config_line (is_pic image.target) image.config
    ++ line_of end_type 0 []))
