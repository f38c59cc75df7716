-- The image that given bytes make.
use Rattle.std.specs.Prelude.{ℕ, zero, suc, ◌+◌, ◌*◌, ◌/◌, ◌%◌, ◌&&◌, ◌||◌, Bool, if◌then◌else◌, map, Option, Some, None, is_some, unwrap_or}
use Rattle.std.specs.List.{range_with_len}
use Rattle.chip_tables.specs.declared.target.Target.{Target}
use Rattle.intel_hex.specs.declared.image.Image.{Image}
use Rattle.intel_hex.specs.Areas.{is_pic, flash_of}

-- a word that no record gave: a PIC's words have 14 bits, an AVR's 16
abbrev pub erased : Bool → ℕ
erased pic = if pic then 0x3fff else 0xffff

-- the two bits above a PIC's word are dropped
abbrev pub word_of : Bool → ℕ → ℕ → ℕ
word_of pic low high = if pic then (256 * high + low) % 0x4000 else 256 * high + low

-- The low byte of a word is at twice its place, and the high byte behind it. A byte that was not given is that of the erased word.
abbrev pub word_at : Bool → (ℕ → Option ℕ) → ℕ → ℕ
word_at pic byte place = word_of pic (unwrap_or (byte (2 * place)) (erased pic % 256)) (unwrap_or (byte (2 * place + 1)) (erased pic / 256))

-- how many words there are up to the last that has a byte below the limit
unfoldable pub word_count : (ℕ → Option ℕ) → ℕ → ℕ
word_count byte zero = 0
word_count byte (suc address) = if is_some (byte address) then address / 2 + 1 else word_count byte address

-- a PIC's configuration word is its word 2007h
abbrev pub config_place : ℕ
config_place = 0x2007

abbrev pub config_of : Bool → (ℕ → Option ℕ) → Option ℕ
config_of pic byte =
    if pic && (is_some (byte (2 * config_place)) || is_some (byte (2 * config_place + 1))) then Some (word_at pic byte config_place)
    else None

abbrev pub image_of : Target → (ℕ → Option ℕ) → Image
image_of t byte = record {
  target = t;
  words = map (word_at (is_pic t) byte) (range_with_len 0 (word_count byte (2 * flash_of t)));
  config = config_of (is_pic t) byte;
}
