-- Bytes that stand for what operations write.
use Rattle.std.specs.Prelude.{◌≡◌, ℕ, ◌+◌, ◌<◌, length, map, ℤ, [], slice_index}
use Rattle.chip_tables.specs.Bits.{bit_of}
use Rattle.chip_tables.specs.declared.outside.PinReading.{PinReading}
use Rattle.chip_tables.specs.declared.scratch.TheConstants.{WIRES}
use Rattle.ladder_meaning.specs.Device.{word_of}
use Rattle.ladder_meaning.specs.Numbers.{IsNumber}
use Rattle.ladder_meaning.specs.declared.reading.Reading.{Reading}
use Rattle.mem_plan.specs.Seen.{is_high}
use Rattle.int_code.specs.Store as int
use Rattle.byte_code.specs.Store.{cell, word_at}
use Rattle.byte_code.specs.declared.store.Store.{Store}
use Rattle.byte_lower.specs.Layout.{word_cell, bit_cell, pin_at}
use Rattle.byte_lower.specs.declared.layout.Layout.{Layout}

-- a number of 16 bits with a sign, and the word that is this number modulo 65536
pub record IsWordOf (n : ℤ) (w : ℕ) : Type 0 where
  pub number : IsNumber n
  pub word : w ≡ word_of n

-- Each bit of the program, kept or a wire, is at its place; each output is the latch of its pin; each variable's number is its word, low byte first; the EEPROM
-- has the same bytes.
pub record Stands (o : Layout) (d : Store) (t : int.Store) : Type 0 where
  pub bits : (k : ℕ) → k < o.plan.sizes.kept_bits + WIRES → bit_of (cell d (bit_cell o k).address) (bit_cell o k).bit ≡ t.bit k
  pub outputs : (k : ℕ) → k < length o.outputs → bit_of (slice_index d.latches (pin_at o.outputs k).port) (pin_at o.outputs k).bit ≡ t.output k
  pub numbers : (v : ℕ) → v < o.plan.sizes.variables → IsWordOf (t.number v) (word_at d (word_cell o v))
  pub eeprom : slice_index d.eeprom ≡ t.devices.eeprom

-- what a ladder sees of a chip's pins: each input has the level at its pin
abbrev pub seen : Layout → PinReading → Reading
seen o r = record {
  inputs = map (is_high r.levels) o.inputs;
  analog = [];
  rx = r.rx;
  tx_busy = r.tx_busy;
  ee_busy = r.ee_busy;
}
