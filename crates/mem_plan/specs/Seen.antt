-- What a ladder sees of a chip's pins.
use Rattle.std.specs.Prelude.{◌≡◌, ◌≢◌, ℕ, Bool, true, false, List, length, map, slice_index_or, All, Contains, ℤ, pos, ◌≤ℤ◌, Option, Some, None}
use Rattle.chip_tables.specs.Bits.{bit_of}
use Rattle.chip_tables.specs.declared.outside.PinReading.{PinReading}
use Rattle.chip_tables.specs.declared.pins.PortBit.{PortBit}
use Rattle.ladder_meaning.specs.declared.reading.Reading.{Reading}
use Rattle.ladder_rules.specs.Assigned.{name_bit, name_channel}
use Rattle.ladder_tree.specs.declared.names.Names.{Names}
use Rattle.ladder_tree.specs.declared.project.Project.{Project}
use Rattle.ladder_tree.specs.declared.limits.TheConstants.{ANALOG_NUMBER}

-- whether a port bit is high, where each port has a byte
abbrev pub is_high : List ℕ → PortBit → Bool
is_high levels b = bit_of (slice_index_or levels b.port 0) b.bit

abbrev pub level_at : PinReading → Option PortBit → Bool
level_at r None = false
level_at r (Some b) = is_high r.levels b

abbrev pub number_at : PinReading → Option ℕ → ℤ
number_at r None = pos 0
number_at r (Some channel) = pos (slice_index_or r.adc channel 0)

-- each input has the level, and each analog name the number, that is shown at its own pin
abbrev pub pins_seen : Project → Names → PinReading → Reading
pins_seen p n r = record {
  inputs = map (λ name. level_at r (name_bit p name)) n.inputs;
  analog = map (λ name. number_at r (name_channel p name)) n.analog;
  rx = r.rx;
  tx_busy = r.tx_busy;
  ee_busy = r.ee_busy;
}

-- a number that the analog-to-digital converter gives
pub record IsConverted (n : ℤ) : Type 0 where
  pub least : pos 0 ≤ℤ n
  pub most : n ≤ℤ pos ANALOG_NUMBER

-- a level for each input, and a number of the converter for each analog name
pub record IsForChip (n : Names) (r : Reading) : Type 0 where
  pub inputs : length r.inputs ≡ length n.inputs
  pub analog : length r.analog ≡ length n.analog
  pub converted : All IsConverted r.analog

-- a level that is high stands at the port bit of an input, and a number that is not 0 at the channel of an analog name
pub record IsZeroElsewhere (p : Project) (n : Names) (r : PinReading) : Type 0 where
  pub levels : (b : PortBit) → is_high r.levels b ≡ true → Contains (map (name_bit p) n.inputs) (Some b)
  pub numbers : (channel : ℕ) → slice_index_or r.adc channel 0 ≢ 0 → Contains (map (name_channel p) n.analog) (Some channel)
