-- Where a program's bits, variables and pins are on its chip.
use Rattle.std.specs.Prelude.{◌≡◌, ℕ, ◌+◌, ◌-◌, ◌<◌, length, nat_lt, if◌then◌else◌, List, unwrap_or, slice_index_or}
use Rattle.chip_tables.specs.Scratch.{at_bit, pic_scratch, scratch_of, wire_of}
use Rattle.chip_tables.specs.declared.pins.PortBit.{PortBit}
use Rattle.chip_tables.specs.declared.scratch.CellBit.{CellBit}
use Rattle.chip_tables.specs.declared.scratch.Scratch.{Scratch}
use Rattle.chip_tables.specs.declared.scratch.TheConstants.{WIRES}
use Rattle.chip_tables.specs.declared.target.Target.{Target}
use Rattle.int_code.specs.WellFormed.{Sizes}
use Rattle.int_code.specs.declared.op.BitDest.TheVariants as opdest
use Rattle.int_code.specs.declared.op.BitDest as written
use Rattle.int_code.specs.declared.op.BitSource.TheVariants as opsource
use Rattle.int_code.specs.declared.op.BitSource as read
use Rattle.mem_plan.specs.Places.{low_byte, byte_of_bit, bit_in_byte}
use Rattle.byte_code.specs.declared.prim.BitDest.{BitDest}
use Rattle.byte_code.specs.declared.prim.BitDest.TheVariants as dest
use Rattle.byte_code.specs.declared.prim.BitSource.{BitSource}
use Rattle.byte_code.specs.declared.prim.BitSource.TheVariants as source
use Rattle.byte_lower.specs.declared.layout.Layout.{Layout}

-- the address of a variable's low byte; its high byte is in the cell behind it
abbrev pub word_cell : Layout → ℕ → ℕ
word_cell o v = unwrap_or (low_byte o.plan.target v) 0

-- a kept bit is where the plan has it
abbrev pub kept_cell : Layout → ℕ → CellBit
kept_cell o k = at_bit (unwrap_or (byte_of_bit o.plan.target o.plan.sizes.variables k) 0) (bit_in_byte k)

-- a wire is one of the compiler's own bits
abbrev pub wire_cell : Layout → ℕ → CellBit
wire_cell o w = unwrap_or (wire_of o.plan.target w) (at_bit 0 0)

-- the compiler's own cells; only a chip has some
abbrev pub own_cells : Target → Scratch
own_cells t = unwrap_or (scratch_of t) pic_scratch

-- the bits of a program: the kept ones, and the wires behind them
abbrev pub bit_cell : Layout → ℕ → CellBit
bit_cell o k = if nat_lt k o.plan.sizes.kept_bits then kept_cell o k else wire_cell o (k - o.plan.sizes.kept_bits)

abbrev pub pin_at : List PortBit → ℕ → PortBit
pin_at pins k = slice_index_or pins k (record { port = 0; bit = 0 })

-- a bit that is written: an output is the latch of its pin
abbrev pub dest_of : Layout → written.BitDest → BitDest
dest_of o (opdest.B k) = dest.Cell (bit_cell o k).address (bit_cell o k).bit
dest_of o (opdest.Y k) = dest.Latch (pin_at o.outputs k).port (pin_at o.outputs k).bit

-- a bit that is read: an input is the level at its pin
abbrev pub source_of : Layout → read.BitSource → BitSource
source_of o (opsource.B k) = source.Cell (bit_cell o k).address (bit_cell o k).bit
source_of o (opsource.X k) = source.Level (pin_at o.inputs k).port (pin_at o.inputs k).bit
source_of o (opsource.Y k) = source.Latch (pin_at o.outputs k).port (pin_at o.outputs k).bit

-- how many of each a layout has places for; it has none for analog inputs yet
abbrev pub room_of : Layout → Sizes
room_of o = record {
  bits = o.plan.sizes.kept_bits + WIRES;
  outputs = length o.outputs;
  inputs = length o.inputs;
  analogs = 0;
  variables = o.plan.sizes.variables;
  persistent = o.plan.sizes.persistent;
}

-- the pins are bits of the five ports, and no two outputs have one pin
pub record HasPins (o : Layout) : Type 0 where
  pub inputs : (k : ℕ) → k < length o.inputs → ((pin_at o.inputs k).port < 5) × ((pin_at o.inputs k).bit < 8)
  pub outputs : (k : ℕ) → k < length o.outputs → ((pin_at o.outputs k).port < 5) × ((pin_at o.outputs k).bit < 8)
  pub apart : (j k : ℕ) → j < length o.outputs → k < length o.outputs → pin_at o.outputs j ≡ pin_at o.outputs k → j ≡ k
