-- What the code of a layout's programs uses of its chip, whatever the chip is, primitive by primitive.
use Rattle.std.specs.Prelude.{◌≡◌, ◌⊎◌, ℕ, ◌+◌, ◌<◌, ◌≤◌, List, length}
use Rattle.chip_tables.specs.declared.pins.PortBit.{PortBit}
use Rattle.chip_tables.specs.declared.scratch.TheConstants.{WIRES}
use Rattle.ladder_tree.specs.declared.limits.TheConstants.{TABLE_VALUES}
use Rattle.mem_plan.specs.Needs.{ram_need}
use Rattle.byte_code.specs.declared.prim.BytePrim.{BytePrim}
use Rattle.byte_code.specs.declared.prim.BytePrim.TheVariants.{Start, CyclePoll, AdcPoll, Label, Jump, Call, Return, JumpWhere, Bit, Byte, Word, Compare, Device, Eeprom, Table}
use Rattle.byte_code.specs.declared.prim.BitDest.{BitDest}
use Rattle.byte_code.specs.declared.prim.BitDest.TheVariants as dest
use Rattle.byte_code.specs.declared.prim.BitOp.{BitOp}
use Rattle.byte_code.specs.declared.prim.BitOp.TheVariants as bits
use Rattle.byte_code.specs.declared.prim.BitSource.{BitSource}
use Rattle.byte_code.specs.declared.prim.BitSource.TheVariants as source
use Rattle.byte_code.specs.declared.prim.ByteOp.{ByteOp}
use Rattle.byte_code.specs.declared.prim.ByteOp.TheVariants as bytes
use Rattle.byte_code.specs.declared.prim.CompareOp.{CompareOp}
use Rattle.byte_code.specs.declared.prim.CompareOp.TheVariants as compares
use Rattle.byte_code.specs.declared.prim.Test.{Test}
use Rattle.byte_code.specs.declared.prim.Test.TheVariants as test
use Rattle.byte_code.specs.declared.prim.WordOp.{WordOp}
use Rattle.byte_code.specs.declared.prim.WordOp.TheVariants as words
use Rattle.byte_code.specs.declared.prim.WordSource.{WordSource}
use Rattle.byte_code.specs.declared.prim.WordSource.TheVariants as word
use Rattle.byte_lower.specs.Layout.{word_cell, bit_cell, own_cells, pin_at}
use Rattle.byte_lower.specs.declared.layout.Layout.{Layout}

-- the word of a variable
abbrev pub IsVariable : Layout → ℕ → Type 0
IsVariable o a = (v : ℕ) × (v < o.plan.sizes.variables) × (a ≡ word_cell o v)

-- a word of the compiler's own: the two that a routine works on, and its outcome
abbrev pub IsOwnWord : Layout → ℕ → Type 0
IsOwnWord o a = (a ≡ (own_cells o.plan.target).left) ⊎ (a ≡ (own_cells o.plan.target).right) ⊎ (a ≡ (own_cells o.plan.target).outcome)

abbrev pub UsesWord : Layout → ℕ → Type 0
UsesWord o a = IsVariable o a ⊎ IsOwnWord o a

-- a byte of such a word, a loop's count, or a quotient's sign
abbrev pub UsesByte : Layout → ℕ → Type 0
UsesByte o a =
    ((w : ℕ) × UsesWord o w × ((a ≡ w) ⊎ (a ≡ w + 1))) ⊎ (a ≡ (own_cells o.plan.target).count) ⊎ (a ≡ (own_cells o.plan.target).sign)

abbrev pub ReadsWord : Layout → WordSource → Type 0
ReadsWord o (word.Cells a) = UsesWord o a
ReadsWord o (word.Number low high) = (low < 256) × (high < 256)

-- a kept bit or a wire
abbrev pub UsesBit : Layout → ℕ → ℕ → Type 0
UsesBit o a b = (k : ℕ) × (k < o.plan.sizes.kept_bits + WIRES) × (a ≡ (bit_cell o k).address) × (b ≡ (bit_cell o k).bit)

abbrev pub IsPinOf : List PortBit → ℕ → ℕ → Type 0
IsPinOf pins port b = (k : ℕ) × (k < length pins) × (port ≡ (pin_at pins k).port) × (b ≡ (pin_at pins k).bit)

-- levels are read at inputs, and latches are those of outputs
abbrev pub ReadsBit : Layout → BitSource → Type 0
ReadsBit o (source.Cell a b) = UsesBit o a b
ReadsBit o (source.Level port b) = IsPinOf o.inputs port b
ReadsBit o (source.Latch port b) = IsPinOf o.outputs port b

abbrev pub WritesBit : Layout → BitDest → Type 0
WritesBit o (dest.Cell a b) = UsesBit o a b
WritesBit o (dest.Latch port b) = IsPinOf o.outputs port b

abbrev pub UsesInTest : Layout → Test → Type 0
UsesInTest o test.LoopsOn = Unit {0}
UsesInTest o (test.Bit from is) = ReadsBit o from
UsesInTest o (test.Flag kind is) = Unit {0}
UsesInTest o test.NoByte = ⊥
UsesInTest o test.Sends = ⊥
UsesInTest o test.Writes = ⊥
UsesInTest o test.NoneWaits = ⊥

abbrev pub UsesInBit : Layout → BitOp → Type 0
UsesInBit o (bits.Put to x) = WritesBit o to
UsesInBit o (bits.Copy to from inverted) = WritesBit o to × ReadsBit o from
UsesInBit o (bits.PutIf from is to x) = ReadsBit o from × WritesBit o to
UsesInBit o (bits.PutOnFlag kind is to x) = ⊥

abbrev pub UsesInByte : Layout → ByteOp → Type 0
UsesInByte o (bytes.Put to x) = UsesByte o to × (x < 256)
UsesInByte o (bytes.Copy to from) = UsesByte o to × UsesByte o from
UsesInByte o (bytes.Xor to a b) = UsesByte o to × UsesByte o a × UsesByte o b

abbrev pub UsesInWord : Layout → WordOp → Type 0
UsesInWord o (words.Move to from) = UsesWord o to × ReadsWord o from
UsesInWord o (words.Increment to) = UsesWord o to
UsesInWord o (words.Decrement to) = UsesWord o to
UsesInWord o (words.Add to a b) = UsesWord o to × UsesWord o a × ReadsWord o b
UsesInWord o (words.Subtract to a b) = UsesWord o to × ReadsWord o a × ReadsWord o b
UsesInWord o (words.NegateIf to sign) = UsesWord o to × UsesByte o sign
UsesInWord o words.MultiplyStep = Unit {0}
UsesInWord o words.DivideStep = Unit {0}

abbrev pub UsesInCompare : Layout → CompareOp → Type 0
UsesInCompare o (compares.Less a b) = UsesWord o a × ReadsWord o b
UsesInCompare o (compares.Equal a b) = UsesWord o a × ReadsWord o b
UsesInCompare o (compares.Below a n) = UsesWord o a × (n < 256)

-- The start clears the plan's cells. A look-up has a value, and no more than a table may have. No device is used, and no EEPROM.
abbrev pub Uses : Layout → BytePrim → Type 0
Uses o (Start n) = n ≡ ram_need o.plan.sizes
Uses o (CyclePoll l) = Unit {0}
Uses o (AdcPoll l) = ⊥
Uses o (Label l) = Unit {0}
Uses o (Jump l) = Unit {0}
Uses o (Call l) = Unit {0}
Uses o Return = Unit {0}
Uses o (JumpWhere by l) = UsesInTest o by
Uses o (Bit op) = UsesInBit o op
Uses o (Byte op) = UsesInByte o op
Uses o (Word op) = UsesInWord o op
Uses o (Compare op) = UsesInCompare o op
Uses o (Device op) = ⊥
Uses o (Eeprom op) = ⊥
Uses o (Table values l) = (0 < length values) × (length values ≤ TABLE_VALUES)
