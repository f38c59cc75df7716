-- Which primitives code for a project may have: cells that are the project's or the compiler's, and pins and devices by what is done to them.
use Rattle.std.specs.Prelude.{ℕ, ◌+◌, ◌==◌, nat_lt, nat_le, ◌&&◌, ◌||◌, Bool, true, false, List, [], ◌∷◌, Option, Some, None}
use Rattle.std.specs.List.{list_any, list_all}
use Rattle.chip_tables.specs.Memory.{ram_ranges, holds, eeprom_size}
use Rattle.chip_tables.specs.declared.pic16.TheConstants.{SCRATCH_FIRST, SCRATCH_END}
use Rattle.chip_tables.specs.declared.pins.PortBit.{PortBit}
use Rattle.chip_tables.specs.declared.scratch.Scratch.{Scratch}
use Rattle.chip_tables.specs.declared.target.Target.{Target}
use Rattle.chip_tables.specs.declared.target.Target.TheVariants.{F628, F877, Mega16, Interp, AnsiC}
use Rattle.byte_code.specs.declared.prim.BitSource.{BitSource}
use Rattle.byte_code.specs.declared.prim.BitSource.TheVariants as source
use Rattle.byte_code.specs.declared.prim.BitDest.{BitDest}
use Rattle.byte_code.specs.declared.prim.BitDest.TheVariants as dest
use Rattle.byte_code.specs.declared.prim.ByteSource.{ByteSource}
use Rattle.byte_code.specs.declared.prim.ByteSource.TheVariants as byte
use Rattle.byte_code.specs.declared.prim.WordSource.{WordSource}
use Rattle.byte_code.specs.declared.prim.WordSource.TheVariants as word
use Rattle.byte_code.specs.declared.prim.BytePrim.{BytePrim}
use Rattle.byte_code.specs.declared.prim.BytePrim.TheVariants.{Start, CyclePoll, AdcPoll, Label, Jump, Call, Return, JumpWhere, Bit, Byte, Word, Compare, Device, Eeprom, Table}
use Rattle.byte_code.specs.declared.prim.Test.{Test}
use Rattle.byte_code.specs.declared.prim.Test.TheVariants as test
use Rattle.byte_code.specs.declared.prim.BitOp.{BitOp}
use Rattle.byte_code.specs.declared.prim.BitOp.TheVariants as bits
use Rattle.byte_code.specs.declared.prim.ByteOp.{ByteOp}
use Rattle.byte_code.specs.declared.prim.ByteOp.TheVariants as bytes
use Rattle.byte_code.specs.declared.prim.WordOp.{WordOp}
use Rattle.byte_code.specs.declared.prim.WordOp.TheVariants as words
use Rattle.byte_code.specs.declared.prim.CompareOp.{CompareOp}
use Rattle.byte_code.specs.declared.prim.CompareOp.TheVariants as compares
use Rattle.byte_code.specs.declared.prim.DeviceOp.{DeviceOp}
use Rattle.byte_code.specs.declared.prim.DeviceOp.TheVariants as devices
use Rattle.byte_code.specs.declared.prim.EepromOp.{EepromOp}
use Rattle.byte_code.specs.declared.prim.EepromOp.TheVariants as eeprom

-- what a project uses of its chip
pub record Outfit : Type 0 where
  pub target : Target
  -- the pins of its inputs, whose levels are read, and of its outputs, whose latches are read and written
  pub inputs : List PortBit
  pub outputs : List PortBit
  -- the channels of its analog inputs
  pub channels : List ℕ
  -- whether it uses the serial port, and the modulator
  pub serial : Bool
  pub modulated : Bool

-- the compiler's own cells: 70h..7Fh of a PIC; R0, R2 to R15, R20 to R27, R30 and R31 of the ATmega16
abbrev pub is_scratch : Target → ℕ → Bool
is_scratch F628 a = nat_le SCRATCH_FIRST a && nat_lt a SCRATCH_END
is_scratch F877 a = nat_le SCRATCH_FIRST a && nat_lt a SCRATCH_END
is_scratch Mega16 a = a == 0 || (nat_le 2 a && nat_lt a 16 || (nat_le 20 a && nat_lt a 28 || nat_le 30 a && nat_lt a 32))
is_scratch Interp a = false
is_scratch AnsiC a = false

abbrev pub is_scratch_word : Target → ℕ → Bool
is_scratch_word t a = is_scratch t a && is_scratch t (a + 1)

abbrev pub is_scratch_if_any : Target → Option ℕ → Bool
is_scratch_if_any t None = true
is_scratch_if_any t (Some a) = is_scratch t a

-- what the compiler keeps is in cells of its own
abbrev pub keeps_to_scratch : Target → Scratch → Bool
keeps_to_scratch t s =
    list_all (is_scratch_word t) (s.left ∷ s.right ∷ s.outcome ∷ [])
    && (list_all (is_scratch t) (s.count ∷ s.sign ∷ s.answer.address ∷ s.pending_low ∷ s.pending_byte ∷ []) && is_scratch_if_any t s.pending_high)

-- a cell that code may use: one of the list for variables and bits, or one of the compiler's
abbrev pub is_cell : Outfit → ℕ → Bool
is_cell o a = is_scratch o.target a || list_any (holds a) (ram_ranges o.target)

abbrev pub is_word : Outfit → ℕ → Bool
is_word o a = is_cell o a && is_cell o (a + 1)

abbrev pub is_pin : List PortBit → ℕ → ℕ → Bool
is_pin pins port b = list_any (λ p. p.port == port && p.bit == b) pins

abbrev pub reads_bit : Outfit → BitSource → Bool
reads_bit o (source.Cell a b) = is_cell o a && nat_lt b 8
reads_bit o (source.Level port b) = is_pin o.inputs port b
reads_bit o (source.Latch port b) = is_pin o.outputs port b

abbrev pub writes_bit : Outfit → BitDest → Bool
writes_bit o (dest.Cell a b) = is_cell o a && nat_lt b 8
writes_bit o (dest.Latch port b) = is_pin o.outputs port b

abbrev pub reads_byte : Outfit → ByteSource → Bool
reads_byte o (byte.Cell a) = is_cell o a
reads_byte o (byte.Number n) = true

abbrev pub reads_word : Outfit → WordSource → Bool
reads_word o (word.Cells a) = is_word o a
reads_word o (word.Number low high) = true

abbrev pub admits_test : Outfit → Test → Bool
admits_test o test.LoopsOn = true
admits_test o (test.Bit from is) = reads_bit o from
admits_test o (test.Flag kind is) = true
admits_test o test.NoByte = o.serial
admits_test o test.Sends = o.serial
admits_test o test.Writes = true
admits_test o test.NoneWaits = true

abbrev pub admits_bit : Outfit → BitOp → Bool
admits_bit o (bits.Put to x) = writes_bit o to
admits_bit o (bits.Copy to from inverted) = writes_bit o to && reads_bit o from
admits_bit o (bits.PutIf from is to x) = reads_bit o from && writes_bit o to
admits_bit o (bits.PutOnFlag kind is to x) = writes_bit o to

abbrev pub admits_byte : Outfit → ByteOp → Bool
admits_byte o (bytes.Put to x) = is_cell o to
admits_byte o (bytes.Copy to from) = is_cell o to && is_cell o from
admits_byte o (bytes.Xor to a b) = is_cell o to && (is_cell o a && is_cell o b)

abbrev pub admits_word : Outfit → WordOp → Bool
admits_word o (words.Move to from) = is_word o to && reads_word o from
admits_word o (words.Increment to) = is_word o to
admits_word o (words.Decrement to) = is_word o to
admits_word o (words.Add to a b) = is_word o to && (is_word o a && reads_word o b)
admits_word o (words.Subtract to a b) = is_word o to && (reads_word o a && reads_word o b)
admits_word o (words.NegateIf to sign) = is_word o to && is_cell o sign
admits_word o words.MultiplyStep = true
admits_word o words.DivideStep = true

abbrev pub admits_compare : Outfit → CompareOp → Bool
admits_compare o (compares.Less a b) = is_word o a && reads_word o b
admits_compare o (compares.Equal a b) = is_word o a && reads_word o b
admits_compare o (compares.Below a n) = is_word o a

-- a channel is one of an analog input; the serial port and the modulator are used only where the project uses them
abbrev pub admits_device : Outfit → DeviceOp → Bool
admits_device o (devices.AdcChannel c) = list_any (λ k. k == c) o.channels
admits_device o devices.AdcStart = true
admits_device o (devices.AdcRead to) = is_word o to
admits_device o (devices.TakeByte to) = o.serial && is_word o to
admits_device o (devices.Send from) = o.serial && reads_byte o from
admits_device o (devices.PwmDuty from) = o.modulated && is_cell o from

abbrev pub admits_eeprom : Outfit → EepromOp → Bool
admits_eeprom o (eeprom.At a) = nat_lt a (eeprom_size o.target)
admits_eeprom o eeprom.Next = true
admits_eeprom o (eeprom.Get to) = is_cell o to
admits_eeprom o (eeprom.Put from) = is_cell o from
admits_eeprom o (eeprom.Wait from) = is_cell o from
admits_eeprom o eeprom.Flush = true

abbrev pub admits : Outfit → BytePrim → Bool
admits o (Start n) = true
admits o (CyclePoll l) = true
admits o (AdcPoll l) = true
admits o (Label l) = true
admits o (Jump l) = true
admits o (Call l) = true
admits o Return = true
admits o (JumpWhere test l) = admits_test o test
admits o (Bit op) = admits_bit o op
admits o (Byte op) = admits_byte o op
admits o (Word op) = admits_word o op
admits o (Compare op) = admits_compare o op
admits o (Device op) = admits_device o op
admits o (Eeprom op) = admits_eeprom o op
admits o (Table values l) = true
