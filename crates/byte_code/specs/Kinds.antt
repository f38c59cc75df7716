-- The kinds of primitives, as far as a target's code for them differs in length.
use Rattle.std.specs.Prelude.{ℕ, zero, suc, ◌≤◌, Bool, false, List, [], ◌∷◌, ◌++◌, length}
use Rattle.std.specs.List.{flat_map, sum_by}
use Rattle.chip_tables.specs.declared.target.Target.{Target}
use Rattle.byte_code.specs.declared.prim.BitSource.{BitSource}
use Rattle.byte_code.specs.declared.prim.BitSource.TheVariants as source
use Rattle.byte_code.specs.declared.prim.BitDest.{BitDest}
use Rattle.byte_code.specs.declared.prim.BitDest.TheVariants as dest
use Rattle.byte_code.specs.declared.prim.BytePrim.{BytePrim}
use Rattle.byte_code.specs.declared.prim.BytePrim.TheVariants as prim
use Rattle.byte_code.specs.declared.prim.Test.{Test}
use Rattle.byte_code.specs.declared.prim.Test.TheVariants as test
use Rattle.byte_code.specs.declared.prim.BitOp.{BitOp}
use Rattle.byte_code.specs.declared.prim.BitOp.TheVariants as bits
use Rattle.byte_code.specs.declared.prim.ByteOp.{ByteOp}
use Rattle.byte_code.specs.declared.prim.ByteOp.TheVariants as bytes
use Rattle.byte_code.specs.declared.prim.WordOp.{WordOp}
use Rattle.byte_code.specs.declared.prim.WordOp.TheVariants as words
use Rattle.byte_code.specs.declared.prim.CompareOp.{CompareOp}
use Rattle.byte_code.specs.declared.prim.CompareOp.TheVariants as compares
use Rattle.byte_code.specs.declared.prim.DeviceOp.{DeviceOp}
use Rattle.byte_code.specs.declared.prim.DeviceOp.TheVariants as devices
use Rattle.byte_code.specs.declared.prim.EepromOp.{EepromOp}
use Rattle.byte_code.specs.declared.prim.EepromOp.TheVariants as eeprom
use Rattle.byte_code.specs.declared.prim.Paced.{Paced}
use Rattle.byte_code.specs.Admitted.{is_scratch}

-- A primitive by its name, and for each of its bits whether that is in a cell of the compiler's, as a wire is: `from` is read, and `to` written. A table has
-- its length. A bit that is put where the flag says so is a kind with one that is put.
pub data PrimKind : Type 0 where
  Start : PrimKind
  CyclePoll : PrimKind
  AdcPoll : PrimKind
  Jump : PrimKind
  Call : PrimKind
  Return : PrimKind
  Loop : PrimKind
  JumpIf : (from : Bool) → PrimKind
  JumpOnFlag : PrimKind
  JumpNoByte : PrimKind
  JumpSends : PrimKind
  JumpWrites : PrimKind
  JumpNoneWaits : PrimKind
  PutBit : (to : Bool) → PrimKind
  CopyBit : (to from : Bool) → PrimKind
  PutBitIf : (from to : Bool) → PrimKind
  PutByte : PrimKind
  CopyByte : PrimKind
  Xor : PrimKind
  Move : PrimKind
  Increment : PrimKind
  Decrement : PrimKind
  Add : PrimKind
  Subtract : PrimKind
  NegateIf : PrimKind
  MultiplyStep : PrimKind
  DivideStep : PrimKind
  Less : PrimKind
  Equal : PrimKind
  Below : PrimKind
  AdcChannel : PrimKind
  AdcStart : PrimKind
  AdcRead : PrimKind
  TakeByte : PrimKind
  Send : PrimKind
  PwmDuty : PrimKind
  EepromAt : PrimKind
  EepromNext : PrimKind
  EepromGet : PrimKind
  EepromPut : PrimKind
  EepromWait : PrimKind
  EepromFlush : PrimKind
  Table : (values : ℕ) → PrimKind

abbrev pub reads_scratch : Target → BitSource → Bool
reads_scratch t (source.Cell a b) = is_scratch t a
reads_scratch t (source.Level port b) = false
reads_scratch t (source.Latch port b) = false

abbrev pub writes_scratch : Target → BitDest → Bool
writes_scratch t (dest.Cell a b) = is_scratch t a
writes_scratch t (dest.Latch port b) = false

abbrev pub jump_kind : Target → Test → PrimKind
jump_kind t test.LoopsOn = Loop
jump_kind t (test.Bit from is) = JumpIf (reads_scratch t from)
jump_kind t (test.Flag kind is) = JumpOnFlag
jump_kind t test.NoByte = JumpNoByte
jump_kind t test.Sends = JumpSends
jump_kind t test.Writes = JumpWrites
jump_kind t test.NoneWaits = JumpNoneWaits

abbrev pub bit_kind : Target → BitOp → PrimKind
bit_kind t (bits.Put to x) = PutBit (writes_scratch t to)
bit_kind t (bits.Copy to from inverted) = CopyBit (writes_scratch t to) (reads_scratch t from)
bit_kind t (bits.PutIf from is to x) = PutBitIf (reads_scratch t from) (writes_scratch t to)
bit_kind t (bits.PutOnFlag kind is to x) = PutBit (writes_scratch t to)

abbrev pub byte_kind : ByteOp → PrimKind
byte_kind (bytes.Put to x) = PutByte
byte_kind (bytes.Copy to from) = CopyByte
byte_kind (bytes.Xor to a b) = Xor

abbrev pub word_kind : WordOp → PrimKind
word_kind (words.Move to from) = Move
word_kind (words.Increment to) = Increment
word_kind (words.Decrement to) = Decrement
word_kind (words.Add to a b) = Add
word_kind (words.Subtract to a b) = Subtract
word_kind (words.NegateIf to sign) = NegateIf
word_kind words.MultiplyStep = MultiplyStep
word_kind words.DivideStep = DivideStep

abbrev pub compare_kind : CompareOp → PrimKind
compare_kind (compares.Less a b) = Less
compare_kind (compares.Equal a b) = Equal
compare_kind (compares.Below a n) = Below

abbrev pub device_kind : DeviceOp → PrimKind
device_kind (devices.AdcChannel c) = AdcChannel
device_kind devices.AdcStart = AdcStart
device_kind (devices.AdcRead to) = AdcRead
device_kind (devices.TakeByte to) = TakeByte
device_kind (devices.Send from) = Send
device_kind (devices.PwmDuty from) = PwmDuty

abbrev pub eeprom_kind : EepromOp → PrimKind
eeprom_kind (eeprom.At a) = EepromAt
eeprom_kind eeprom.Next = EepromNext
eeprom_kind (eeprom.Get to) = EepromGet
eeprom_kind (eeprom.Put from) = EepromPut
eeprom_kind (eeprom.Wait from) = EepromWait
eeprom_kind eeprom.Flush = EepromFlush

-- the kind of a primitive; a label is no code
abbrev pub kind_of : Target → BytePrim → List PrimKind
kind_of t (prim.Start n) = Start ∷ []
kind_of t (prim.CyclePoll l) = CyclePoll ∷ []
kind_of t (prim.AdcPoll l) = AdcPoll ∷ []
kind_of t (prim.Label l) = []
kind_of t (prim.Jump l) = Jump ∷ []
kind_of t (prim.Call l) = Call ∷ []
kind_of t prim.Return = Return ∷ []
kind_of t (prim.JumpWhere test l) = jump_kind t test ∷ []
kind_of t (prim.Bit o) = bit_kind t o ∷ []
kind_of t (prim.Byte o) = byte_kind o ∷ []
kind_of t (prim.Word o) = word_kind o ∷ []
kind_of t (prim.Compare o) = compare_kind o ∷ []
kind_of t (prim.Device o) = device_kind o ∷ []
kind_of t (prim.Eeprom o) = eeprom_kind o ∷ []
kind_of t (prim.Table values l) = Table (length values) ∷ []

abbrev pub repeated : {X : Type 0} → ℕ → List X → List X
repeated zero xs = []
repeated (suc n) xs = xs ++ repeated n xs

-- the kinds of the primitives of code, once each, as often as they may be begun in front of the first reading, and as often as in a cycle
abbrev pub kinds : Target → List Paced → List PrimKind
kinds t code = flat_map (λ p. kind_of t p.prim) code

abbrev pub boot_kinds : Target → List Paced → List PrimKind
boot_kinds t code = flat_map (λ p. repeated p.boot (kind_of t p.prim)) code

abbrev pub turn_kinds : Target → List Paced → List PrimKind
turn_kinds t code = flat_map (λ p. repeated p.turns (kind_of t p.prim)) code

-- No kind is there more often than in the list: whatever each costs, the sum is no more than the list's.
abbrev pub IsWithin : List PrimKind → List PrimKind → Type 0
IsWithin have may = (cost : PrimKind → ℕ) → sum_by cost have ≤ sum_by cost may
