-- The table of the primitives: how each goes on, what it does to the data, what it sends, and whether it goes to its label.
use Rattle.std.specs.Prelude.{ℕ, zero, suc, ◌+◌, ◌-◌, ◌*◌, ◌/◌, ◌%◌, ◌==◌, nat_lt, nat_le, not, Bool, true, false, if◌then◌else◌, List, [], ◌∷◌, Option, Some, None, is_some, unwrap_or, slice_index, slice_set, slice_index_or, bit_xor}
use Rattle.chip_tables.specs.Bits.{bit_of}
use Rattle.chip_tables.specs.Memory.{ram_address}
use Rattle.chip_tables.specs.declared.memory.TheConstants.{EEPROM_MOST}
use Rattle.byte_code.specs.declared.prim.BytePrim.{BytePrim}
use Rattle.byte_code.specs.declared.prim.BytePrim.TheVariants.{Start, CyclePoll, AdcPoll, Label, Jump, Call, Return, JumpWhere, Bit, Byte, Word, Compare, Device, Eeprom, Table}
use Rattle.byte_code.specs.declared.prim.Test.{Test}
use Rattle.byte_code.specs.declared.prim.Test.TheVariants as test
use Rattle.byte_code.specs.declared.prim.BitOp.{BitOp}
use Rattle.byte_code.specs.declared.prim.BitOp.TheVariants as bits
use Rattle.byte_code.specs.declared.prim.ByteOp.{ByteOp}
use Rattle.byte_code.specs.declared.prim.ByteOp.TheVariants as bytes
use Rattle.byte_code.specs.declared.prim.WordOp.{WordOp}
use Rattle.byte_code.specs.declared.prim.WordOp.TheVariants as words
use Rattle.byte_code.specs.declared.prim.CompareOp.{CompareOp}
use Rattle.byte_code.specs.declared.prim.CompareOp.TheVariants as compares
use Rattle.byte_code.specs.declared.prim.DeviceOp.{DeviceOp}
use Rattle.byte_code.specs.declared.prim.DeviceOp.TheVariants as devices
use Rattle.byte_code.specs.declared.prim.EepromOp.{EepromOp}
use Rattle.byte_code.specs.declared.prim.EepromOp.TheVariants as eeprom
use Rattle.byte_code.specs.declared.prim.Shape.{Shape}
use Rattle.byte_code.specs.declared.prim.Shape.TheVariants.{AtStart, AtPoll, AtDevice, Names, Jumps, Branches, Calls, Returns, Straight}
use Rattle.byte_code.specs.declared.prim.FlagKind.{FlagKind}
use Rattle.byte_code.specs.declared.prim.FlagKind.TheVariants as kind
use Rattle.byte_code.specs.declared.store.Store.{Store}
use Rattle.byte_code.specs.declared.store.Flag.{Flag}
use Rattle.byte_code.specs.Store.{cell, with_cell, word_at, with_word, byte_from, word_from, bit_from, with_bit_at, lifted, high_from, with_high}

-- how a primitive goes on
abbrev pub shape_of : BytePrim → Shape
shape_of (Start n) = AtStart
shape_of (CyclePoll l) = AtPoll
shape_of (AdcPoll l) = AtDevice
shape_of (Label l) = Names l
shape_of (Jump l) = Jumps l
shape_of (Call l) = Calls l
shape_of Return = Returns
shape_of (JumpWhere test l) = Branches l
shape_of (Bit o) = Straight
shape_of (Byte o) = Straight
shape_of (Word o) = Straight
shape_of (Compare o) = Straight
shape_of (Device o) = Straight
shape_of (Eeprom o) = Straight
shape_of (Table values l) = Straight

-- the flag of a comparison, and no flag: every primitive but those that use the flag leaves none
abbrev pub flagged : Store → FlagKind → Bool → Store
flagged d k x = record d { flag = Some (record { kind = k; value = x }) }

abbrev pub plain : Store → Store
plain d = record d { flag = None }

abbrev pub value_of : Option Flag → Bool
value_of None = false
value_of (Some f) = f.value

-- both are so, or neither is
abbrev pub same : Bool → Bool → Bool
same true b = b
same false b = not b

-- a cell of the chip's list is 0, by its number in the list
abbrev pub cell_cleared : Option ℕ → Store → Store
cell_cleared None d = d
cell_cleared (Some a) d = with_cell d a 0

-- the first so many cells of the list are 0
abbrev pub cleared : ℕ → Store → Store
cleared zero d = d
cleared (suc k) d = let e = cleared k d in cell_cleared (ram_address e.target k) e

abbrev pub none_waits : Store → Store
none_waits d = with_cell d d.scratch.pending_low 0

abbrev pub if_set : Bool → ℕ → ℕ
if_set true n = n
if_set false n = 0

-- The outcome becomes itself, plus the left word where the lowest bit of the right word's low byte is 1, plus 256 times the left word where that of its
-- high byte is. Both bytes of the right word are shifted to the right, and the left word to the left.
abbrev pub multiplied : Store → Store
multiplied d =
    let s = d.scratch in
    let a = word_at d s.left in
    let low = cell d s.right in
    let high = cell d (s.right + 1) in
    let r = ((word_at d s.outcome + if_set (bit_of low 0) a) % 65536 + if_set (bit_of high 0) (a * 256 % 65536)) % 65536 in
    with_word (with_word (with_word d s.outcome r) s.right (low / 2 + high / 2 * 256)) s.left (a * 2 % 65536)

-- The outcome, which is the rest, takes the highest bit of the left word, and gives the right word away where it is no less: then the left word's next bit is
-- 1.
abbrev pub divided : Store → Store
divided d =
    let s = d.scratch in
    let a = word_at d s.left in
    let b = word_at d s.right in
    let r = (word_at d s.outcome * 2 + a / 32768) % 65536 in
    if nat_le b r then with_word (with_word d s.outcome (r - b)) s.left (a * 2 % 65536 + 1)
    else with_word (with_word d s.outcome r) s.left (a * 2 % 65536)

abbrev pub ee_address : Store → ℕ
ee_address d = d.address % EEPROM_MOST

-- a write begins where none goes on
abbrev pub written : Store → ℕ → Store
written d x =
    if d.reading.ee_busy then d
    else record d { eeprom = slice_set d.eeprom (ee_address d) x; reading = record d.reading { ee_busy = true } }

abbrev pub waiting : Store → ℕ → Store
waiting d x =
    let s = d.scratch in
    let low = d.address % 256 in
    with_cell (with_high (with_cell d s.pending_low (low / 2 * 2 + 1)) s.pending_high (d.address / 256)) s.pending_byte x

abbrev pub flushed : Store → Store
flushed d =
    let s = d.scratch in
    let at = record d { address = cell d s.pending_low + high_from d s.pending_high * 256 } in
    none_waits (written at (cell d s.pending_byte))

-- a byte is being sent from then on
abbrev pub sent_on : Store → Store
sent_on d = record d { reading = record d.reading { tx_busy = true } }

-- what a jump's test does first, and what it says
abbrev pub tested : Test → Store → Store
tested test.LoopsOn d = plain (with_cell d d.scratch.count ((cell d d.scratch.count + 255) % 256))
tested (test.Bit from is) d = plain d
tested (test.Flag kind is) d = d
tested test.NoByte d = plain d
tested test.Sends d = plain d
tested test.Writes d = plain d
tested test.NoneWaits d = plain d

abbrev pub says : Test → Store → Bool
says test.LoopsOn d = not (cell d d.scratch.count == 0)
says (test.Bit from is) d = same (bit_from d from) is
says (test.Flag kind is) d = same (value_of d.flag) is
says test.NoByte d = not (is_some d.reading.rx)
says test.Sends d = d.reading.tx_busy
says test.Writes d = d.reading.ee_busy
says test.NoneWaits d = cell d d.scratch.pending_low == 0

abbrev pub bit_effect : BitOp → Store → Store
bit_effect (bits.Put to x) d = plain (with_bit_at d to x)
bit_effect (bits.Copy to from inverted) d = plain (with_bit_at d to (if inverted then not (bit_from d from) else bit_from d from))
bit_effect (bits.PutIf test is to x) d = plain (if same (bit_from d test) is then with_bit_at d to x else d)
bit_effect (bits.PutOnFlag kind is to x) d = if same (value_of d.flag) is then with_bit_at d to x else d

abbrev pub byte_effect : ByteOp → Store → Store
byte_effect (bytes.Put to x) d = with_cell d to x
byte_effect (bytes.Copy to from) d = with_cell d to (cell d from)
byte_effect (bytes.Xor to a b) d = with_cell d to (bit_xor (cell d a) (cell d b))

abbrev pub word_effect : WordOp → Store → Store
word_effect (words.Move to from) d = with_word d to (word_from d from)
word_effect (words.Increment to) d = with_word d to ((word_at d to + 1) % 65536)
word_effect (words.Decrement to) d = with_word d to ((word_at d to + 65535) % 65536)
word_effect (words.Add to a b) d = with_word d to ((word_at d a + word_from d b) % 65536)
word_effect (words.Subtract to a b) d = with_word d to ((word_from d a + (65536 - word_from d b)) % 65536)
word_effect (words.NegateIf to sign) d = if bit_of (cell d sign) 7 then with_word d to ((65536 - word_at d to) % 65536) else d
word_effect words.MultiplyStep d = multiplied d
word_effect words.DivideStep d = divided d

abbrev pub compare_effect : CompareOp → Store → Store
compare_effect (compares.Less a b) d = flagged d kind.Less (nat_lt (lifted (word_at d a)) (lifted (word_from d b)))
compare_effect (compares.Equal a b) d = flagged d kind.Equal (word_at d a == word_from d b)
compare_effect (compares.Below a n) d = flagged d kind.Below (nat_lt (word_at d a) n)

abbrev pub device_effect : DeviceOp → Store → Store
device_effect (devices.AdcChannel c) d = record d { channel = c; converting = true }
device_effect devices.AdcStart d = d
device_effect (devices.AdcRead to) d = record (with_word d to d.converted) { converting = false }
device_effect (devices.TakeByte to) d = record (with_word d to (unwrap_or d.reading.rx 0)) { reading = record d.reading { rx = None } }
device_effect (devices.Send from) d = sent_on d
device_effect (devices.PwmDuty from) d = record d { duty = cell d from }

abbrev pub eeprom_effect : EepromOp → Store → Store
eeprom_effect (eeprom.At a) d = record d { address = a }
eeprom_effect eeprom.Next d = record d { address = d.address / 256 * 256 + (d.address % 256 + 1) % 256 }
eeprom_effect (eeprom.Get to) d = with_cell d to (slice_index d.eeprom (ee_address d))
eeprom_effect (eeprom.Put from) d = written d (cell d from)
eeprom_effect (eeprom.Wait from) d = waiting d (cell d from)
eeprom_effect eeprom.Flush d = flushed d

-- what a primitive does to the cells and the devices
abbrev pub effect : BytePrim → Store → Store
effect (Start n) d = plain (none_waits (cleared n d))
effect (CyclePoll l) d = plain d
effect (AdcPoll l) d = plain (record d { converted = slice_index_or d.reading.adc d.channel 0 })
effect (Label l) d = plain d
effect (Jump l) d = plain d
effect (Call l) d = plain d
effect Return d = plain d
effect (JumpWhere test l) d = tested test d
effect (Bit o) d = bit_effect o d
effect (Byte o) d = plain (byte_effect o d)
effect (Word o) d = plain (word_effect o d)
effect (Compare o) d = compare_effect o d
effect (Device o) d = plain (device_effect o d)
effect (Eeprom o) d = plain (eeprom_effect o d)
effect (Table values l) d = plain (with_word d d.scratch.left (slice_index_or values (cell d d.scratch.outcome) 0))

-- the byte that a device is given to send
abbrev pub device_said : DeviceOp → Store → List ℕ
device_said (devices.Send from) d = if d.reading.tx_busy then [] else byte_from d from ∷ []
device_said (devices.AdcChannel c) d = []
device_said devices.AdcStart d = []
device_said (devices.AdcRead to) d = []
device_said (devices.TakeByte to) d = []
device_said (devices.PwmDuty from) d = []

-- what a primitive sends
abbrev pub said_by : BytePrim → Store → List ℕ
said_by (Device o) d = device_said o d
said_by (Start n) d = []
said_by (CyclePoll l) d = []
said_by (AdcPoll l) d = []
said_by (Label l) d = []
said_by (Jump l) d = []
said_by (Call l) d = []
said_by Return d = []
said_by (JumpWhere test l) d = []
said_by (Bit o) d = []
said_by (Byte o) d = []
said_by (Word o) d = []
said_by (Compare o) d = []
said_by (Eeprom o) d = []
said_by (Table values l) d = []

-- whether it goes to its label; d is what its effect leaves
abbrev pub branches : BytePrim → Store → Bool
branches (JumpWhere test l) d = says test d
branches (Start n) d = false
branches (CyclePoll l) d = false
branches (AdcPoll l) d = false
branches (Label l) d = false
branches (Jump l) d = false
branches (Call l) d = false
branches Return d = false
branches (Bit o) d = false
branches (Byte o) d = false
branches (Word o) d = false
branches (Compare o) d = false
branches (Device o) d = false
branches (Eeprom o) d = false
branches (Table values l) d = false
