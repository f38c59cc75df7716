-- The ATmega16 as a target of the assembler, for the primitives that are admitted.
use Rattle.std.specs.Prelude.{◌≡◌, ◌⊎◌, ℕ, ◌+◌, ◌<◌, ◌≤◌, length, true, false}
use Rattle.chip_tables.specs.Bits.{bit_of}
use Rattle.chip_tables.specs.declared.mega16.TheConstants.{FLASH_WORDS}
use Rattle.byte_code.specs.declared.prim.BytePrim.{BytePrim}
use Rattle.byte_code.specs.declared.prim.BytePrim.TheVariants.{Start, CyclePoll, AdcPoll, Label, Jump, Call, Return, JumpWhere, Bit, Byte, Word, Compare, Device, Eeprom, Table}
use Rattle.byte_code.specs.declared.prim.Test.{Test}
use Rattle.byte_code.specs.declared.prim.Test.TheVariants as test
use Rattle.byte_code.specs.declared.prim.BitOp.{BitOp}
use Rattle.byte_code.specs.declared.prim.BitOp.TheVariants as bits
use Rattle.byte_code.specs.declared.prim.BitSource.{BitSource}
use Rattle.byte_code.specs.declared.prim.BitSource.TheVariants as bit
use Rattle.byte_code.specs.declared.prim.BitDest.{BitDest}
use Rattle.byte_code.specs.declared.prim.BitDest.TheVariants as dest
use Rattle.byte_code.specs.declared.prim.ByteOp.{ByteOp}
use Rattle.byte_code.specs.declared.prim.ByteOp.TheVariants as bytes
use Rattle.byte_code.specs.declared.prim.WordOp.{WordOp}
use Rattle.byte_code.specs.declared.prim.WordOp.TheVariants as words
use Rattle.byte_code.specs.declared.prim.WordSource.{WordSource}
use Rattle.byte_code.specs.declared.prim.WordSource.TheVariants as source
use Rattle.byte_code.specs.declared.prim.CompareOp.{CompareOp}
use Rattle.byte_code.specs.declared.prim.CompareOp.TheVariants as compares
use Rattle.byte_code.specs.Store.{in_byte}
use Rattle.runs.specs.Chip.{steps_over}
use Rattle.avr_devices.specs.Part.{mega16}
use Rattle.avr_mach.specs.declared.state.AvrState.{AvrState}
use Rattle.avr_mach.specs.Step.{avr_step}
use Rattle.target_core.specs.Law.{Target}
use Rattle.avr_code.specs.Code.{Board, direction, is_wire, code_of, words_of, word_count, cycle_count}
use Rattle.avr_code.specs.Stands.{IsCell, ShowsAt, StandsAt}

-- both of its cells are there
abbrev pub IsWord : ℕ → Type 0
IsWord a = IsCell a × IsCell (a + 1)

abbrev pub ReadsWord : WordSource → Type 0
ReadsWord (source.Cells a) = IsWord a
ReadsWord (source.Number low high) = (low < 256) × (high < 256)

-- a wire, by its one bit
abbrev pub IsWireBit : ℕ → ℕ → Type 0
IsWireBit a b = (is_wire a ≡ true) × (in_byte b ≡ 0)

-- levels are read at inputs
abbrev pub ReadsBit : Board → BitSource → Type 0
ReadsBit board (bit.Cell a b) = IsCell a ⊎ IsWireBit a b
ReadsBit board (bit.Level port b) =
    (port < 4) × (bit_of (direction board.outputs port) (in_byte b) ≡ false)
ReadsBit board (bit.Latch port b) = port < 4

abbrev pub WritesBit : BitDest → Type 0
WritesBit (dest.Cell a b) = IsCell a ⊎ IsWireBit a b
WritesBit (dest.Latch port b) = port < 4

-- where the flag has to stay, a wire is written
abbrev pub WritesWire : BitDest → Type 0
WritesWire (dest.Cell a b) = IsWireBit a b
WritesWire (dest.Latch port b) = ⊥

abbrev pub AdmitsBit : Board → BitOp → Type 0
AdmitsBit board (bits.Put to x) = WritesBit to
AdmitsBit board (bits.Copy to from inverted) = WritesBit to × ReadsBit board from
AdmitsBit board (bits.PutIf from is to x) = ReadsBit board from × WritesBit to
AdmitsBit board (bits.PutOnFlag k is to x) = WritesWire to

abbrev pub AdmitsTest : Board → Test → Type 0
AdmitsTest board test.LoopsOn = Unit {0}
AdmitsTest board (test.Flag k is) = Unit {0}
AdmitsTest board (test.Bit from is) = ReadsBit board from
AdmitsTest board test.NoByte = ⊥
AdmitsTest board test.Sends = ⊥
AdmitsTest board test.Writes = ⊥
AdmitsTest board test.NoneWaits = ⊥

abbrev pub AdmitsByte : ByteOp → Type 0
AdmitsByte (bytes.Put to x) = IsCell to × (x < 256)
AdmitsByte (bytes.Copy to from) = IsCell to × IsCell from
AdmitsByte (bytes.Xor to a b) = IsCell to × IsCell a × IsCell b

abbrev pub AdmitsWord : WordOp → Type 0
AdmitsWord (words.Move to from) = IsWord to × ReadsWord from
AdmitsWord (words.Increment to) = IsWord to
AdmitsWord (words.Decrement to) = IsWord to
AdmitsWord (words.Add to a b) = IsWord to × IsWord a × ReadsWord b
AdmitsWord (words.Subtract to a b) = IsWord to × ReadsWord a × ReadsWord b
AdmitsWord (words.NegateIf to sign) = IsWord to × IsCell sign
AdmitsWord words.MultiplyStep = Unit {0}
AdmitsWord words.DivideStep = Unit {0}

abbrev pub AdmitsCompare : CompareOp → Type 0
AdmitsCompare (compares.Less a b) = IsWord a × ReadsWord b
AdmitsCompare (compares.Equal a b) = IsWord a × ReadsWord b
AdmitsCompare (compares.Below a n) = IsWord a × (n < 256)

-- the cells are of the SRAM, and the timer's setting fits its registers
abbrev pub AdmitsStart : Board → ℕ → Type 0
AdmitsStart board n = (n ≤ 960) × (board.settings.timer.control < 256) × (board.settings.timer.compare < 65536)

-- all but the devices
abbrev pub Admits : Board → BytePrim → Type 0
Admits board (Label l) = Unit {0}
Admits board (Jump l) = Unit {0}
Admits board (JumpWhere by l) = AdmitsTest board by
Admits board (Byte op) = AdmitsByte op
Admits board (Word op) = AdmitsWord op
Admits board (Call l) = Unit {0}
Admits board Return = Unit {0}
Admits board (CyclePoll l) = Unit {0}
Admits board (Compare op) = AdmitsCompare op
Admits board (Start n) = AdmitsStart board n
Admits board (AdcPoll l) = ⊥
Admits board (Bit op) = AdmitsBit board op
Admits board (Device op) = ⊥
Admits board (Eeprom op) = ⊥
Admits board (Table values l) = (0 < length values) × (length values ≤ 256)

-- the cycles of a poll from the step that is answered that it is ready
abbrev pub leave_count : BytePrim → ℕ
leave_count (CyclePoll l) = 4
leave_count (Start n) = 0
leave_count (AdcPoll l) = 0
leave_count (Label l) = 0
leave_count (Jump l) = 0
leave_count (Call l) = 0
leave_count Return = 0
leave_count (JumpWhere by l) = 0
leave_count (Bit op) = 0
leave_count (Byte op) = 0
leave_count (Word op) = 0
leave_count (Compare op) = 0
leave_count (Device op) = 0
leave_count (Eeprom op) = 0
leave_count (Table values l) = 0

abbrev pub avr_target : Board → Target AvrState
avr_target board = record {
  step = λ flash. steps_over (avr_step mega16) flash;
  stands = λ places m s. StandsAt board places m s;
  awaits = λ places p m s. StandsAt board places m s;
  shows = λ m s. ShowsAt board m s;
  admits = Admits board;
  size = FLASH_WORDS;
  words_in = word_count board;
  cycles_in = cycle_count board;
  enter_in = λ p. 0;
  leave_in = leave_count;
  emitted = λ p at labels. words_of (code_of board p labels);
  reads = λ r. Unit {0};
  wait = 4;
}
