-- The tiny machine's code for each primitive, and what it stands for.
use Rattle.std.specs.Prelude.{◌≡◌, ℕ, suc, ◌+◌, ◌<◌, List, [], ◌∷◌, Some, false, slice_index}
use Rattle.byte_code.specs.declared.prim.BytePrim.{BytePrim}
use Rattle.byte_code.specs.declared.prim.BytePrim.TheVariants.{Start, CyclePoll, AdcPoll, Label, Jump, Call, Return, JumpWhere, Bit, Byte, Word, Compare, Device, Eeprom, Table}
use Rattle.byte_code.specs.declared.prim.Test.{Test}
use Rattle.byte_code.specs.declared.prim.Test.TheVariants as test
use Rattle.byte_code.specs.declared.prim.BitSource.{BitSource}
use Rattle.byte_code.specs.declared.prim.BitSource.TheVariants as source
use Rattle.byte_code.specs.declared.prim.BitDest.{BitDest}
use Rattle.byte_code.specs.declared.prim.BitDest.TheVariants as dest
use Rattle.byte_code.specs.declared.prim.BitOp.{BitOp}
use Rattle.byte_code.specs.declared.prim.BitOp.TheVariants as bits
use Rattle.byte_code.specs.declared.prim.ByteOp.{ByteOp}
use Rattle.byte_code.specs.declared.prim.ByteOp.TheVariants as bytes
use Rattle.byte_code.specs.declared.prim.ByteSource.{ByteSource}
use Rattle.byte_code.specs.declared.prim.ByteSource.TheVariants as byte
use Rattle.byte_code.specs.declared.prim.DeviceOp.{DeviceOp}
use Rattle.byte_code.specs.declared.prim.DeviceOp.TheVariants as devices
use Rattle.byte_code.specs.declared.state.Bytes.{Bytes}
use Rattle.byte_code.specs.Table.{plain}
use Rattle.tiny_gen.specs.declared.state.TinyState.{TinyState}
use Rattle.tiny_gen.specs.declared.state.Insn.{Insn}
use Rattle.tiny_gen.specs.declared.state.Insn.TheVariants.{Boot, AskCycle, AskDevice, Goto, CallTo, Back, Rest, Load, Keep, SendHeld, SkipByte, LoadLevel, KeepLatch}
use Rattle.target_core.specs.Law.{Target}
use Rattle.tiny_gen.specs.Machine.{encoded, tiny_step}

-- what is admitted, and its code: starts that clear no cells, jumps by whether a byte was received, copies of levels to latches, copies of cells, and
-- sends of cells
abbrev pub admits_test : Test → Type 0
admits_test test.NoByte = Unit {0}
admits_test test.LoopsOn = ⊥
admits_test (test.Bit from is) = ⊥
admits_test (test.Flag kind is) = ⊥
admits_test test.Sends = ⊥
admits_test test.Writes = ⊥
admits_test test.NoneWaits = ⊥

abbrev pub admits_dest : BitDest → Type 0
admits_dest (dest.Latch port b) = (port < 8) × (b < 8)
admits_dest (dest.Cell a b) = ⊥

abbrev pub admits_source : BitSource → Type 0
admits_source (source.Level port b) = (port < 8) × (b < 8)
admits_source (source.Cell a b) = ⊥
admits_source (source.Latch port b) = ⊥

abbrev pub admits_bit : BitOp → Type 0
admits_bit (bits.Copy to from inverted) = admits_dest to × admits_source from × (inverted ≡ false)
admits_bit (bits.Put to x) = ⊥
admits_bit (bits.PutIf from is to x) = ⊥
admits_bit (bits.PutOnFlag kind is to x) = ⊥

abbrev pub admits_byte : ByteOp → Type 0
admits_byte (bytes.Copy to from) = (to < 4096) × (from < 4096)
admits_byte (bytes.Put to x) = ⊥
admits_byte (bytes.Xor to a b) = ⊥

abbrev pub admits_send : ByteSource → Type 0
admits_send (byte.Cell a) = a < 4096
admits_send (byte.Number n) = ⊥

abbrev pub admits_device : DeviceOp → Type 0
admits_device (devices.Send from) = admits_send from
admits_device (devices.AdcChannel c) = ⊥
admits_device devices.AdcStart = ⊥
admits_device (devices.AdcRead to) = ⊥
admits_device (devices.TakeByte to) = ⊥
admits_device (devices.PwmDuty from) = ⊥

abbrev pub admits : BytePrim → Type 0
admits (Start n) = n ≡ 0
admits (CyclePoll l) = Unit {0}
admits (AdcPoll l) = Unit {0}
admits (Label l) = Unit {0}
admits (Jump l) = Unit {0}
admits (Call l) = Unit {0}
admits Return = Unit {0}
admits (JumpWhere by l) = admits_test by
admits (Bit op) = admits_bit op
admits (Byte op) = admits_byte op
admits (Word op) = ⊥
admits (Compare op) = ⊥
admits (Device op) = admits_device op
admits (Eeprom op) = ⊥
admits (Table values l) = ⊥

abbrev pub test_code : Test → ℕ → List Insn
test_code test.NoByte place = SkipByte ∷ Goto place ∷ []
test_code test.LoopsOn place = []
test_code (test.Bit from is) place = []
test_code (test.Flag kind is) place = []
test_code test.Sends place = []
test_code test.Writes place = []
test_code test.NoneWaits place = []

abbrev pub copy_bit_code : BitDest → BitSource → List Insn
copy_bit_code (dest.Latch to_port to_bit) (source.Level port b) = LoadLevel port b ∷ KeepLatch to_port to_bit ∷ []
copy_bit_code (dest.Latch to_port to_bit) (source.Cell a b) = []
copy_bit_code (dest.Latch to_port to_bit) (source.Latch port b) = []
copy_bit_code (dest.Cell to to_bit) from = []

abbrev pub bit_code : BitOp → List Insn
bit_code (bits.Copy to from inverted) = copy_bit_code to from
bit_code (bits.Put to x) = []
bit_code (bits.PutIf from is to x) = []
bit_code (bits.PutOnFlag kind is to x) = []

abbrev pub copy_code : ByteOp → List Insn
copy_code (bytes.Copy to from) = Load from ∷ Keep to ∷ []
copy_code (bytes.Put to x) = []
copy_code (bytes.Xor to a b) = []

abbrev pub send_code : ByteSource → List Insn
send_code (byte.Cell a) = Load a ∷ SendHeld ∷ []
send_code (byte.Number n) = []

abbrev pub device_code : DeviceOp → List Insn
device_code (devices.Send from) = send_code from
device_code (devices.AdcChannel c) = []
device_code devices.AdcStart = []
device_code (devices.AdcRead to) = []
device_code (devices.TakeByte to) = []
device_code (devices.PwmDuty from) = []

abbrev pub code_of : BytePrim → ℕ → List ℕ → List Insn
code_of (Start n) at labels = Boot ∷ []
code_of (CyclePoll l) at labels = Rest ∷ AskCycle ∷ Goto (suc at) ∷ []
code_of (AdcPoll l) at labels = AskDevice ∷ Goto at ∷ []
code_of (Label l) at labels = []
code_of (Jump l) at labels = Goto (slice_index labels l) ∷ []
code_of (Call l) at labels = CallTo (slice_index labels l) ∷ []
code_of Return at labels = Back ∷ []
code_of (JumpWhere by l) at labels = test_code by (slice_index labels l)
code_of (Bit op) at labels = bit_code op
code_of (Byte op) at labels = copy_code op
code_of (Word op) at labels = []
code_of (Compare op) at labels = []
code_of (Device op) at labels = device_code op
code_of (Eeprom op) at labels = []
code_of (Table values l) at labels = []

abbrev pub words_of_insns : List Insn → List ℕ
words_of_insns [] = []
words_of_insns (i ∷ is) = encoded i ∷ words_of_insns is

abbrev pub word_count : BytePrim → ℕ
word_count (Start n) = 1
word_count (CyclePoll l) = 3
word_count (AdcPoll l) = 2
word_count (Label l) = 0
word_count (Jump l) = 1
word_count (Call l) = 1
word_count Return = 1
word_count (JumpWhere by l) = 2
word_count (Bit op) = 2
word_count (Byte op) = 2
word_count (Word op) = 1
word_count (Compare op) = 1
word_count (Device op) = 2
word_count (Eeprom op) = 1
word_count (Table values l) = 1

abbrev pub cycle_count : BytePrim → ℕ
cycle_count (Start n) = 1
cycle_count (CyclePoll l) = 3
cycle_count (AdcPoll l) = 2
cycle_count (Label l) = 0
cycle_count (Jump l) = 2
cycle_count (Call l) = 2
cycle_count Return = 2
cycle_count (JumpWhere by l) = 3
cycle_count (Bit op) = 2
cycle_count (Byte op) = 2
cycle_count (Word op) = 1
cycle_count (Compare op) = 1
cycle_count (Device op) = 2
cycle_count (Eeprom op) = 1
cycle_count (Table values l) = 1

-- cycles and words in front of where a poll first asks
abbrev pub enter_count : BytePrim → ℕ
enter_count (Start n) = 0
enter_count (CyclePoll l) = 1
enter_count (AdcPoll l) = 0
enter_count (Label l) = 0
enter_count (Jump l) = 0
enter_count (Call l) = 0
enter_count Return = 0
enter_count (JumpWhere by l) = 0
enter_count (Bit op) = 0
enter_count (Byte op) = 0
enter_count (Word op) = 0
enter_count (Compare op) = 0
enter_count (Device op) = 0
enter_count (Eeprom op) = 0
enter_count (Table values l) = 0

-- the machine has what the byte state has, but for the flag
abbrev pub Shows : TinyState → Bytes → Type 0
Shows m s = plain m.store ≡ plain s.store

-- it is so many words behind the place of the byte state's primitive
pub record StandsAt (places : List ℕ) (offset : ℕ) (m : TinyState) (s : Bytes) : Type 0 where
  pub shows : Shows m s
  pub at : m.at ≡ slice_index places s.place + offset
  pub link : (k : ℕ) → s.open_call ≡ Some k → m.link ≡ slice_index places k

abbrev pub tiny_target : Target TinyState
tiny_target = record {
  step = tiny_step;
  stands = λ places m s. StandsAt places 0 m s;
  awaits = λ places p m s. StandsAt places (enter_count p) m s;
  shows = Shows;
  admits = admits;
  size = 4096;
  words_in = word_count;
  cycles_in = cycle_count;
  enter_in = enter_count;
  leave_in = λ p. 2;
  emitted = λ p at labels. words_of_insns (code_of p at labels);
  reads = λ r. Unit {0};
  wait = 3;
}
