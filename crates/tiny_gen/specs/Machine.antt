-- The tiny machine's words and steps.
use Rattle.std.specs.Prelude.{ℕ, suc, ◌+◌, ◌*◌, ◌/◌, ◌%◌, ◌<◌, List, [], ◌∷◌, Option, Some, None, Bool, true, false, ◌==◌, if◌then◌else◌, is_some, slice_get, slice_index_or}
use Rattle.chip_tables.specs.Bits.{bit_of, as_bit}
use Rattle.chip_tables.specs.declared.outside.PinReading.{PinReading}
use Rattle.chip_tables.specs.declared.outside.Poll.TheVariants.{NoPoll, CycleReady, CycleNotReady, DeviceNotReady}
use Rattle.runs.specs.Run.{Went, Stepper}
use Rattle.byte_code.specs.declared.store.Store.{Store}
use Rattle.byte_code.specs.declared.prim.BitSource.TheVariants as source
use Rattle.byte_code.specs.declared.prim.BitDest.TheVariants as dest
use Rattle.byte_code.specs.Store.{cell, with_cell, bit_from, with_bit_at}
use Rattle.byte_code.specs.Table.{none_waits, sent_on}
use Rattle.tiny_gen.specs.declared.state.TinyState.{TinyState}
use Rattle.tiny_gen.specs.declared.state.Insn.{Insn}
use Rattle.tiny_gen.specs.declared.state.Insn.TheVariants.{Boot, AskCycle, AskDevice, Goto, CallTo, Back, Rest, Load, Keep, SendHeld, SkipByte, LoadLevel, KeepLatch}

abbrev pub word_of : ℕ → ℕ → ℕ
word_of op arg = op * 4096 + arg

abbrev pub pin_of : ℕ → ℕ → ℕ
pin_of port b = port * 8 + b

unfoldable pub encoded : Insn → ℕ
encoded Boot = word_of 1 0
encoded AskCycle = word_of 2 0
encoded AskDevice = word_of 3 0
encoded (Goto a) = word_of 4 a
encoded (CallTo a) = word_of 5 a
encoded Back = word_of 6 0
encoded Rest = word_of 7 0
encoded (Load a) = word_of 8 a
encoded (Keep a) = word_of 9 a
encoded SendHeld = word_of 10 0
encoded SkipByte = word_of 11 0
encoded (LoadLevel port b) = word_of 12 (pin_of port b)
encoded (KeepLatch port b) = word_of 13 (pin_of port b)

-- what it names fits its word
abbrev pub IsExact : Insn → Type 0
IsExact (Goto a) = a < 4096
IsExact (CallTo a) = a < 4096
IsExact (Load a) = a < 4096
IsExact (Keep a) = a < 4096
IsExact (LoadLevel port b) = (port < 8) × (b < 8)
IsExact (KeepLatch port b) = (port < 8) × (b < 8)
IsExact Boot = Unit {0}
IsExact AskCycle = Unit {0}
IsExact AskDevice = Unit {0}
IsExact Back = Unit {0}
IsExact Rest = Unit {0}
IsExact SendHeld = Unit {0}
IsExact SkipByte = Unit {0}

-- the instruction of an operation
abbrev pub insn_of : ℕ → ℕ → Option Insn
insn_of op a =
    if op == 1 then Some Boot
    else if op == 2 then Some AskCycle
    else if op == 3 then Some AskDevice
    else if op == 4 then Some (Goto a)
    else if op == 5 then Some (CallTo a)
    else if op == 6 then Some Back
    else if op == 7 then Some Rest
    else if op == 8 then Some (Load a)
    else if op == 9 then Some (Keep a)
    else if op == 10 then Some SendHeld
    else if op == 11 then Some SkipByte
    else if op == 12 then Some (LoadLevel (a / 8) (a % 8))
    else if op == 13 then Some (KeepLatch (a / 8) (a % 8))
    else None

unfoldable pub decoded : ℕ → Option Insn
decoded w = insn_of (w / 4096) (w % 4096)

-- a step that asks nobody, or a device that is ready
abbrev pub took : TinyState → ℕ → List ℕ → Option (Went TinyState)
took m cycles bytes = Some (record { next = m; cycles = cycles; poll = NoPoll; sent = bytes })

abbrev pub moved : TinyState → ℕ → TinyState
moved m place = record m { at = place }

abbrev pub cycle_step : TinyState → Bool → PinReading → Option (Went TinyState)
cycle_step m true r = Some (record {
  next = record (moved m (suc (suc m.at))) { store = record m.store { reading = r } };
  cycles = 2;
  poll = CycleReady;
  sent = [];
})
cycle_step m false r = Some (record { next = moved m (suc m.at); cycles = 1; poll = CycleNotReady; sent = [] })

abbrev pub converted : Store → Store
converted d = record d { converted = slice_index_or d.reading.adc d.channel 0 }

abbrev pub device_step : TinyState → Bool → Option (Went TinyState)
device_step m true = took (record (moved m (suc (suc m.at))) { store = converted m.store }) 2 []
device_step m false = Some (record { next = moved m (suc m.at); cycles = 1; poll = DeviceNotReady; sent = [] })

abbrev pub skip_step : TinyState → Bool → Option (Went TinyState)
skip_step m true = took (moved m (suc (suc m.at))) 2 []
skip_step m false = took (moved m (suc m.at)) 1 []

-- what an instruction does
abbrev pub executed : Insn → TinyState → Bool → PinReading → Option (Went TinyState)
executed Boot m ready r = took (record (moved m (suc m.at)) { store = none_waits m.store }) 1 []
executed AskCycle m ready r = cycle_step m ready r
executed AskDevice m ready r = device_step m ready
executed (Goto a) m ready r = took (moved m a) 2 []
executed (CallTo a) m ready r = took (record (moved m a) { link = suc m.at }) 2 []
executed Back m ready r = took (moved m m.link) 2 []
executed Rest m ready r = took (moved m (suc m.at)) 1 []
executed (Load a) m ready r = took (record (moved m (suc m.at)) { held = cell m.store a }) 1 []
executed (Keep a) m ready r = took (record (moved m (suc m.at)) { store = with_cell m.store a m.held }) 1 []
executed SendHeld m ready r = took (record (moved m (suc m.at)) { store = sent_on m.store }) 1 (if m.store.reading.tx_busy then [] else m.held ∷ [])
executed SkipByte m ready r = skip_step m (is_some m.store.reading.rx)
executed (LoadLevel port b) m ready r = took (record (moved m (suc m.at)) { held = as_bit (bit_from m.store (source.Level port b)) }) 1 []
executed (KeepLatch port b) m ready r = took (record (moved m (suc m.at)) { store = with_bit_at m.store (dest.Latch port b) (bit_of m.held 0) }) 1 []

abbrev pub executed_if : Option Insn → TinyState → Bool → PinReading → Option (Went TinyState)
executed_if None m ready r = None
executed_if (Some i) m ready r = executed i m ready r

abbrev pub fetched : Option ℕ → Option Insn
fetched None = None
fetched (Some w) = decoded w

-- The step. There is none where no instruction stands.
unfoldable pub tiny_step : List ℕ → Stepper TinyState
tiny_step flash m ready r = executed_if (fetched (slice_get flash m.at)) m ready r
