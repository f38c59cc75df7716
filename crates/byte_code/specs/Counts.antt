-- How often primitives are begun in a segment, and runs that keep to what is said of that.
use Rattle.std.specs.Prelude.{◌≡◌, ℕ, zero, suc, ◌≤◌, ◌<◌, List, [], ◌∷◌, Option, Some, None, Bool, false, ◌==◌, length, slice_get, count_by, IsSome}
use Rattle.chip_tables.specs.declared.outside.PinReading.{PinReading}
use Rattle.chip_tables.specs.declared.outside.Poll.{Poll}
use Rattle.chip_tables.specs.declared.outside.Poll.TheVariants.{NoPoll, CycleReady, CycleNotReady, CycleStill, DeviceNotReady}
use Rattle.runs.specs.Run.{Went, Stepper, Moment, moment, first_moment}
use Rattle.byte_code.specs.declared.prim.BytePrim.{BytePrim}
use Rattle.byte_code.specs.declared.prim.BytePrim.TheVariants.{Start, CyclePoll, AdcPoll, Label, Jump, Call, Return, JumpWhere, Bit, Byte, Word, Compare, Device, Eeprom, Table}
use Rattle.byte_code.specs.declared.prim.Test.{Test}
use Rattle.byte_code.specs.declared.prim.Test.TheVariants as test
use Rattle.byte_code.specs.declared.prim.BitOp.{BitOp}
use Rattle.byte_code.specs.declared.prim.BitOp.TheVariants as bits
use Rattle.byte_code.specs.declared.prim.BitSource.{BitSource}
use Rattle.byte_code.specs.declared.prim.BitSource.TheVariants as source
use Rattle.byte_code.specs.declared.prim.FlagKind.{FlagKind}
use Rattle.byte_code.specs.declared.prim.Paced.{Paced}
use Rattle.byte_code.specs.declared.store.Store.{Store}
use Rattle.byte_code.specs.declared.store.Flag.{Flag}
use Rattle.byte_code.specs.declared.state.Bytes.{Bytes}
use Rattle.byte_code.specs.Store.{cell}
use Rattle.byte_code.specs.declared.prim.Shape.{Shape}
use Rattle.byte_code.specs.declared.prim.Shape.TheVariants.{AtStart, AtPoll, AtDevice, Names, Jumps, Branches, Calls, Returns, Straight}
use Rattle.byte_code.specs.Table.{shape_of}
use Rattle.byte_code.specs.Machine.{byte_step}

-- a state with the places that were begun in the segment, the latest first
pub record Counted : Type 0 where
  pub bytes : Bytes
  pub begun : List ℕ

-- what is begun by a step: an answer that is not ready begins nothing, and the taking of a reading begins a segment
abbrev pub begun_after : List ℕ → ℕ → Poll → List ℕ
begun_after begun place NoPoll = place ∷ begun
begun_after begun place CycleReady = place ∷ []
begun_after begun place CycleNotReady = begun
begun_after begun place CycleStill = begun
begun_after begun place DeviceNotReady = begun

abbrev pub count_on : List ℕ → Option (Went Bytes) → Option (Went Counted)
count_on begun None = None
count_on begun (Some w) =
    Some (record { next = record { bytes = w.next; begun = begun_after begun w.next.place w.poll }; cycles = 0; poll = w.poll; sent = w.sent })

-- the byte machine's step, with what it begins
unfoldable pub counted_step : List Paced → Stepper Counted
counted_step code c ready r = count_on c.begun (byte_step code c.bytes ready r)

-- a state before its first step
abbrev pub uncounted : Bytes → Counted
uncounted s = record { bytes = s; begun = s.place ∷ [] }

-- how often a primitive may be begun in a segment, by the number of readings taken
abbrev pub allowed : ℕ → Paced → ℕ
allowed zero p = p.boot
allowed (suc n) p = p.turns

-- a call where none is open, a return where one is
abbrev pub CallFits : Shape → Option ℕ → Type 0
CallFits (Calls l) open_call = open_call ≡ None
CallFits Returns open_call = IsSome open_call
CallFits AtStart open_call = Unit {0}
CallFits AtPoll open_call = Unit {0}
CallFits AtDevice open_call = Unit {0}
CallFits (Names l) open_call = Unit {0}
CallFits (Jumps l) open_call = Unit {0}
CallFits (Branches l) open_call = Unit {0}
CallFits Straight open_call = Unit {0}

-- a level is read only where no channel is chosen
abbrev pub IsShown : BitSource → Store → Type 0
IsShown (source.Level port b) d = d.converting ≡ false
IsShown (source.Cell a b) d = Unit {0}
IsShown (source.Latch port b) d = Unit {0}

-- the flag is one of this kind
abbrev pub IsOfKind : Option Flag → FlagKind → Type 0
IsOfKind None k = ⊥
IsOfKind (Some f) k = f.kind ≡ k

abbrev pub TestFits : Test → Store → Type 0
TestFits (test.Bit from is) d = IsShown from d
TestFits (test.Flag kind is) d = IsOfKind d.flag kind
TestFits test.LoopsOn d = Unit {0}
TestFits test.NoByte d = Unit {0}
TestFits test.Sends d = Unit {0}
TestFits test.Writes d = Unit {0}
TestFits test.NoneWaits d = Unit {0}

abbrev pub BitFits : BitOp → Store → Type 0
BitFits (bits.Put to x) d = Unit {0}
BitFits (bits.Copy to from inverted) d = IsShown from d
BitFits (bits.PutIf from is to x) d = IsShown from d
BitFits (bits.PutOnFlag kind is to x) d = IsOfKind d.flag kind

-- the flag is used where a comparison of its kind stands, levels where they are shown, and a table within its values
abbrev pub StoreFits : BytePrim → Store → Type 0
StoreFits (JumpWhere test l) d = TestFits test d
StoreFits (Bit o) d = BitFits o d
StoreFits (Table values l) d = cell d d.scratch.outcome < length values
StoreFits (Start n) d = Unit {0}
StoreFits (CyclePoll l) d = Unit {0}
StoreFits (AdcPoll l) d = Unit {0}
StoreFits (Label l) d = Unit {0}
StoreFits (Jump l) d = Unit {0}
StoreFits (Call l) d = Unit {0}
StoreFits Return d = Unit {0}
StoreFits (Byte o) d = Unit {0}
StoreFits (Word o) d = Unit {0}
StoreFits (Compare o) d = Unit {0}
StoreFits (Device o) d = Unit {0}
StoreFits (Eeprom o) d = Unit {0}

-- what a primitive asks of the state in which it is begun
abbrev pub Fits : BytePrim → Bytes → Type 0
Fits p s = CallFits (shape_of p) s.open_call × StoreFits p s.store

-- at this moment the run is at a primitive that fits, and nothing was begun too often
pub record KeepsAt (code : List Paced) (b : Moment Counted) : Type 0 where
  pub fits : (p : Paced) × (slice_get code b.state.bytes.place ≡ Some p) × Fits p.prim b.state.bytes
  pub counts : (i : ℕ) (p : Paced) → slice_get code i ≡ Some p → count_by (λ k. k == i) b.state.begun ≤ allowed b.taken p

-- the run from s under this drive keeps its counts
pub record KeepsCounts (code : List Paced) (s : Bytes) (readings : List PinReading) (answers : List Bool) : Type 0 where
  pub polls : (i : ℕ) (p : Paced) → slice_get code i ≡ Some p → shape_of p.prim ≡ AtPoll → (1 ≤ p.turns)
  pub always : (j : ℕ) (b : Moment Counted) → moment (counted_step code) j (first_moment (uncounted s) readings answers) ≡ Some b → KeepsAt code b
