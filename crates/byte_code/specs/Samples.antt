-- Two programs of the byte machine, written by hand.
use Rattle.std.specs.Prelude.{◌≡◌, ℕ, suc, ◌+◌, ◌*◌, ◌%◌, List, [], ◌∷◌, length, None, Some, Bool, false, slice_get, slice_index}
use Rattle.chip_tables.specs.Bits.{bit_of}
use Rattle.chip_tables.specs.Scratch.{avr_scratch}
use Rattle.chip_tables.specs.declared.mega16.TheConstants.{SRAM_FIRST}
use Rattle.chip_tables.specs.declared.memory.TheConstants.{DATA_ADDRESSES}
use Rattle.chip_tables.specs.declared.outside.PinReading.{PinReading}
use Rattle.chip_tables.specs.declared.pins.PortBit.{PortBit}
use Rattle.chip_tables.specs.declared.target.Target.TheVariants.{Mega16}
use Rattle.runs.specs.Run.{Moment, moment, first_moment}
use Rattle.byte_code.specs.declared.prim.BitSource.TheVariants as source
use Rattle.byte_code.specs.declared.prim.BitDest.TheVariants as dest
use Rattle.byte_code.specs.declared.prim.BitOp.TheVariants as bits
use Rattle.byte_code.specs.declared.prim.WordOp.TheVariants as words
use Rattle.byte_code.specs.declared.prim.BytePrim.{BytePrim}
use Rattle.byte_code.specs.declared.prim.BytePrim.TheVariants.{Start, CyclePoll, Label, Jump, Call, Return, Bit, Word}
use Rattle.byte_code.specs.declared.prim.Paced.{Paced}
use Rattle.byte_code.specs.declared.state.Bytes.{Bytes}
use Rattle.byte_code.specs.Store.{word_at}
use Rattle.byte_code.specs.Admitted.{Outfit}
use Rattle.byte_code.specs.Counts.{Counted, counted_step, uncounted}

abbrev pub paced : BytePrim → ℕ → ℕ → Paced
paced p boot turns = record { prim = p; boot = boot; turns = turns }

-- in each cycle the latch of pin B1 becomes the level of pin B0
abbrev pub copier : List Paced
copier =
    paced (Start 0) 1 0
    ∷ paced (Label 0) 1 1
    ∷ paced (CyclePoll 0) 1 1
    ∷ paced (Bit (bits.Copy (dest.Latch 1 1) (source.Level 1 0) false)) 0 1
    ∷ paced (Jump 0) 0 1
    ∷ []

-- in each cycle a routine that adds 1 to the first word of the SRAM is called from two places
abbrev pub by_twos : List Paced
by_twos =
    paced (Start 0) 1 0
    ∷ paced (Label 0) 1 1
    ∷ paced (CyclePoll 0) 1 1
    ∷ paced (Call 1) 0 1
    ∷ paced (Call 1) 0 1
    ∷ paced (Jump 0) 0 1
    ∷ paced (Label 1) 0 2
    ∷ paced (Word (words.Increment SRAM_FIRST)) 0 2
    ∷ paced Return 0 2
    ∷ []

-- in front of the first step of a program for the ATmega16, whatever its cells hold
pub record IsFresh (s : Bytes) : Type 0 where
  pub place : s.place ≡ 0
  pub open_call : s.open_call ≡ None
  pub converting : s.store.converting ≡ false
  pub scratch : s.store.scratch ≡ avr_scratch
  pub cells : length s.store.cells ≡ DATA_ADDRESSES
  pub latches : length s.store.latches ≡ 5

-- what holds at the poll, in place 2 of both programs, wherever a run comes there
abbrev pub AtPolls : List Paced → Bytes → List PinReading → List Bool → (Moment Counted → Type 0) → Type 0
AtPolls code s readings answers T =
    (j : ℕ) (b : Moment Counted) → moment (counted_step code) j (first_moment (uncounted s) readings answers) ≡ Some b → b.state.bytes.place ≡ 2 → T b

-- the last reading's level at B0 is at B1
abbrev pub IsCopied : List PinReading → Moment Counted → Type 0
IsCopied readings b =
    (k : ℕ) (r : PinReading) → b.taken ≡ suc k → slice_get readings k ≡ Some r → bit_of (slice_index b.state.bytes.store.latches 1) 1 ≡ bit_of
    (slice_index r.levels 1) 0

-- the word is 2 more for each reading, modulo 65536
abbrev pub IsByTwos : ℕ → Moment Counted → Type 0
IsByTwos first b = word_at b.state.bytes.store SRAM_FIRST % 65536 ≡ (first + 2 * b.taken) % 65536

abbrev pub pin : ℕ → ℕ → PortBit
pin port b = record { port = port; bit = b }

-- a project for the ATmega16 with an input at B0 and an output at B1, and no device
abbrev pub one_to_one : Outfit
one_to_one = record { target = Mega16; inputs = pin 1 0 ∷ []; outputs = pin 1 1 ∷ []; channels = []; serial = false; modulated = false }

-- the same with the pins exchanged
abbrev pub other_way : Outfit
other_way = record one_to_one { inputs = pin 1 1 ∷ []; outputs = pin 1 0 ∷ [] }
