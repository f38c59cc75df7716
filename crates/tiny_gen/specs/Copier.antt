-- What the words of the copier do, the program that copies a pin to a pin in each cycle.
use Rattle.std.specs.Prelude.{◌≡◌, ◌≢◌, ℕ, suc, ◌+◌, ◌*◌, ◌≤◌, List, ◌++◌, Some, Bool, false, length, slice_get, slice_index}
use Rattle.chip_tables.specs.Bits.{bit_of}
use Rattle.chip_tables.specs.Scratch.{avr_scratch}
use Rattle.chip_tables.specs.declared.memory.TheConstants.{DATA_ADDRESSES}
use Rattle.chip_tables.specs.declared.outside.PinReading.{PinReading}
use Rattle.runs.specs.declared.ask.Ask.TheVariants as ask
use Rattle.runs.specs.Run.{ask_of, Moment, moment, first_moment, onward, IsStuck}
use Rattle.target_core.specs.Laid.{segment_bound}
use Rattle.tiny_gen.specs.declared.state.TinyState.{TinyState}
use Rattle.tiny_gen.specs.Machine.{tiny_step}

-- a machine at reset, whatever its cells, its latches and its register hold
pub record IsReset (m : TinyState) : Type 0 where
  pub at : m.at ≡ 0
  pub converting : m.store.converting ≡ false
  pub scratch : m.store.scratch ≡ avr_scratch
  pub cells : length m.store.cells ≡ DATA_ADDRESSES
  pub latches : length m.store.latches ≡ 5

-- At this moment the machine is not stuck, its segment cost no more than it may, and where it asks for the next reading, the latch of pin B1 is the
-- level that the last reading had at pin B0.
pub record CopiesAt (flash : List ℕ) (readings : List PinReading) (cycles boot : ℕ) (c : Moment TinyState) : Type 0 where
  pub not_stuck : onward (tiny_step flash) c ≢ IsStuck
  pub cost : c.cost ≤ segment_bound c.taken cycles boot + 3 * c.waits
  pub copied : ask_of (tiny_step flash) c.state ≡ ask.Reading → (k : ℕ) (r : PinReading) → c.taken ≡ suc k → slice_get readings k ≡ Some r →
      bit_of (slice_index c.state.store.latches 1) 1 ≡ bit_of (slice_index r.levels 1) 0

-- every run of the words copies, whatever stands behind them in flash
abbrev pub Copies : List ℕ → ℕ → ℕ → Type 0
Copies words cycles boot =
    (rest : List ℕ) (m : TinyState) (readings : List PinReading) (answers : List Bool) → IsReset m →
    (n : ℕ) (c : Moment TinyState) → moment (tiny_step (words ++ rest)) n (first_moment m readings answers) ≡ Some c →
    CopiesAt (words ++ rest) readings cycles boot c
