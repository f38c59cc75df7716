-- Code that is laid out in flash, in whatever form, and the law of its pieces.
use Rattle.std.specs.Prelude.{◌≡◌, ◌≢◌, ℕ, zero, suc, ◌+◌, ◌*◌, ◌≤◌, List, [], ◌++◌, Some, Bool, true, false, not, map, slice_get}
use Rattle.chip_tables.specs.Outside.{no_reading}
use Rattle.chip_tables.specs.declared.outside.PinReading.{PinReading}
use Rattle.runs.specs.Run.{Stepper, ask_of, Moment, moment, first_moment, onward, IsStuck}
use Rattle.runs.specs.declared.ask.Ask.TheVariants as ask
use Rattle.byte_code.specs.declared.prim.Paced.{Paced}
use Rattle.byte_code.specs.declared.state.Bytes.{Bytes}
use Rattle.byte_code.specs.declared.prim.Shape.TheVariants.{AtPoll}
use Rattle.byte_code.specs.Table.{shape_of}
use Rattle.byte_code.specs.Machine.{act, asked_by}
use Rattle.byte_code.specs.Counts.{Counted, counted_step, uncounted, Fits}
use Rattle.target_core.specs.Law.{Leads, LeadsFrom, Moves, is_start, has_words}

-- what a segment may cost: the first one as the boot, each later one as a cycle
abbrev pub segment_bound : ℕ → ℕ → ℕ → ℕ
segment_bound zero cycles boot = boot
segment_bound (suc k) cycles boot = cycles

-- A primitive with the cycles of the form in which it stands: all of them, and of a poll those before it first asks, and those from the step that
-- is answered that it is ready.
pub record Form : Type 0 where
  pub paced : Paced
  pub cycles : ℕ
  pub enter : ℕ
  pub leave : ℕ

-- a machine over one flash, and what its states stand for under one layout
pub record Laid (M : Type 0) : Type 1 where
  pub step : Stepper M
  pub stands : M → Bytes → Type 0
  pub awaits : M → Bytes → Type 0
  pub shows : M → Bytes → Type 0
  pub reads : PinReading → Type 0
  pub wait : ℕ

abbrev pub paced_of : List Form → List Paced
paced_of forms = map (λ f. f.paced) forms

-- at the place or behind it stands a primitive that has words
abbrev pub IsFollowed : List Paced → ℕ → Type 0
IsFollowed code place = (k : ℕ) × (q : Paced) × (slice_get code k ≡ Some q) × (has_words q.prim ≡ true) × (place ≤ k)

-- the form f is next in s, and may be begun there
pub record MayBegin (forms : List Form) (s : Bytes) (f : Form) : Type 0 where
  pub at : slice_get forms s.place ≡ Some f
  pub begins : s.started ≡ not (is_start f.paced.prim)
  pub fits : Fits f.paced.prim s

-- The law of one form, where it stands.
pub record LaidLaw {M : Type 0} (l : Laid M) (code : List Paced) (forms : List Form) : Type 0 where
  pub plain : (m : M) (s : Bytes) (f : Form) → MayBegin forms s f → asked_by f.paced.prim ≡ ask.Nothing →
      IsFollowed code (act code f.paced.prim s false no_reading).next.place → l.stands m s →
      Moves l.step l.stands m f.cycles s (act code f.paced.prim s false no_reading)
  pub enters : (m : M) (s : Bytes) (f : Form) → MayBegin forms s f → asked_by f.paced.prim ≢ ask.Nothing → l.stands m s →
      Leads l.step (λ m'. l.awaits m' s) m f.enter []
  pub asks : (m : M) (s : Bytes) (f : Form) → MayBegin forms s f → asked_by f.paced.prim ≢ ask.Nothing → l.awaits m s → ask_of l.step m ≡ asked_by f.paced.prim
  pub waits : (m : M) (s : Bytes) (f : Form) → MayBegin forms s f → asked_by f.paced.prim ≢ ask.Nothing → l.awaits m s →
      LeadsFrom l.step (λ m'. l.awaits m' s) (l.step m false no_reading) l.wait []
  pub leaves : (m : M) (s : Bytes) (f : Form) (r : PinReading) → (asked_by f.paced.prim ≡ ask.Reading → l.reads r) → MayBegin forms s f →
      asked_by f.paced.prim ≢ ask.Nothing → IsFollowed code (act code f.paced.prim s true r).next.place → l.awaits m s →
      LeadsFrom l.step (λ m'. l.stands m' (act code f.paced.prim s true r).next) (l.step m true r) f.leave []
  pub within : (i : ℕ) (f : Form) → slice_get forms i ≡ Some f → asked_by f.paced.prim ≢ ask.Nothing → f.enter + f.leave ≤ f.cycles
  pub shown : (m : M) (s : Bytes) → l.awaits m s → l.shows m s

-- the machine shows the byte state, which is at a cycle poll, and all bytes are sent
pub record LaidShows {M : Type 0} (l : Laid M) (code : List Paced) (c : Moment M) (b : Moment Counted) : Type 0 where
  pub shows : l.shows c.state b.state.bytes
  pub sent : c.sent ≡ b.sent
  pub poll : (p : Paced) × (slice_get code b.state.bytes.place ≡ Some p) × (shape_of p.prim ≡ AtPoll)

-- The two moments have the same drive behind them, the machine sent a beginning of the bytes, and where it asks for a reading it shows the byte state.
pub record LaidStands {M : Type 0} (l : Laid M) (code : List Paced) (c : Moment M) (b : Moment Counted) : Type 0 where
  pub readings : c.readings ≡ b.readings
  pub answers : c.answers ≡ b.answers
  pub taken : c.taken ≡ b.taken
  pub waits : c.waits ≡ b.waits
  pub sent : (later : List ℕ) × (c.sent ++ later ≡ b.sent)
  pub asks : ask_of l.step c.state ≡ ask.Reading → LaidShows l code c b

-- At this moment the machine is not stuck, its segment cost no more than it may, and it stands for a moment of the byte run from s.
pub record LaidHolds {M : Type 0} (l : Laid M) (code : List Paced) (s : Bytes) (readings : List PinReading) (answers : List Bool)
    (cycles boot : ℕ) (c : Moment M) : Type 0 where
  pub not_stuck : onward l.step c ≢ IsStuck
  pub cost : c.cost ≤ segment_bound c.taken cycles boot + l.wait * c.waits
  pub bytes : (j : ℕ) × (b : Moment Counted) × (moment (counted_step code) j (first_moment (uncounted s) readings answers) ≡ Some b) × LaidStands l code c b
