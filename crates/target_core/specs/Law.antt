-- What a chip proves of its code for each primitive.
use Rattle.std.specs.Prelude.{◌≡◌, ◌≢◌, ℕ, suc, ◌+◌, ◌≤◌, ◌<◌, ◌⊎◌, List, [], ◌∷◌, ◌++◌, Option, Some, None, Bool, true, false, not, slice_get, slice_index, length}
use Rattle.chip_tables.specs.Outside.{no_reading}
use Rattle.chip_tables.specs.declared.outside.PinReading.{PinReading}
use Rattle.runs.specs.Run.{Went, Stepper, ask_of}
use Rattle.runs.specs.declared.ask.Ask.TheVariants as ask
use Rattle.byte_code.specs.declared.prim.BytePrim.{BytePrim}
use Rattle.byte_code.specs.declared.prim.Paced.{Paced}
use Rattle.byte_code.specs.declared.state.Bytes.{Bytes}
use Rattle.byte_code.specs.declared.prim.Shape.{Shape}
use Rattle.byte_code.specs.declared.prim.Shape.TheVariants.{AtStart, AtPoll, AtDevice, Names, Jumps, Branches, Calls, Returns, Straight}
use Rattle.byte_code.specs.Table.{shape_of}
use Rattle.byte_code.specs.Machine.{label_place, act, asked_by}
use Rattle.byte_code.specs.Counts.{Fits}

-- these words stand at this place
abbrev pub HasAt : List ℕ → ℕ → List ℕ → Type 0
HasAt flash at [] = Unit {0}
HasAt flash at (w ∷ ws) = (slice_get flash at ≡ Some w) × HasAt flash (suc at) ws

-- From m, steps that ask for nothing lead to a machine of T, in at most so many cycles, and send these bytes.
pub data Leads {M : Type 0} (step : Stepper M) (T : M → Type 0) : M → ℕ → List ℕ → Type 0 where
  here : {m : M} {budget : ℕ} → T m → Leads step T m budget []
  on : {m : M} {budget : ℕ} {rest : List ℕ} (w : Went M) (left : ℕ) → ask_of step m ≡ ask.Nothing → step m false no_reading ≡ Some w →
      w.cycles + left ≤ budget → Leads step T w.next left rest → Leads step T m budget (w.sent ++ rest)

-- the same from behind a step, whose outcome is o
pub record LeadsFrom {M : Type 0} (step : Stepper M) (T : M → Type 0) (o : Option (Went M)) (budget : ℕ) (sent : List ℕ) : Type 0 where
  pub went : Went M
  pub is : o ≡ Some went
  pub left : ℕ
  pub bound : went.cycles + left ≤ budget
  pub rest : List ℕ
  pub said : sent ≡ went.sent ++ rest
  pub further : Leads step T went.next left rest

-- From m, a step and more lead to a machine that stands for what the step of s comes to. Or none does, and m itself stands for it: then the byte
-- step sends nothing and goes on at the primitive behind.
abbrev pub Moves : {M : Type 0} → Stepper M → (M → Bytes → Type 0) → M → ℕ → Bytes → Went Bytes → Type 0
Moves step stands m budget s w =
    ((ask_of step m ≡ ask.Nothing) × LeadsFrom step (λ m'. stands m' w.next) (step m false no_reading) budget w.sent)
    ⊎ ((w.next.place ≡ suc s.place) × (w.sent ≡ []) × stands m w.next)

-- the label where a primitive goes on, or may
abbrev pub named_in : Shape → Option ℕ
named_in (Jumps l) = Some l
named_in (Branches l) = Some l
named_in (Calls l) = Some l
named_in AtStart = None
named_in AtPoll = None
named_in AtDevice = None
named_in (Names l) = None
named_in Returns = None
named_in Straight = None

abbrev pub label_named : BytePrim → Option ℕ
label_named p = named_in (shape_of p)

abbrev pub starts_in : Shape → Bool
starts_in AtStart = true
starts_in AtPoll = false
starts_in AtDevice = false
starts_in (Names l) = false
starts_in (Jumps l) = false
starts_in (Branches l) = false
starts_in (Calls l) = false
starts_in Returns = false
starts_in Straight = false

abbrev pub is_start : BytePrim → Bool
is_start p = starts_in (shape_of p)

-- a label takes no words; every other primitive has some
abbrev pub has_words_in : Shape → Bool
has_words_in (Names l) = false
has_words_in AtStart = true
has_words_in AtPoll = true
has_words_in AtDevice = true
has_words_in (Jumps l) = true
has_words_in (Branches l) = true
has_words_in (Calls l) = true
has_words_in Returns = true
has_words_in Straight = true

abbrev pub has_words : BytePrim → Bool
has_words p = has_words_in (shape_of p)

-- A chip's machine, and what its code for each primitive means.
pub record Target (M : Type 0) : Type 1 where
  -- the machine's step, with these words in its flash
  pub step : List ℕ → Stepper M
  -- it stands for the byte state, whose primitives have these places in flash
  pub stands : List ℕ → M → Bytes → Type 0
  -- the same inside this poll, where it asks
  pub awaits : List ℕ → BytePrim → M → Bytes → Type 0
  -- it has what the byte state has, wherever it is
  pub shows : M → Bytes → Type 0
  pub admits : BytePrim → Type 0
  -- the words of its flash
  pub size : ℕ
  pub words_in : BytePrim → ℕ
  pub cycles_in : BytePrim → ℕ
  -- of a poll, the cycles before it first asks, and those from the step that is answered that it is ready
  pub enter_in : BytePrim → ℕ
  pub leave_in : BytePrim → ℕ
  -- the words at a place, by the places of the labels
  pub emitted : BytePrim → ℕ → List ℕ → List ℕ
  -- a reading that the outside may give
  pub reads : PinReading → Type 0
  -- the cycles of each answer that is not ready
  pub wait : ℕ

-- Code in flash: its primitives, the place in flash of each, with the number of all words behind them, the places of the labels by their numbers, and
-- the words of the flash.
pub record Layout : Type 0 where
  pub code : List Paced
  pub places : List ℕ
  pub labels : List ℕ
  pub flash : List ℕ

-- The primitive p at the place of s is in flash, may be begun there, and its label has a place.
pub record IsReady {M : Type 0} (t : Target M) (lay : Layout) (s : Bytes) (p : BytePrim) : Type 0 where
  pub admitted : t.admits p
  pub loaded : HasAt lay.flash (slice_index lay.places s.place) (t.emitted p (slice_index lay.places s.place) lay.labels)
  pub next : slice_index lay.places (suc s.place) ≡ slice_index lay.places s.place + t.words_in p
  pub inside : slice_index lay.places (suc s.place) ≤ t.size
  pub label : (l : ℕ) → label_named p ≡ Some l →
      (slice_index lay.labels l ≡ slice_index lay.places (label_place lay.code l)) × (slice_index lay.labels l < t.size)
  pub begins : s.started ≡ not (is_start p)
  pub fits : Fits p s

-- The law of one primitive, wherever it stands.
pub record MachineLaw {M : Type 0} (t : Target M) : Type 0 where
  -- one that asks for nothing leads to its next byte state
  pub plain : (lay : Layout) (m : M) (s : Bytes) (p : BytePrim) → IsReady t lay s p →
      asked_by p ≡ ask.Nothing → slice_index lay.places (act lay.code p s false no_reading).next.place < t.size → t.stands lay.places m s →
      Moves (t.step lay.flash) (t.stands lay.places) m (t.cycles_in p) s (act lay.code p s false no_reading)
  -- a poll comes to where it asks
  pub enters : (lay : Layout) (m : M) (s : Bytes) (p : BytePrim) → IsReady t lay s p →
      asked_by p ≢ ask.Nothing → t.stands lay.places m s → Leads (t.step lay.flash) (λ m'. t.awaits lay.places p m' s) m (t.enter_in p) []
  -- there it asks for what the primitive asks
  pub asks : (lay : Layout) (m : M) (s : Bytes) (p : BytePrim) → IsReady t lay s p →
      asked_by p ≢ ask.Nothing → t.awaits lay.places p m s → ask_of (t.step lay.flash) m ≡ asked_by p
  -- an answer that is not ready leads back to there
  pub waits : (lay : Layout) (m : M) (s : Bytes) (p : BytePrim) → IsReady t lay s p →
      asked_by p ≢ ask.Nothing → t.awaits lay.places p m s →
      LeadsFrom (t.step lay.flash) (λ m'. t.awaits lay.places p m' s) (t.step lay.flash m false no_reading) t.wait []
  -- a ready one ends the primitive
  pub leaves : (lay : Layout) (m : M) (s : Bytes) (p : BytePrim) (r : PinReading) → (asked_by p ≡ ask.Reading → t.reads r) →
      IsReady t lay s p → asked_by p ≢ ask.Nothing → slice_index lay.places (act lay.code p s true r).next.place < t.size → t.awaits lay.places p m s →
      LeadsFrom (t.step lay.flash) (λ m'. t.stands lay.places m' (act lay.code p s true r).next) (t.step lay.flash m true r) (t.leave_in p) []
  -- what is emitted has as many words as the primitive
  pub sized : (p : BytePrim) (at : ℕ) (labels : List ℕ) → t.admits p → length (t.emitted p at labels) ≡ t.words_in p
  -- only labels may have none
  pub worded : (p : BytePrim) → t.admits p → has_words p ≡ true → 0 < t.words_in p
  -- the two parts of a poll together are within its cycles
  pub within : (p : BytePrim) → asked_by p ≢ ask.Nothing → t.enter_in p + t.leave_in p ≤ t.cycles_in p
  -- where it asks, the machine shows the byte state
  pub shown : (places : List ℕ) (p : BytePrim) (m : M) (s : Bytes) → t.awaits places p m s → t.shows m s
