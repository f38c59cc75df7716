-- Runs of a machine under a drive.
--
-- A machine takes deterministic steps. Some of its states ask the outside for something: whether a device is ready, or whether the cycle timer
-- has come to its end, which brings the reading of a new cycle. A drive says what the outside does: a list of answers, each ready or not, of which
-- every asking step takes the next one, and a list of readings, of which a step takes the next one where it asks for a reading and is answered
-- that it is ready. A step that asks for nothing, or is answered that nothing is ready, sees the reading that shows nothing. A run ends where the drive has no
-- answer or no reading left for a step that takes one.
--
-- Segment 0 is what runs before the first reading is taken. Segment k begins with the step that takes reading k, and lasts up to the step that
-- takes the next one: it is cycle k, with the wait for the reading after it.
use Rattle.std.specs.Prelude.{◌≡◌, ℕ, zero, suc, ◌+◌, List, [], ◌∷◌, ◌++◌, Option, Some, None, Bool, true, false}
use Rattle.chip_tables.specs.declared.outside.PinReading.{PinReading}
use Rattle.chip_tables.specs.Outside.{no_reading}
use Rattle.chip_tables.specs.declared.outside.Poll.{Poll}
use Rattle.chip_tables.specs.declared.outside.Poll.TheVariants.{NoPoll, CycleReady, CycleNotReady, CycleStill, DeviceNotReady}
use Rattle.runs.specs.declared.ask.Ask.{Ask}
use Rattle.runs.specs.declared.ask.Ask.TheVariants as ask

-- What one step comes to: the next state, the cycles that passed, whom it asked and with what answer, and the bytes that it sent.
pub record Went (M : Type 0) : Type 0 where
  pub next : M
  pub cycles : ℕ
  pub poll : Poll
  pub sent : List ℕ

-- A step, by whether the outside is ready and by the reading that it then brings. None: there is no step.
abbrev pub Stepper : Type 0 → Type 0
Stepper M = M → Bool → PinReading → Option (Went M)

-- a step that finds a device not ready asked the device
abbrev pub device_asked : Poll → Ask
device_asked DeviceNotReady = ask.Device
device_asked NoPoll = ask.Nothing
device_asked CycleReady = ask.Nothing
device_asked CycleNotReady = ask.Nothing
device_asked CycleStill = ask.Nothing

abbrev pub device_ask : {M : Type 0} → Option (Went M) → Ask
device_ask None = ask.Nothing
device_ask (Some w) = device_asked w.poll

-- a step that finds the cycle timer at its end asked for a reading
abbrev pub reading_asked : Poll → Ask → Ask
reading_asked CycleReady other = ask.Reading
reading_asked NoPoll other = other
reading_asked CycleNotReady other = other
reading_asked CycleStill other = other
reading_asked DeviceNotReady other = other

abbrev pub reading_ask : {M : Type 0} → Option (Went M) → Ask → Ask
reading_ask None other = other
reading_ask (Some w) other = reading_asked w.poll other

-- A state asks for a reading where its step with a ready answer finds the cycle timer at its end, and asks a device where its step with an answer
-- that is not ready finds the device not ready.
unfoldable pub ask_of : {M : Type 0} → Stepper M → M → Ask
ask_of step m = reading_ask (step m true no_reading) (device_ask (step m false no_reading))

-- A moment of a run: the state, what is left of the drive, how many readings were taken, which is the segment's number, and of the segment so
-- far its cycles, its answers that were not ready, and the bytes that it sent.
pub record Moment (M : Type 0) : Type 0 where
  pub state : M
  pub readings : List PinReading
  pub answers : List Bool
  pub taken : ℕ
  pub cost : ℕ
  pub waits : ℕ
  pub sent : List ℕ

-- What comes behind a moment: the drive has nothing left that the next step takes, or there is no step, or the next moment.
pub data Onward (X : Type 0) : Type 0 where
  DriveEnds : Onward X
  IsStuck : Onward X
  Goes : X → Onward X

-- behind a step within the segment, with so many more waits and this left of the answers
abbrev pub within : {M : Type 0} → Moment M → ℕ → List Bool → Option (Went M) → Onward (Moment M)
within c more answers None = IsStuck
within c more answers (Some w) =
    Goes (record {
      state = w.next;
      readings = c.readings;
      answers = answers;
      taken = c.taken;
      cost = c.cost + w.cycles;
      waits = c.waits + more;
      sent = c.sent ++ w.sent;
    })

-- behind the step that takes a reading: a segment begins
abbrev pub taking : {M : Type 0} → Moment M → List PinReading → List Bool → Option (Went M) → Onward (Moment M)
taking c readings answers None = IsStuck
taking c readings answers (Some w) =
    Goes (record {
      state = w.next;
      readings = readings;
      answers = answers;
      taken = c.taken + 1;
      cost = w.cycles;
      waits = 0;
      sent = w.sent;
    })

-- by what the state asks for, the readings that are left, and the answers that are left
abbrev pub answered : {M : Type 0} → Stepper M → Moment M → Ask → List PinReading → List Bool → Onward (Moment M)
answered step c ask.Nothing rs bs = within c 0 bs (step c.state false no_reading)
answered step c ask.Device rs [] = DriveEnds
answered step c ask.Device rs (true ∷ bs) = within c 0 bs (step c.state true no_reading)
answered step c ask.Device rs (false ∷ bs) = within c 1 bs (step c.state false no_reading)
answered step c ask.Reading rs [] = DriveEnds
answered step c ask.Reading rs (false ∷ bs) = within c 1 bs (step c.state false no_reading)
answered step c ask.Reading [] (true ∷ bs) = DriveEnds
answered step c ask.Reading (r ∷ rs) (true ∷ bs) = taking c rs bs (step c.state true r)

unfoldable pub onward : {M : Type 0} → Stepper M → Moment M → Onward (Moment M)
onward step c = answered step c (ask_of step c.state) c.readings c.answers

abbrev pub then_at : {X : Type 0} → (X → Option X) → Onward X → Option X
then_at go DriveEnds = None
then_at go IsStuck = None
then_at go (Goes x) = go x

-- The moment so many steps behind this one, where the run comes so far.
abbrev pub moment : {M : Type 0} → Stepper M → ℕ → Moment M → Option (Moment M)
moment step zero c = Some c
moment step (suc n) c = then_at (moment step n) (onward step c)

-- The first moment of the run from a state under a drive.
abbrev pub first_moment : {M : Type 0} → M → List PinReading → List Bool → Moment M
first_moment m readings answers = record { state = m; readings = readings; answers = answers; taken = 0; cost = 0; waits = 0; sent = [] }

-- What goes from each moment to the next.
abbrev pub IsKept : {M : Type 0} → Stepper M → (Moment M → Type 0) → Type 0
IsKept {M} step T = (c d : Moment M) → T c → onward step c ≡ Goes d → T d
