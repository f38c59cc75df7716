-- What a project's words do on a chip's written machine, reading by reading.
--
-- Every device is ready as soon as it is asked, and the cycle timer comes to its end as soon as the chip polls it.
use Rattle.std.specs.Prelude.{ℕ, zero, suc, ◌+◌, Bool, true, false, List, [], ◌∷◌, Option, Some, None, Result, Ok, Err, nat_le, if◌then◌else◌}
use Rattle.std.specs.Option.{option_or}
use Rattle.chip_tables.specs.Outside.{no_reading}
use Rattle.chip_tables.specs.Step.{Step, Stepped}
use Rattle.chip_tables.specs.declared.outside.Env.{Env}
use Rattle.chip_tables.specs.declared.outside.PinReading.{PinReading}
use Rattle.chip_tables.specs.declared.outside.StepEnd.{StepEnd}
use Rattle.chip_tables.specs.declared.outside.StepEnd.TheVariants.{Went, Stuck}
use Rattle.runs.specs.Chip.{steps_over}
use Rattle.runs.specs.Run.{ask_of}
use Rattle.runs.specs.declared.ask.Ask.{Ask}
use Rattle.runs.specs.declared.ask.Ask.TheVariants as ask
use Rattle.chip_run.specs.declared.end.CycleEnd.{CycleEnd}
use Rattle.chip_run.specs.declared.end.CycleEnd.TheVariants as cycle
use Rattle.chip_run.specs.declared.end.RunEnd.{RunEnd}
use Rattle.chip_run.specs.declared.end.RunEnd.TheVariants as run
use Rattle.chip_run.specs.declared.end.TheConstants.{CYCLES_MOST}

-- where a chip came to, and how it ended there
pub record Came (M : Type 0) : Type 0 where
  pub state : M
  pub end : CycleEnd

-- how to go on from a state, where so many cycles passed, and this was the first byte that was sent
abbrev pub Onward : Type 0 → Type 0
Onward M = M → ℕ → Option ℕ → Came M

abbrev pub behind_step : {M : Type 0} → Onward M → ℕ → Option ℕ → M → StepEnd → Came M
behind_step on cost sent next (Went w) = on next (cost + w.cycles) (option_or sent w.sent)
behind_step on cost sent next (Stuck at) = record { state = next; end = cycle.Stuck at }

abbrev pub stepped : {M : Type 0} → Onward M → ℕ → Option ℕ → Stepped M → Came M
stepped on cost sent s = behind_step on cost sent s.state s.end

-- what the machine meets where it takes no reading
abbrev pub without_reading : Bool → Env
without_reading ready = record { ready = ready; reading = no_reading }

-- what is answered to a state that takes no reading: a device is ready; to a state that asks for a reading nothing is
abbrev pub answer : Ask → Option Bool
answer ask.Nothing = Some false
answer ask.Device = Some true
answer ask.Reading = None

-- by the answer to the state
abbrev pub answered : {M : Type 0} → Onward M → Step M → List ℕ → ℕ → M → ℕ → Option ℕ → Option Bool → Came M
answered on step flash limit m cost sent None = record { state = m; end = cycle.Asks sent }
answered on step flash limit m cost sent (Some ready) =
    if nat_le limit cost then record { state = m; end = cycle.Late } else stepped on cost sent (step flash (without_reading ready) m)

-- How a chip comes from a state to the next one that asks for a reading, in so many turns at most and with a limit of cycles. A step takes a cycle at
-- least, so that `limit + 1` turns are always enough.
abbrev pub comes_to : {M : Type 0} → Step M → List ℕ → ℕ → ℕ → Onward M
comes_to step flash limit zero m cost sent = record { state = m; end = cycle.Late }
comes_to step flash limit (suc turns) m cost sent =
    answered (comes_to step flash limit turns) step flash limit m cost sent (answer (ask_of (steps_over step flash) m))

-- from reset
abbrev pub boot : {M : Type 0} → Step M → List ℕ → ℕ → M → Came M
boot step flash limit m = comes_to step flash limit (limit + 1) m 0 None

-- the cycle of a reading: the step that takes it, and what is behind it
abbrev pub cycle_of : {M : Type 0} → Step M → List ℕ → ℕ → M → PinReading → Came M
cycle_of step flash limit m r = stepped (comes_to step flash limit (limit + 1)) 0 None (step flash (record { ready = true; reading = r }) m)

-- a cycle that is done: the state at its end, and the first byte that it sent
pub record Done (M : Type 0) : Type 0 where
  pub state : M
  pub sent : Option ℕ

-- the cycles that are done, and how the run ended
pub record Replayed (M : Type 0) : Type 0 where
  pub cycles : List (Done M)
  pub end : RunEnd

abbrev pub ends : {M : Type 0} → RunEnd → Replayed M
ends e = record { cycles = []; end = e }

-- what the cycle of a number sent where it is done, or else how it ends the run
abbrev pub outcome : ℕ → CycleEnd → Result (Option ℕ) RunEnd
outcome k (cycle.Asks sent) = Ok sent
outcome k cycle.Late = Err (run.Late k)
outcome k (cycle.Stuck at) = Err (run.Stuck k at)

abbrev pub go_on : {M : Type 0} → (Option ℕ → Replayed M) → Result (Option ℕ) RunEnd → Replayed M
go_on on (Ok sent) = on sent
go_on on (Err e) = ends e

abbrev pub with_cycle : {M : Type 0} → M → Option ℕ → Replayed M → Replayed M
with_cycle m sent r = record { cycles = record { state = m; sent = sent } ∷ r.cycles; end = r.end }

-- the cycles of readings, behind so many
abbrev pub replay_from : {M : Type 0} → (M → PinReading → Came M) → ℕ → M → List PinReading → Replayed M
replay_from run_cycle k m [] = ends run.Done
replay_from run_cycle k m (r ∷ rs) =
    let c = run_cycle m r in
    go_on (λ sent. with_cycle c.state sent (replay_from run_cycle (k + 1) c.state rs)) (outcome (k + 1) c.end)

-- the run over readings with a limit of cycles for each
abbrev pub replay_within : {M : Type 0} → ℕ → Step M → List ℕ → M → List PinReading → Replayed M
replay_within limit step flash m rs =
    let c = boot step flash limit m in go_on (λ sent. replay_from (cycle_of step flash limit) 0 c.state rs) (outcome 0 c.end)

-- The run from reset over readings.
unfoldable pub replayed : {M : Type 0} → Step M → List ℕ → M → List PinReading → Replayed M
replayed step flash m rs = replay_within CYCLES_MOST step flash m rs
