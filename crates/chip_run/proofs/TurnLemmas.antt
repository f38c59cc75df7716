-- The turns of a cycle, one by one.
use Rattle.std.proofs.Common.{◌≡◌, ℕ, ◌+◌, ◌-◌, ◌<◌, ◌≤◌, Bool, true, false, List, Option, Some, None, refl, add-one, arith}
use Rattle.std.specs.Prelude.{nat_le}
use Rattle.std.specs.Option.{option_or}
use Rattle.std.proofs.lemmas.Bool.Decides.{nat_tests}
use Rattle.chip_tables.specs.Step.{Step}
use Rattle.chip_tables.specs.declared.outside.StepEnd.TheVariants as step_end
use Rattle.chip_tables.specs.declared.outside.StuckAt.{StuckAt}
use Rattle.chip_tables.specs.declared.outside.Went.{Went}
use Rattle.runs.specs.Chip.{steps_over}
use Rattle.runs.specs.Run.{ask_of}
use Rattle.chip_run.specs.declared.end.CycleEnd.TheVariants as cycle
use Rattle.chip_run.specs.Replay.{comes_to, answer, answered, without_reading}

module _ {M : Type 0} (step : Step M) (flash : List ℕ) (limit : ℕ) where
  -- one of the turns that are left
  one_turn : (n k : ℕ) (m : M) (cost : ℕ) (sent : Option ℕ) → k < n
      → comes_to step flash limit (n - k) m cost sent
      ≡ answered (comes_to step flash limit (n - (k + 1))) step flash limit m cost sent (answer (ask_of (steps_over step flash) m))
  one_turn n k m cost sent lt =
      let e : n - k ≡ n - (k + 1) + 1 = omega arith in
      rw (e, add-one (n - (k + 1))) refl

  -- where the state asks for a reading the turn is the last
  pub turn_asks : (n k : ℕ) (m : M) (cost : ℕ) (sent : Option ℕ) → k < n → None ≡ answer (ask_of (steps_over step flash) m)
      → comes_to step flash limit (n - k) m cost sent ≡ record { state = m; end = cycle.Asks sent }
  turn_asks n k m cost sent lt asks = rw (one_turn n k m cost sent lt, ← asks) refl

  -- where no cycles are left, too
  pub turn_late : (n k : ℕ) (m : M) (cost : ℕ) (sent : Option ℕ) (ready : Bool) → k < n → Some ready ≡ answer (ask_of (steps_over step flash) m)
      → limit ≤ cost → comes_to step flash limit (n - k) m cost sent ≡ record { state = m; end = cycle.Late }
  turn_late n k m cost sent ready lt asks late =
      let test : nat_le limit cost ≡ true = grind (arith, nat_tests) in
      rw (one_turn n k m cost sent lt, ← asks, test) refl

  -- where there is no step, too
  pub turn_stuck : (n k : ℕ) (m : M) (cost : ℕ) (sent : Option ℕ) (ready : Bool) (at : StuckAt) → k < n
      → Some ready ≡ answer (ask_of (steps_over step flash) m) → cost < limit → step_end.Stuck at ≡ (step flash (without_reading ready) m).end
      → comes_to step flash limit (n - k) m cost sent ≡ record { state = (step flash (without_reading ready) m).state; end = cycle.Stuck at }
  turn_stuck n k m cost sent ready at lt asks early end =
      let test : nat_le limit cost ≡ false = grind (arith, nat_tests) in
      rw (one_turn n k m cost sent lt, ← asks, test, ← end) refl

  -- a step takes the next turn from behind it
  pub turn_went : (n k : ℕ) (m : M) (cost : ℕ) (sent : Option ℕ) (ready : Bool) (w : Went) → k < n
      → Some ready ≡ answer (ask_of (steps_over step flash) m) → cost < limit → step_end.Went w ≡ (step flash (without_reading ready) m).end
      → comes_to step flash limit (n - k) m cost sent
      ≡ comes_to step flash limit (n - (k + 1)) (step flash (without_reading ready) m).state (cost + w.cycles) (option_or sent w.sent)
  turn_went n k m cost sent ready w lt asks early end =
      let test : nat_le limit cost ≡ false = grind (arith, nat_tests) in
      rw (one_turn n k m cost sent lt, ← asks, test, ← end) refl
