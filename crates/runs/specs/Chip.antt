-- The step of a chip's written machine, as runs take it.
use Rattle.std.specs.Prelude.{ℕ, List, [], ◌∷◌, Option, Some, None}
use Rattle.chip_tables.specs.declared.outside.StepEnd.{StepEnd}
use Rattle.chip_tables.specs.declared.outside.StepEnd.TheVariants as step
use Rattle.chip_tables.specs.Step.{Step}
use Rattle.runs.specs.Run.{Stepper, Went}

abbrev pub bytes_of : Option ℕ → List ℕ
bytes_of None = []
bytes_of (Some byte) = byte ∷ []

-- what a step came to; where the machine is stuck there is none
abbrev pub went_to : {M : Type 0} → M → StepEnd → Option (Went M)
went_to next (step.Went w) = Some (record { next = next; cycles = w.cycles; poll = w.poll; sent = bytes_of w.sent })
went_to next (step.Stuck at) = None

-- a chip with these words in its flash
abbrev pub steps_over : {M : Type 0} → Step M → List ℕ → Stepper M
steps_over chip_step flash m ready r = let s = chip_step flash (record { ready = ready; reading = r }) m in went_to s.state s.end
