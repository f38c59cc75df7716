-- A step of a chip's written machine, for any state of it.
use Rattle.std.specs.Prelude.{ℕ, List}
use Rattle.chip_tables.specs.declared.outside.Env.{Env}
use Rattle.chip_tables.specs.declared.outside.StepEnd.{StepEnd}
use Rattle.chip_tables.specs.declared.outside.StepEnd.TheVariants.{Went, Stuck}

-- a machine after a step, and how the step ended
pub record Stepped (M : Type 0) : Type 0 where
  pub state : M
  pub end : StepEnd

-- one step, by the words of program flash and what the chip meets
abbrev pub Step : Type 0 → Type 0
Step M = List ℕ → Env → M → Stepped M

-- where there was no step, this holds
abbrev pub OnStuck : StepEnd → Type 0 → Type 0
OnStuck (Went w) P = Unit {0}
OnStuck (Stuck at) P = P
