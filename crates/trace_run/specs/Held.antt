-- What a run holds.
use Rattle.std.specs.Prelude.{◌≡◌, ℕ, List}
use Rattle.ladder_meaning.specs.declared.reading.Reading.{Reading}
use Rattle.int_sim.specs.Machine.{state_of}
use Rattle.trace_run.specs.declared.run.Run.{Run}
use Rattle.trace_run.specs.Run.{Point, lines_of}

abbrev pub point_of : Run → Point
point_of r = record { passed = r.passed; store = state_of r.sim }

-- all but the point is the same
pub record IsSame (old new : Run) : Type 0 where
  pub names : new.names ≡ old.names
  pub duty : new.duty ≡ old.duty
  pub program : new.sim.program ≡ old.sim.program

-- the lines of readings from where a run stands
abbrev pub lines_behind : Run → List Reading → List ℕ
lines_behind r rs = lines_of r.duty r.names.now r.sim.program (point_of r) rs
