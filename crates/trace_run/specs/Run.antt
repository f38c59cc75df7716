-- What a program shows over a trace.
use Rattle.std.specs.Prelude.{◌≡◌, ℕ, ◌+◌, List, [], ◌∷◌, length, map}
use Rattle.ladder_tree.specs.declared.names.Names.{Names}
use Rattle.ladder_meaning.specs.declared.reading.Reading.{Reading}
use Rattle.ladder_trace.specs.Simulated.{readings, eeprom_of, lines_from}
use Rattle.ladder_trace.specs.declared.duty.DutyShown.{DutyShown}
use Rattle.ladder_trace.specs.declared.trace.Trace.{Trace}
use Rattle.int_code.specs.Meaning as int
use Rattle.int_code.specs.Store as store
use Rattle.int_code.specs.Store.{Store}
use Rattle.int_code.specs.declared.op.IntProgram.{IntProgram}
use Rattle.int_sim.specs.Machine.{Running, state_of, IsRunnable, HasPlaces, view_by}

-- how far a run came: how many cycles passed, and the state behind them
pub record Point : Type 0 where
  pub passed : ℕ
  pub store : Store

abbrev pub before : IntProgram → Trace → Point
before p trace = record { passed = 0; store = store.start p.starts (eeprom_of trace) }

-- the point behind more readings
abbrev pub behind : IntProgram → Point → List Reading → Point
behind p at [] = at
behind p at (r ∷ rs) = behind p (record { passed = at.passed + 1; store = (int.cycle r p.ops at.store).store }) rs

-- The line of each cycle from a point on: what the names and the devices show, with the duty as it is told to.
abbrev pub lines_of : DutyShown → Names → IntProgram → Point → List Reading → List ℕ
lines_of duty n p at rs = lines_from n at.passed (map (λ m. view_by duty n p m.store) (int.history p.ops at.store rs))

-- The line of each cycle of a trace, from the program's start.
abbrev pub run_lines : DutyShown → Names → IntProgram → Trace → List ℕ
run_lines duty n p trace = lines_of duty n p (before p trace) (readings trace.steps)

-- The line of each cycle of a trace, from where a simulator stands.
abbrev pub sim_lines : DutyShown → Names → Running → Trace → List ℕ
sim_lines duty n m trace = lines_of duty n m.program (record { passed = 0; store = state_of m }) (readings trace.steps)

-- a program whose sizes are those of the names
pub record IsProgramOf (n : Names) (p : IntProgram) : Type 0 where
  pub runs : IsRunnable p
  pub places : HasPlaces n p
  pub inputs : p.inputs ≡ length n.inputs
  pub analogs : p.analogs ≡ length n.analog
