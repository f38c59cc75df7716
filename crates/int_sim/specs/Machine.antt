-- A program that runs, and what it shows of a project's names.
use Rattle.std.specs.Prelude.{◌≡◌, ◌<◌, ◌≤◌, ◌^◌, length, None, unsigned_abs}
use Rattle.ladder_tree.specs.declared.names.Names.{Names}
use Rattle.ladder_meaning.specs.declared.reading.View.{View}
use Rattle.ladder_meaning.specs.View.{firsts, sent_of, bytes_of}
use Rattle.ladder_trace.specs.Duty.{duty_as, shown_where}
use Rattle.ladder_trace.specs.declared.duty.DutyShown.{DutyShown}
use Rattle.int_code.specs.Held.{store_of}
use Rattle.int_code.specs.Store.{Store}
use Rattle.int_code.specs.Uses.{has_pwm}
use Rattle.int_code.specs.WellFormed.{IsWellFormed}
use Rattle.int_code.specs.declared.limits.TheConstants.{MOST_PERSISTENT}
use Rattle.int_code.specs.declared.op.IntProgram.{IntProgram}
use Rattle.int_code.specs.declared.state.State.{State}

-- a program, and what its operations wrote
pub record Running : Type 0 where
  pub program : IntProgram
  pub state : State

-- the state as the meaning of operations has it
abbrev pub state_of : Running → Store
state_of m = store_of m.state

-- the program is well formed, an EEPROM has room for its persistent variables, and operations can be counted
pub record IsRunnable (p : IntProgram) : Type 0 where
  pub well_formed : IsWellFormed p
  pub persistent : p.persistent ≤ MOST_PERSISTENT
  pub length : length p.ops < 2 ^ 31

-- the state has the sizes of the program
pub record IsWhole (m : Running) : Type 0 where
  pub runnable : IsRunnable m.program
  pub bits : length m.state.bits.items ≡ m.program.bits
  pub outputs : length m.state.outputs.items ≡ m.program.outputs
  pub numbers : length m.state.numbers.items ≡ m.program.variables

-- names that have places in the program: the first bits are the relays
pub record HasPlaces (n : Names) (p : IntProgram) : Type 0 where
  pub outputs : length n.outputs ≡ p.outputs
  pub variables : length n.variables ≡ p.variables
  pub relays : length n.relays ≤ p.bits

-- What a program shows of the names, and of the devices: the duty as it is told to.
abbrev pub view_by : DutyShown → Names → IntProgram → Store → View
view_by duty n p t = record {
  outputs = firsts p.outputs t.output;
  relays = firsts (length n.relays) t.bit;
  variables = firsts p.variables t.number;
  pwm = duty_as duty (unsigned_abs t.devices.duty);
  sent = sent_of t.devices.sent;
  eeprom = bytes_of p.persistent t.devices.eeprom;
}

-- the duty is shown as it is, where an operation sets it
abbrev pub view_of : Names → IntProgram → Store → View
view_of n p t = view_by (shown_where (has_pwm p.ops) None) n p t
