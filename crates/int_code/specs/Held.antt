-- What a state of lists holds.
use Rattle.std.specs.Prelude.{◌≡◌, ◌+◌, ◌*◌, pos, false, length, slice_index_or}
use Rattle.std.specs.Option.{option_map, option_to_list}
use Rattle.ladder_meaning.specs.State as ladder
use Rattle.ladder_meaning.specs.declared.reading.Reading.{Reading}
use Rattle.int_code.specs.declared.limits.TheConstants.{MOST_PERSISTENT}
use Rattle.int_code.specs.declared.range.Counts.{Counts}
use Rattle.int_code.specs.declared.state.Devices as held
use Rattle.int_code.specs.declared.state.Pending as waiting
use Rattle.int_code.specs.declared.state.State.{State}
use Rattle.int_code.specs.Store.{Devices, Store}
use Rattle.int_code.specs.WellFormed.{Sizes}

abbrev pub pending_of : waiting.Pending → ladder.Pending
pending_of p = record { address = 2 * p.variable + 1; byte = p.byte }

abbrev pub devices_of : held.Devices → Devices
devices_of d = record {
  eeprom = λ k. slice_index_or d.eeprom k 0;
  pending = option_map pending_of d.pending;
  duty = pos d.duty;
  sending = d.sending;
  writing = d.writing;
  received = d.received;
  sent = option_to_list d.sent;
}

-- what the lists hold; past their ends all is false and 0
abbrev pub store_of : State → Store
store_of s = record {
  bit = λ k. slice_index_or s.bits.items k false;
  output = λ k. slice_index_or s.outputs.items k false;
  number = λ k. slice_index_or s.numbers.items k (pos 0);
  devices = devices_of s.devices;
}

-- the sizes of what a run is given
abbrev pub held_sizes : Reading → State → Sizes
held_sizes r s = record {
  bits = length s.bits.items;
  outputs = length s.outputs.items;
  inputs = length r.inputs;
  analogs = length r.analog;
  variables = length s.numbers.items;
  persistent = MOST_PERSISTENT;
}

-- those of a state alone, with no reading
abbrev pub state_sizes : State → Sizes
state_sizes s = record {
  bits = length s.bits.items;
  outputs = length s.outputs.items;
  inputs = 0;
  analogs = 0;
  variables = length s.numbers.items;
  persistent = MOST_PERSISTENT;
}

-- the state that a run leaves has the sizes of that which it found
pub record SameSizes (old new : State) : Type 0 where
  pub bits : length new.bits.items ≡ length old.bits.items
  pub outputs : length new.outputs.items ≡ length old.outputs.items
  pub numbers : length new.numbers.items ≡ length old.numbers.items

abbrev pub counted : Counts → Sizes
counted n = record { bits = n.bits; outputs = n.outputs; inputs = n.inputs; analogs = n.analogs; variables = n.variables; persistent = n.persistent }
