-- What a ladder shows at the end of a cycle.
use Rattle.std.specs.Prelude.{ℕ, ◌*◌, Bool, true, false, List, [], ◌∷◌, ℤ, length, map, unsigned_abs, nat_eq, Option, None, Some, if◌then◌else◌}
use Rattle.std.specs.List.{list_any, range_with_len}
use Rattle.ladder_tree.specs.declared.names.Names.{Names}
use Rattle.ladder_meaning.specs.declared.reading.View.{View}
use Rattle.ladder_meaning.specs.Cycle.{Ended}

-- the first so many
abbrev pub firsts : {A : Type 0} → ℕ → (ℕ → A) → List A
firsts n f = map f (range_with_len 0 n)

-- the duty, where it is shown
abbrev pub duty_of : Bool → ℤ → Option ℕ
duty_of is_shown duty = if is_shown then Some (unsigned_abs duty) else None

-- the byte that was sent, if one was
abbrev pub sent_of : List ℕ → Option ℕ
sent_of [] = None
sent_of (byte ∷ bytes) = Some byte

-- two bytes for each persistent variable, where there are any
abbrev pub bytes_of : ℕ → (ℕ → ℕ) → Option (List ℕ)
bytes_of persistent eeprom = if nat_eq persistent 0 then None else Some (firsts (2 * persistent) eeprom)

-- What a ladder shows of its names, in their order, and of the devices: the duty only where it is told to.
abbrev pub view : Bool → Names → Ended → View
view shows_duty n e = record {
  outputs = map e.state.bit n.outputs;
  relays = map e.state.bit n.relays;
  variables = map e.state.number n.variables;
  pwm = duty_of shows_duty e.state.duty;
  sent = sent_of e.sent;
  eeprom = bytes_of (length n.persistent) e.state.eeprom;
}
