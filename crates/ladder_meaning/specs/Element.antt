-- What an element does.
use Rattle.std.specs.Prelude.{ℕ, zero, suc, Bool, true, false, not, ◌&&◌, List, ◌++◌, ℤ, pos, if◌then◌else◌, Option, None, Some}
use Rattle.std.specs.Fmt.{decimal}
use Rattle.ladder_tree.specs.declared.element.LeafKind.{LeafKind}
use Rattle.ladder_tree.specs.declared.element.LeafKind.TheVariants.{Contacts, Coil, Osr, Osf, Short, Open, MasterRelay, Placeholder, Comment, Timer, Counter, Reset, Move, Math, Compare, Shift, Table, ReadAdc, SetPwm, Recv, Send, Persist, Linear, Formatted}
use Rattle.ladder_tree.specs.declared.element.CoilMode.{CoilMode}
use Rattle.ladder_tree.specs.declared.element.CoilMode.TheVariants as mode
use Rattle.ladder_tree.specs.declared.element.CounterHow.{CounterHow}
use Rattle.ladder_tree.specs.declared.element.Operand.{Operand}
use Rattle.ladder_tree.specs.declared.element.Operand.TheVariants.{Var, Num}
use Rattle.ladder_meaning.specs.Device.{Went, with_duty, receive, send}
use Rattle.ladder_meaning.specs.Numbers.{period, Timed, timed, counted, counter_output, computed, compares, value_at}
use Rattle.ladder_meaning.specs.Persist.{persist}
use Rattle.ladder_meaning.specs.State.{Seen, Now, with_bit, with_number, with_memory, with_master, value_of}

-- what elements need of their project: its cycle in microseconds, and its persistent names in order
pub record Terms : Type 0 where
  pub cycle : ℕ
  pub persistent : List (List ℕ)

abbrev pub operand : Now → Operand → ℤ
operand s (Var name) = s.kept.number name
operand s (Num n) = n

abbrev pub coil : CoilMode → List ℕ → Now → Bool → Now
coil mode.Plain name s power = with_bit s name power
coil mode.Negated name s power = with_bit s name (not power)
coil mode.Set name s power = if power then with_bit s name true else s
coil mode.Reset name s power = if power then with_bit s name false else s

-- the input becomes true: the memory has it as it was
abbrev pub rises : Now → ℕ → Bool → Bool
rises s k power = power && not (s.kept.memory k)

-- the variable gets the number where there is power
abbrev pub set_where : Bool → Now → List ℕ → ℤ → Now
set_where power s name n = if power then with_number s name n else s

abbrev pub timer : List ℕ → Now → Timed → Went
timer name s t = record { now = with_number s name t.number; output = t.output }

abbrev pub counter : CounterHow → List ℕ → ℤ → ℕ → Now → Bool → Went
counter how name max k s power =
    let after = set_where (rises s k power) s name (counted how max (s.kept.number name)) in
    record { now = with_memory after k power; output = counter_output how max (after.kept.number name) power }

-- from the last place to the first, each gets the number of the one before it
abbrev pub shifted : List ℕ → ℕ → Now → Now
shifted name zero s = s
shifted name (suc zero) s = s
shifted name (suc (suc k)) s = shifted name (suc k) (with_number s (name ++ decimal (suc k)) (s.kept.number (name ++ decimal k)))

abbrev pub looked_up : List ℕ → Now → Option ℤ → Now
looked_up dest s None = s
looked_up dest s (Some n) = with_number s dest n

-- an element behind k memories, on an input
abbrev pub element : Terms → Seen → LeafKind → ℕ → Now → Bool → Went
element p r (Contacts name neg) k s power = record { now = s; output = power && (if neg then not (value_of r s name) else value_of r s name) }
element p r (Coil name how) k s power = record { now = coil how name s power; output = power }
element p r Osr k s power = record { now = with_memory s k power; output = power && not (s.kept.memory k) }
element p r Osf k s power = record { now = with_memory s k power; output = not power && s.kept.memory k }
element p r Short k s power = record { now = s; output = power }
element p r Open k s power = record { now = s; output = false }
element p r MasterRelay k s power = record { now = with_master s (if s.master then power else true); output = power }
element p r Placeholder k s power = record { now = s; output = power }
element p r (Comment text) k s power = record { now = s; output = power }
element p r (Timer how name delay) k s power = timer name s (timed how (pos (period p.cycle delay)) (s.kept.number name) power)
element p r (Counter how name max) k s power = counter how name max k s power
element p r (Reset name) k s power = record { now = set_where power s name (pos 0); output = power }
element p r (Move dest src) k s power = record { now = set_where power s dest (operand s src); output = power }
element p r (Math how dest a b) k s power = record { now = set_where power s dest (computed how (operand s a) (operand s b)); output = power }
element p r (Compare how a b) k s power = record { now = s; output = power && compares how (operand s a) (operand s b) }
element p r (Shift name places) k s power = record { now = with_memory (if rises s k power then shifted name places s else s) k power; output = power }
element p r (Table dest index as_text values) k s power =
    record { now = if power then looked_up dest s (value_at values (operand s index)) else s; output = power }
element p r (ReadAdc name) k s power = record { now = set_where power s name (r.analog name); output = power }
element p r (SetPwm name hz) k s power = record { now = if power then with_duty s (s.kept.number name) else s; output = power }
element p r (Recv name) k s power = if power then receive name s s.received else record { now = s; output = false }
element p r (Send name) k s power = if power then record { now = send name s; output = (send name s).sending } else record { now = s; output = s.sending }
element p r (Persist name) k s power = record { now = if power then persist p.persistent name s else s; output = power }
-- these two do nothing yet
element p r (Linear dest index points) k s power = record { now = s; output = power }
element p r (Formatted name text) k s power = record { now = s; output = power }
