-- What the rules ask of a timer.
use Rattle.std.specs.Prelude.{ℕ, List, Option, Some, None}
use Rattle.ladder_tree.specs.declared.element.LeafKind.{LeafKind}
use Rattle.ladder_tree.specs.declared.element.LeafKind.TheVariants.{Contacts, Coil, Osr, Osf, Short, Open, MasterRelay, Placeholder, Comment, Timer, Counter, Reset, Move, Math, Compare, Shift, Table, ReadAdc, SetPwm, Recv, Send, Persist, Linear, Formatted}
use Rattle.ladder_tree.specs.declared.element.TimerHow.{TimerHow}

-- a timer's kind and name, and its delay in microseconds
pub record Timing : Type 0 where
  pub how : TimerHow
  pub name : List ℕ
  pub delay : ℕ

abbrev pub timing_of : LeafKind → Option Timing
timing_of (Contacts name neg) = None
timing_of (Coil name mode) = None
timing_of Osr = None
timing_of Osf = None
timing_of Short = None
timing_of Open = None
timing_of MasterRelay = None
timing_of Placeholder = None
timing_of (Comment text) = None
timing_of (Timer how name delay) = Some (record { how = how; name = name; delay = delay })
timing_of (Counter how name max) = None
timing_of (Reset name) = None
timing_of (Move dest src) = None
timing_of (Math how dest a b) = None
timing_of (Compare how a b) = None
timing_of (Shift name places) = None
timing_of (Table dest index as_text values) = None
timing_of (ReadAdc name) = None
timing_of (SetPwm name hz) = None
timing_of (Recv name) = None
timing_of (Send name) = None
timing_of (Persist name) = None
timing_of (Linear dest index points) = None
timing_of (Formatted name text) = None
