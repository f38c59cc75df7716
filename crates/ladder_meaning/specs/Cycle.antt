-- A cycle of a ladder, and a history of cycles.
use Rattle.std.specs.Prelude.{ℕ, ◌+◌, true, false, List, [], ◌∷◌, ℤ, pos, if◌then◌else◌, None}
use Rattle.std.specs.Str.{bytes_eq}
use Rattle.ladder_tree.specs.declared.element.Leaf as leaf
use Rattle.ladder_tree.specs.declared.element.LeafKind.{LeafKind}
use Rattle.ladder_tree.specs.declared.element.LeafKind.TheVariants.{Contacts, Coil, Osr, Osf, Short, Open, MasterRelay, Placeholder, Comment, Timer, Counter, Reset, Move, Math, Compare, Shift, Table, ReadAdc, SetPwm, Recv, Send, Persist, Linear, Formatted}
use Rattle.ladder_tree.specs.declared.element.TimerHow.TheVariants.{Ton, Tof, Rto}
use Rattle.ladder_tree.specs.declared.project.Project.{Project}
use Rattle.ladder_tree.specs.declared.project.Rung.{Rung}
use Rattle.ladder_tree.specs.Leaves.{all_leaves}
use Rattle.ladder_tree.specs.Names.{names_of}
use Rattle.ladder_meaning.specs.Element.{Terms}
use Rattle.ladder_meaning.specs.Node.{nodes}
use Rattle.ladder_meaning.specs.Numbers.{period}
use Rattle.ladder_meaning.specs.State.{Seen, State, Now}

abbrev pub terms : Project → Terms
terms p = record { cycle = p.cycle; persistent = (names_of p.rungs).persistent }

abbrev pub start_by : ℕ → LeafKind → List ℕ → ℤ → ℤ
start_by cycle (Timer Tof timer delay) name other = if bytes_eq timer name then pos (period cycle delay) else other
start_by cycle (Timer Ton n delay) name other = other
start_by cycle (Timer Rto n delay) name other = other
start_by cycle (Contacts n neg) name other = other
start_by cycle (Coil n mode) name other = other
start_by cycle Osr name other = other
start_by cycle Osf name other = other
start_by cycle Short name other = other
start_by cycle Open name other = other
start_by cycle MasterRelay name other = other
start_by cycle Placeholder name other = other
start_by cycle (Comment t) name other = other
start_by cycle (Counter how n max) name other = other
start_by cycle (Reset n) name other = other
start_by cycle (Move dest src) name other = other
start_by cycle (Math how dest a b) name other = other
start_by cycle (Compare how a b) name other = other
start_by cycle (Shift n places) name other = other
start_by cycle (Table dest index as_t values) name other = other
start_by cycle (ReadAdc n) name other = other
start_by cycle (SetPwm n hz) name other = other
start_by cycle (Recv n) name other = other
start_by cycle (Send n) name other = other
start_by cycle (Persist n) name other = other
start_by cycle (Linear dest index points) name other = other
start_by cycle (Formatted n t) name other = other

-- a TOF's variable starts at its period, any other at 0
abbrev pub start_number : ℕ → List leaf.Leaf → List ℕ → ℤ
start_number cycle [] name = pos 0
start_number cycle (l ∷ ls) name = start_by cycle l.kind name (start_number cycle ls name)

-- the start with an EEPROM: all bits are false, and nothing waits
abbrev pub start : Project → (ℕ → ℕ) → State
start p eeprom = record {
  bit = λ name. false;
  number = start_number p.cycle (all_leaves p.rungs);
  memory = λ k. false;
  loaded = λ name. false;
  eeprom = eeprom;
  pending = None;
  duty = pos 0;
}

-- the rungs behind k memories, each on the master relay bit of its moment
abbrev pub rungs : Terms → Seen → List Rung → ℕ → Now → Now
rungs p r [] k s = s
rungs p r (g ∷ gs) k s = rungs p r gs (k + (nodes p r g.nodes).memories) ((nodes p r g.nodes).run k s s.master).now

abbrev pub begin : State → Seen → Now
begin s r = record { kept = s; master = true; sending = r.sending; writing = r.writing; received = r.received; sent = [] }

-- the state at a cycle's end, and the bytes that the cycle sent
pub record Ended : Type 0 where
  pub state : State
  pub sent : List ℕ

abbrev pub end_of : Now → Ended
end_of s = record { state = s.kept; sent = s.sent }

abbrev pub cycle : Project → State → Seen → Ended
cycle p s r = end_of (rungs (terms p) r p.rungs 0 (begin s r))

-- the end of each cycle
abbrev pub history : Project → State → List Seen → List Ended
history p s [] = []
history p s (r ∷ rs) = cycle p s r ∷ history p (cycle p s r).state rs

-- the last state, or s
abbrev pub last_of : State → List Ended → State
last_of s [] = s
last_of s (e ∷ es) = last_of e.state es
