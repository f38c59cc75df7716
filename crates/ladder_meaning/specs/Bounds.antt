-- What cycles keep within bounds: the numbers of variables, the duty of the PWM, and where in the EEPROM a byte waits for.
use Rattle.std.specs.Prelude.{◌≡◌, ℕ, ◌+◌, ◌*◌, ◌<◌, List, [], ◌∷◌, length, ℤ, pos, ◌≤ℤ◌, Option, IfSome, All}
use Rattle.ladder_tree.specs.declared.element.Leaf as leaf
use Rattle.ladder_tree.specs.declared.element.LeafKind.{LeafKind}
use Rattle.ladder_tree.specs.declared.element.LeafKind.TheVariants.{Contacts, Coil, Osr, Osf, Short, Open, MasterRelay, Placeholder, Comment, Timer, Counter, Reset, Move, Math, Compare, Shift, Table, ReadAdc, SetPwm, Recv, Send, Persist, Linear, Formatted}
use Rattle.ladder_tree.specs.declared.element.Operand.{Operand}
use Rattle.ladder_tree.specs.declared.element.Operand.TheVariants.{Var, Num}
use Rattle.ladder_tree.specs.declared.project.Project.{Project}
use Rattle.ladder_tree.specs.Leaves.{all_leaves}
use Rattle.ladder_tree.specs.Names.{names_of}
use Rattle.ladder_meaning.specs.Numbers.{IsNumber}
use Rattle.ladder_meaning.specs.State.{Seen, Pending}

abbrev pub operand_literals : Operand → List ℤ
operand_literals (Var name) = []
operand_literals (Num n) = n ∷ []

-- the numbers that stand in an element, and that a variable can become
abbrev pub literals : LeafKind → List ℤ
literals (Contacts name neg) = []
literals (Coil name mode) = []
literals Osr = []
literals Osf = []
literals Short = []
literals Open = []
literals MasterRelay = []
literals Placeholder = []
literals (Comment text) = []
literals (Timer how name delay) = []
literals (Counter how name max) = []
literals (Reset name) = []
literals (Move dest src) = operand_literals src
literals (Math how dest a b) = []
literals (Compare how a b) = []
literals (Shift name places) = []
literals (Table dest index as_text values) = values
literals (ReadAdc name) = []
literals (SetPwm name hz) = []
literals (Recv name) = []
literals (Send name) = []
literals (Persist name) = []
literals (Linear dest index points) = []
literals (Formatted name text) = []

-- each number that a variable can become from the text has 16 bits
abbrev pub HasNumbers : Project → Type 0
HasNumbers p = All (λ (l : leaf.Leaf). All IsNumber (literals l.kind)) (all_leaves p.rungs)

abbrev pub AreNumbers : (List ℕ → ℤ) → Type 0
AreNumbers number = (name : List ℕ) → IsNumber (number name)

-- analog numbers have 16 bits, and a received byte is a byte
pub record SeesNumbers (r : Seen) : Type 0 where
  pub analog : AreNumbers r.analog
  pub received : IfSome r.received (λ byte. byte < 256)

-- from 0 to 100 percent
pub record IsDuty (n : ℤ) : Type 0 where
  pub least : pos 0 ≤ℤ n
  pub most : n ≤ℤ pos 100

-- A byte that waits is the second of a persistent variable's two: its address is 2 * a + 1, where a is the variable's number.
abbrev pub WaitsFor : List (List ℕ) → Option Pending → Type 0
WaitsFor persistent pending = IfSome pending (λ w. (a : ℕ) × (a < length persistent) × (w.address ≡ 2 * a + 1))

-- the persistent variables of a project, in order
abbrev pub persistent_of : Project → List (List ℕ)
persistent_of p = (names_of p.rungs).persistent
