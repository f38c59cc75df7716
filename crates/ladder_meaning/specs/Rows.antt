-- Worked rows: what small ladders show at the end of each cycle.
use Rattle.std.specs.Prelude.{◌≡◌, ℕ, ◌+◌, Bool, true, false, List, [], ◌∷◌, ℤ, pos, negsuc, map, codes, None, Some}
use Rattle.ladder_tree.specs.declared.element.CoilMode.TheVariants.{Plain}
use Rattle.ladder_tree.specs.declared.element.CounterHow.TheVariants.{Ctu, Ctc}
use Rattle.ladder_tree.specs.declared.element.LeafKind.{LeafKind}
use Rattle.ladder_tree.specs.declared.element.LeafKind.TheVariants.{Contacts, Coil, Open, MasterRelay, Timer, Counter, Move, Math, Shift, Table, SetPwm, Recv, Send, Persist}
use Rattle.ladder_tree.specs.declared.element.MathHow.TheVariants.{Mul, Div}
use Rattle.ladder_tree.specs.declared.element.Operand.TheVariants.{Num}
use Rattle.ladder_tree.specs.declared.element.TimerHow.TheVariants.{Ton, Tof}
use Rattle.ladder_tree.specs.Names.{memories}
use Rattle.ladder_meaning.specs.Cycle.{Ended, begin, end_of}
use Rattle.ladder_meaning.specs.Element.{Terms, element}
use Rattle.ladder_meaning.specs.Node.{Part, series}
use Rattle.ladder_meaning.specs.State.{Seen, State, Now}

-- a cycle of 10 ms, and one persistent name
abbrev terms : Terms
terms = record { cycle = 10000; persistent = codes "p" ∷ [] }

abbrev rung : Seen → List LeafKind → Part
rung r kinds = series (map (λ kind. record { memories = memories kind; run = element terms r kind }) kinds)

abbrev rungs : Seen → List (List LeafKind) → ℕ → Now → Now
rungs r [] k s = s
rungs r (g ∷ gs) k s = rungs r gs (k + (rung r g).memories) ((rung r g).run k s s.master).now

abbrev ends : List (List LeafKind) → State → List Seen → List Ended
ends gs s [] = []
ends gs s (r ∷ rs) = let e = end_of (rungs r gs 0 (begin s r)) in e ∷ ends gs e.state rs

abbrev bits : List ℕ → List Ended → List Bool
bits name es = map (λ e. e.state.bit name) es

abbrev numbers : List ℕ → List Ended → List ℤ
numbers name es = map (λ e. e.state.number name) es

-- all is 0, and the EEPROM is erased
abbrev zeros : State
zeros = record { bit = λ name. false; number = λ name. pos 0; memory = λ k. false; loaded = λ name. false; eeprom = λ a. 255; pending = None; duty = pos 0 }

abbrev level : Bool → Seen
level b = record { level = λ name. b; analog = λ name. pos 0; received = None; sending = false; writing = false }

abbrev levels : List Bool → List Seen
levels bs = map level bs

abbrev contact : LeafKind
contact = Contacts (codes "Xa") false

abbrev coil : List ℕ → LeafKind
coil name = Coil name Plain

abbrev move : List ℕ → ℤ → LeafKind
move dest n = Move dest (Num n)

abbrev on_delay : List Ended
on_delay = ends ((contact ∷ Timer Ton (codes "T") 30000 ∷ coil (codes "Y") ∷ []) ∷ []) zeros (levels (true ∷ true ∷ true ∷ true ∷ true ∷ []))

abbrev off_delay : List Ended
off_delay = ends ((contact ∷ Timer Tof (codes "T") 20000 ∷ coil (codes "Y") ∷ []) ∷ []) (record zeros { number = λ name. pos 2 })
    (levels (false ∷ true ∷ false ∷ false ∷ false ∷ []))

abbrev up : List Ended
up = ends ((Contacts (codes "Xa") true ∷ move (codes "C") (pos 32767) ∷ []) ∷ (contact ∷ Counter Ctu (codes "C") (pos 5) ∷ coil (codes "Y") ∷ []) ∷ []) zeros
    (levels (false ∷ true ∷ []))

abbrev round : List Ended
round = ends ((contact ∷ Counter Ctc (codes "C") (pos 2) ∷ []) ∷ []) zeros (levels (true ∷ false ∷ true ∷ false ∷ true ∷ false ∷ true ∷ []))

abbrev arithmetic : List Ended
arithmetic = ends ((Math Mul (codes "a") (Num (pos 300)) (Num (pos 300)) ∷ []) ∷ (Math Div (codes "b") (Num (negsuc 6)) (Num (pos 2)) ∷ []) ∷
    (Math Div (codes "c") (Num (negsuc 32767)) (Num (negsuc 0)) ∷ []) ∷ (Math Div (codes "d") (Num (pos 5)) (Num (pos 0)) ∷ []) ∷ []) zeros (levels (true ∷ []))

abbrev shift : List Ended
shift = ends ((move (codes "s0") (pos 7) ∷ []) ∷ (contact ∷ Shift (codes "s") 4 ∷ []) ∷ []) zeros (levels (true ∷ false ∷ true ∷ []))

abbrev look_up : ℤ → LeafKind
look_up index = Table (codes "d") (Num index) false (pos 10 ∷ pos 20 ∷ pos 30 ∷ [])

abbrev table : List Ended
table = ends ((look_up (pos 1) ∷ []) ∷ (look_up (negsuc 0) ∷ []) ∷ (look_up (pos 3) ∷ []) ∷ []) zeros (levels (true ∷ []))

abbrev received : List Ended
received = ends ((Recv (codes "a") ∷ coil (codes "Ya") ∷ []) ∷ (Recv (codes "b") ∷ coil (codes "Yb") ∷ []) ∷ []) zeros
    (record (level false) { received = Some 65 } ∷ [])

abbrev sent : Bool → List Ended
sent busy = ends ((move (codes "n") (pos 300) ∷ Send (codes "n") ∷ coil (codes "Ya") ∷ []) ∷ (Send (codes "n") ∷ coil (codes "Yb") ∷ []) ∷ []) zeros
    (record (level false) { sending = busy } ∷ [])

abbrev persistent : List Ended
persistent = ends ((Persist (codes "p") ∷ []) ∷ (contact ∷ move (codes "p") (pos 258) ∷ []) ∷ []) zeros (levels (false ∷ true ∷ false ∷ false ∷ []))

abbrev master : List Ended
master = ends ((Open ∷ MasterRelay ∷ []) ∷ (coil (codes "Ya") ∷ []) ∷ (MasterRelay ∷ []) ∷ (coil (codes "Yb") ∷ []) ∷ []) zeros (levels (false ∷ []))

abbrev pwm : List Ended
pwm = ends ((move (codes "d") (pos 250) ∷ SetPwm (codes "d") 1000 ∷ []) ∷ []) zeros (levels (false ∷ []))

pub record WorkedRows : Type 0 where
  pub on_delay_times : numbers (codes "T") on_delay ≡ pos 1 ∷ pos 2 ∷ pos 3 ∷ pos 3 ∷ pos 3 ∷ []
  pub on_delay_outputs : bits (codes "Y") on_delay ≡ false ∷ false ∷ false ∷ true ∷ true ∷ []
  pub off_delay_times : numbers (codes "T") off_delay ≡ pos 2 ∷ pos 0 ∷ pos 1 ∷ pos 2 ∷ pos 2 ∷ []
  pub off_delay_outputs : bits (codes "Y") off_delay ≡ false ∷ true ∷ true ∷ true ∷ false ∷ []
  -- a counter goes from 32767 to -32768
  pub up_counts : numbers (codes "C") up ≡ pos 32767 ∷ negsuc 32767 ∷ []
  pub up_outputs : bits (codes "Y") up ≡ true ∷ false ∷ []
  pub round_counts : numbers (codes "C") round ≡ pos 1 ∷ pos 1 ∷ pos 2 ∷ pos 2 ∷ pos 0 ∷ pos 0 ∷ pos 1 ∷ []
  -- 300 times 300, -7 by 2, -32768 by -1 and 5 by 0
  pub product : numbers (codes "a") arithmetic ≡ pos 24464 ∷ []
  pub quotient : numbers (codes "b") arithmetic ≡ negsuc 2 ∷ []
  pub least_quotient : numbers (codes "c") arithmetic ≡ negsuc 32767 ∷ []
  pub quotient_by_0 : numbers (codes "d") arithmetic ≡ pos 0 ∷ []
  pub second_place : numbers (codes "s1") shift ≡ pos 7 ∷ pos 7 ∷ pos 7 ∷ []
  pub third_place : numbers (codes "s2") shift ≡ pos 0 ∷ pos 0 ∷ pos 7 ∷ []
  pub last_place : numbers (codes "s3") shift ≡ pos 0 ∷ pos 0 ∷ pos 0 ∷ []
  pub looked_up : numbers (codes "d") table ≡ pos 20 ∷ []
  -- the second finds the byte taken
  pub first_received : bits (codes "Ya") received ≡ true ∷ []
  pub second_received : bits (codes "Yb") received ≡ false ∷ []
  pub byte : numbers (codes "a") received ≡ pos 65 ∷ []
  -- 300 modulo 256 is sent once, and nothing where the transmitter sends
  pub bytes_sent : map (λ e. e.sent) (sent false) ≡ (44 ∷ []) ∷ []
  pub bytes_unsent : map (λ e. e.sent) (sent true) ≡ [] ∷ []
  pub second_sends : bits (codes "Yb") (sent false) ≡ true ∷ []
  -- an erased variable is -1, and 258 is written low byte first, a byte a cycle
  pub persistent_numbers : numbers (codes "p") persistent ≡ negsuc 0 ∷ pos 258 ∷ pos 258 ∷ pos 258 ∷ []
  pub low_bytes : map (λ e. e.state.eeprom 0) persistent ≡ 255 ∷ 255 ∷ 2 ∷ 2 ∷ []
  pub high_bytes : map (λ e. e.state.eeprom 1) persistent ≡ 255 ∷ 255 ∷ 255 ∷ 1 ∷ []
  pub switched_off : bits (codes "Ya") master ≡ false ∷ []
  pub switched_on : bits (codes "Yb") master ≡ true ∷ []
  pub full_duty : map (λ e. e.state.duty) pwm ≡ pos 100 ∷ []
