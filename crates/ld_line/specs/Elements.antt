-- What the lines of elements say: an equation for each word.
use Rattle.std.specs.Prelude.{ℕ, Bool, true, false, ◌==◌, ℤ, List, [], ◌∷◌, map, length, if◌then◌else◌}
use Rattle.ladder_tree.specs.declared.element.CoilMode.{CoilMode}
use Rattle.ladder_tree.specs.declared.element.CoilMode.TheVariants as mode
use Rattle.ladder_tree.specs.declared.element.TimerHow.{TimerHow}
use Rattle.ladder_tree.specs.declared.element.TimerHow.TheVariants as timer
use Rattle.ladder_tree.specs.declared.element.CounterHow.{CounterHow}
use Rattle.ladder_tree.specs.declared.element.CounterHow.TheVariants as counter
use Rattle.ladder_tree.specs.declared.element.MathHow.{MathHow}
use Rattle.ladder_tree.specs.declared.element.MathHow.TheVariants as sum
use Rattle.ladder_tree.specs.declared.element.CompareHow.{CompareHow}
use Rattle.ladder_tree.specs.declared.element.CompareHow.TheVariants as test
use Rattle.ladder_tree.specs.declared.element.LeafKind.{LeafKind}
use Rattle.ladder_tree.specs.declared.element.LeafKind.TheVariants as kind
use Rattle.ladder_tree.specs.declared.element.Operand.{Operand}
use Rattle.ladder_tree.specs.declared.limits.TheConstants.{SHIFT_PLACES, TABLE_VALUES}
use Rattle.ld_line.specs.Said.{said_map, said_then, both, all_said, bare}
use Rattle.ld_line.specs.Tokens.{comment_text}
use Rattle.ld_line.specs.Numbers.{natural_in, integer, most_delay, most_setting}
use Rattle.ld_line.specs.Operands.{name, flag, operand}
use Rattle.ld_line.specs.declared.said.Said.{Said}
use Rattle.ld_line.specs.declared.said.Said.TheVariants.{Bad, Is}
use Rattle.ld_line.specs.declared.word.Word.{Word}
use Rattle.ld_line.specs.declared.word.Word.TheVariants.{Contacts, Coil, Osr, Osf, Short, Open, Comment, MasterRelay, Placeholder, Ton, Tof, Rto, Ctu, Ctd, Ctc, Res, Move, Add, Sub, Mul, Div, Equ, Neq, Grt, Geq, Les, Leq, ShiftRegister, LookUpTable, ReadAdc, SetPwm, UartRecv, UartSend, Persist, FormattedString, PiecewiseLinear}

abbrev pub only_name : List (List ℕ) → Said (List ℕ)
only_name (n ∷ []) = name n
only_name _ = Bad

-- WORD name
abbrev pub named : (List ℕ → LeafKind) → List (List ℕ) → Said LeafKind
named make ts = said_map make (only_name ts)

abbrev pub comment : List ℕ → Said LeafKind
comment line = Is (kind.Comment (comment_text line))

-- CONTACTS name flag
abbrev pub contacts : List (List ℕ) → Said LeafKind
contacts (n ∷ f ∷ []) = said_map (λ p. kind.Contacts p.0 p.1) (both (name n) (flag f))
contacts _ = Bad

-- at most one flag of negated, set and reset
abbrev pub mode_of : Bool → Bool → Bool → Said CoilMode
mode_of false false false = Is mode.Plain
mode_of true false false = Is mode.Negated
mode_of false true false = Is mode.Set
mode_of false false true = Is mode.Reset
mode_of _ _ _ = Bad

abbrev pub mode_from : List ℕ → List ℕ → List ℕ → Said CoilMode
mode_from negated set reset = said_then (λ p. mode_of p.0 p.1.0 p.1.1) (both (flag negated) (both (flag set) (flag reset)))

-- COIL name negated set reset
abbrev pub coil : List (List ℕ) → Said LeafKind
coil (n ∷ negated ∷ set ∷ reset ∷ []) = said_map (λ p. kind.Coil p.0 p.1) (both (name n) (mode_from negated set reset))
coil _ = Bad

-- TON name delay
abbrev pub timer_of : TimerHow → List (List ℕ) → Said LeafKind
timer_of how (n ∷ delay ∷ []) = said_map (λ p. kind.Timer how p.0 p.1) (both (name n) (natural_in 0 most_delay delay))
timer_of how _ = Bad

-- CTU name max
abbrev pub counter_of : CounterHow → List (List ℕ) → Said LeafKind
counter_of how (n ∷ max ∷ []) = said_map (λ p. kind.Counter how p.0 p.1) (both (name n) (integer max))
counter_of how _ = Bad

-- MOVE dest src
abbrev pub move : List (List ℕ) → Said LeafKind
move (dest ∷ src ∷ []) = said_map (λ p. kind.Move p.0 p.1) (both (name dest) (operand src))
move _ = Bad

abbrev pub operand_pair : List ℕ → List ℕ → Said (Operand × Operand)
operand_pair a b = both (operand a) (operand b)

-- ADD dest a b
abbrev pub math : MathHow → List (List ℕ) → Said LeafKind
math how (dest ∷ a ∷ b ∷ []) = said_map (λ p. kind.Math how p.0 p.1.0 p.1.1) (both (name dest) (operand_pair a b))
math how _ = Bad

-- EQU a b
abbrev pub compare : CompareHow → List (List ℕ) → Said LeafKind
compare how (a ∷ b ∷ []) = said_map (λ p. kind.Compare how p.0 p.1) (operand_pair a b)
compare how _ = Bad

-- SHIFT_REGISTER name places
abbrev pub shift : List (List ℕ) → Said LeafKind
shift (n ∷ places ∷ []) = said_map (λ p. kind.Shift p.0 p.1) (both (name n) (natural_in 1 SHIFT_PLACES places))
shift _ = Bad

-- as many values as the count, which is looked at where each number is in its range
abbrev pub counted : List ℕ → Operand → ℕ → Bool → List ℤ → Said LeafKind
counted dest index count as_text values = if length values == count then Is (kind.Table dest index as_text values) else Bad

abbrev pub table_head : List ℕ → List ℕ → Said (List ℕ × Operand)
table_head dest index = both (name dest) (operand index)

abbrev pub table_by : Said (List ℕ × Operand) → Said (ℕ × Bool) → Said (List ℤ) → Said LeafKind
table_by head how values = said_then (λ p. counted p.0.0 p.0.1 p.1.0.0 p.1.0.1 p.1.1) (both head (both how values))

abbrev pub integers : List (List ℕ) → Said (List ℤ)
integers ts = all_said (map integer ts)

-- LOOK_UP_TABLE dest index count flag values
abbrev pub table : List (List ℕ) → Said LeafKind
table (dest ∷ index ∷ count ∷ as_text ∷ values) = table_by (table_head dest index) (both (natural_in 0 TABLE_VALUES count) (flag as_text)) (integers values)
table _ = Bad

-- SET_PWM name hertz
abbrev pub pwm : List (List ℕ) → Said LeafKind
pwm (n ∷ hz ∷ []) = said_map (λ p. kind.SetPwm p.0 p.1) (both (name n) (natural_in 0 most_setting hz))
pwm _ = Bad

-- The element that a line says: its word, the tokens behind the word, and the line itself, which holds a comment's text.
abbrev pub element_of : Word → List (List ℕ) → List ℕ → Said LeafKind
element_of Contacts ts line = contacts ts
element_of Coil ts line = coil ts
element_of Osr ts line = bare kind.Osr ts
element_of Osf ts line = bare kind.Osf ts
element_of Short ts line = bare kind.Short ts
element_of Open ts line = bare kind.Open ts
element_of Comment ts line = comment line
element_of MasterRelay ts line = bare kind.MasterRelay ts
element_of Placeholder ts line = bare kind.Placeholder ts
element_of Ton ts line = timer_of timer.Ton ts
element_of Tof ts line = timer_of timer.Tof ts
element_of Rto ts line = timer_of timer.Rto ts
element_of Ctu ts line = counter_of counter.Ctu ts
element_of Ctd ts line = counter_of counter.Ctd ts
element_of Ctc ts line = counter_of counter.Ctc ts
element_of Res ts line = named kind.Reset ts
element_of Move ts line = move ts
element_of Add ts line = math sum.Add ts
element_of Sub ts line = math sum.Sub ts
element_of Mul ts line = math sum.Mul ts
element_of Div ts line = math sum.Div ts
element_of Equ ts line = compare test.Equ ts
element_of Neq ts line = compare test.Neq ts
element_of Grt ts line = compare test.Grt ts
element_of Geq ts line = compare test.Geq ts
element_of Les ts line = compare test.Les ts
element_of Leq ts line = compare test.Leq ts
element_of ShiftRegister ts line = shift ts
element_of LookUpTable ts line = table ts
element_of ReadAdc ts line = named kind.ReadAdc ts
element_of SetPwm ts line = pwm ts
element_of UartRecv ts line = named kind.Recv ts
element_of UartSend ts line = named kind.Send ts
element_of Persist ts line = named kind.Persist ts
element_of FormattedString ts line = Bad
element_of PiecewiseLinear ts line = Bad
