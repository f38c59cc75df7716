-- The element that a line says has the line's word.
use Rattle.std.proofs.Common.{◌≡◌, ℕ, ◌==◌, Bool, ℤ, List, [], ◌∷◌, length, refl}
use Rattle.ladder_tree.specs.declared.element.LeafKind.{LeafKind}
use Rattle.ladder_tree.specs.declared.element.LeafKind.TheVariants as kind
use Rattle.ladder_tree.specs.declared.element.TimerHow.{TimerHow}
use Rattle.ladder_tree.specs.declared.element.TimerHow.TheVariants as timer
use Rattle.ladder_tree.specs.declared.element.CounterHow.{CounterHow}
use Rattle.ladder_tree.specs.declared.element.CounterHow.TheVariants as counter
use Rattle.ladder_tree.specs.declared.element.MathHow.{MathHow}
use Rattle.ladder_tree.specs.declared.element.MathHow.TheVariants as sum
use Rattle.ladder_tree.specs.declared.element.CompareHow.{CompareHow}
use Rattle.ladder_tree.specs.declared.element.CompareHow.TheVariants as test
use Rattle.ladder_tree.specs.declared.element.Operand.{Operand}
use Rattle.ladder_tree.specs.declared.limits.TheConstants.{SHIFT_PLACES, TABLE_VALUES}
use Rattle.ld_line.specs.Said.{IfIs, said_map, both, bare}
use Rattle.ld_line.specs.Numbers.{natural_in, integer, most_delay, most_setting}
use Rattle.ld_line.specs.Operands.{name, flag, operand}
use Rattle.ld_line.specs.Elements.{only_name, named, contacts, mode_from, coil, timer_of, counter_of, move, operand_pair, math, compare, shift, table_head, counted, integers, table, pwm, element_of}
use Rattle.ld_line.specs.Kinds.{timer_word, counter_word, math_word, compare_word, word_for}
use Rattle.ld_line.specs.declared.word.Word.{Word}
use Rattle.ld_line.specs.declared.word.Word.TheVariants.{Contacts, Coil, Osr, Osf, Short, Open, Comment, MasterRelay, Placeholder, Ton, Tof, Rto, Ctu, Ctd, Ctc, Res, Move, Add, Sub, Mul, Div, Equ, Neq, Grt, Geq, Les, Leq, ShiftRegister, LookUpTable, ReadAdc, SetPwm, UartRecv, UartSend, Persist, FormattedString, PiecewiseLinear}
use Rattle.ld_line.specs.declared.said.Said.{Said}
use Rattle.ld_line.specs.declared.said.Said.TheVariants.{Bad, Range, Is}
use Rattle.ld_line.proofs.SaidLemmas.{if_map, if_then, if_test, said_so}

abbrev IsOf : Word → LeafKind → Type 0
IsOf word k = word_for k ≡ word

always : {A : Type 0} (P : A → Type 0) (s : Said A) → ((x : A) → P x) → IfIs s P
always P Bad h = tt
always P Range h = tt
always P (Is x) h = h x

made : {A : Type 0} (f : A → LeafKind) (word : Word) (s : Said A) → ((x : A) → IsOf word (f x)) → IfIs (said_map f s) (IsOf word)
made f word s h = if_map f (IsOf word) s (always (λ x. IsOf word (f x)) s h)

bare_of : (k : LeafKind) (ts : List (List ℕ)) → IfIs (bare k ts) (IsOf (word_for k))
bare_of k [] = refl
bare_of k (t ∷ ts) = tt

named_of : (make : List ℕ → LeafKind) (word : Word) (ts : List (List ℕ)) → ((n : List ℕ) → IsOf word (make n)) → IfIs (named make ts) (IsOf word)
named_of make word ts h = made make word (only_name ts) h

contacts_of : (ts : List (List ℕ)) → IfIs (contacts ts) (IsOf Contacts)
contacts_of [] = tt
contacts_of (n ∷ []) = tt
contacts_of (n ∷ f ∷ []) = made (λ p. kind.Contacts p.0 p.1) Contacts (both (name n) (flag f)) (λ p. refl)
contacts_of (n ∷ f ∷ t ∷ ts) = tt

coil_of : (ts : List (List ℕ)) → IfIs (coil ts) (IsOf Coil)
coil_of [] = tt
coil_of (n ∷ []) = tt
coil_of (n ∷ a ∷ []) = tt
coil_of (n ∷ a ∷ b ∷ []) = tt
coil_of (n ∷ a ∷ b ∷ c ∷ []) = made (λ p. kind.Coil p.0 p.1) Coil (both (name n) (mode_from a b c)) (λ p. refl)
coil_of (n ∷ a ∷ b ∷ c ∷ t ∷ ts) = tt

timer_is : (how : TimerHow) (ts : List (List ℕ)) → IfIs (timer_of how ts) (IsOf (timer_word how))
timer_is how [] = tt
timer_is how (n ∷ []) = tt
timer_is how (n ∷ d ∷ []) = made (λ p. kind.Timer how p.0 p.1) (timer_word how) (both (name n) (natural_in 0 most_delay d)) (λ p. refl)
timer_is how (n ∷ d ∷ t ∷ ts) = tt

counter_is : (how : CounterHow) (ts : List (List ℕ)) → IfIs (counter_of how ts) (IsOf (counter_word how))
counter_is how [] = tt
counter_is how (n ∷ []) = tt
counter_is how (n ∷ m ∷ []) = made (λ p. kind.Counter how p.0 p.1) (counter_word how) (both (name n) (integer m)) (λ p. refl)
counter_is how (n ∷ m ∷ t ∷ ts) = tt

move_of : (ts : List (List ℕ)) → IfIs (move ts) (IsOf Move)
move_of [] = tt
move_of (d ∷ []) = tt
move_of (d ∷ s ∷ []) = made (λ p. kind.Move p.0 p.1) Move (both (name d) (operand s)) (λ p. refl)
move_of (d ∷ s ∷ t ∷ ts) = tt

math_is : (how : MathHow) (ts : List (List ℕ)) → IfIs (math how ts) (IsOf (math_word how))
math_is how [] = tt
math_is how (d ∷ []) = tt
math_is how (d ∷ a ∷ []) = tt
math_is how (d ∷ a ∷ b ∷ []) = made (λ p. kind.Math how p.0 p.1.0 p.1.1) (math_word how) (both (name d) (operand_pair a b)) (λ p. refl)
math_is how (d ∷ a ∷ b ∷ t ∷ ts) = tt

compare_is : (how : CompareHow) (ts : List (List ℕ)) → IfIs (compare how ts) (IsOf (compare_word how))
compare_is how [] = tt
compare_is how (a ∷ []) = tt
compare_is how (a ∷ b ∷ []) = made (λ p. kind.Compare how p.0 p.1) (compare_word how) (operand_pair a b) (λ p. refl)
compare_is how (a ∷ b ∷ t ∷ ts) = tt

shift_of : (ts : List (List ℕ)) → IfIs (shift ts) (IsOf ShiftRegister)
shift_of [] = tt
shift_of (n ∷ []) = tt
shift_of (n ∷ p ∷ []) = made (λ p. kind.Shift p.0 p.1) ShiftRegister (both (name n) (natural_in 1 SHIFT_PLACES p)) (λ p. refl)
shift_of (n ∷ p ∷ t ∷ ts) = tt

pwm_of : (ts : List (List ℕ)) → IfIs (pwm ts) (IsOf SetPwm)
pwm_of [] = tt
pwm_of (n ∷ []) = tt
pwm_of (n ∷ z ∷ []) = made (λ p. kind.SetPwm p.0 p.1) SetPwm (both (name n) (natural_in 0 most_setting z)) (λ p. refl)
pwm_of (n ∷ z ∷ t ∷ ts) = tt

counted_of : (d : List ℕ) (i : Operand) (count : ℕ) (as_text : Bool) (values : List ℤ) → IfIs (counted d i count as_text values) (IsOf LookUpTable)
counted_of d i count as_text values =
    if_test (IsOf LookUpTable) (length values == count) (Is (kind.Table d i as_text values)) Bad refl tt

table_of : (ts : List (List ℕ)) → IfIs (table ts) (IsOf LookUpTable)
table_of [] = tt
table_of (d ∷ []) = tt
table_of (d ∷ i ∷ []) = tt
table_of (d ∷ i ∷ c ∷ []) = tt
table_of (d ∷ i ∷ c ∷ f ∷ vs) =
    let whole = both (table_head d i) (both (both (natural_in 0 TABLE_VALUES c) (flag f)) (integers vs)) in
    if_then (λ p. counted p.0.0 p.0.1 p.1.0.0 p.1.0.1 p.1.1) (IsOf LookUpTable) whole
    (always (λ p. IfIs (counted p.0.0 p.0.1 p.1.0.0 p.1.0.1 p.1.1) (IsOf LookUpTable)) whole (λ p. counted_of p.0.0 p.0.1 p.1.0.0 p.1.0.1 p.1.1))

element_is : (word : Word) (ts : List (List ℕ)) (line : List ℕ) → IfIs (element_of word ts line) (IsOf word)
element_is Contacts ts line = contacts_of ts
element_is Coil ts line = coil_of ts
element_is Osr ts line = bare_of kind.Osr ts
element_is Osf ts line = bare_of kind.Osf ts
element_is Short ts line = bare_of kind.Short ts
element_is Open ts line = bare_of kind.Open ts
element_is Comment ts line = refl
element_is MasterRelay ts line = bare_of kind.MasterRelay ts
element_is Placeholder ts line = bare_of kind.Placeholder ts
element_is Ton ts line = timer_is timer.Ton ts
element_is Tof ts line = timer_is timer.Tof ts
element_is Rto ts line = timer_is timer.Rto ts
element_is Ctu ts line = counter_is counter.Ctu ts
element_is Ctd ts line = counter_is counter.Ctd ts
element_is Ctc ts line = counter_is counter.Ctc ts
element_is Res ts line = named_of kind.Reset Res ts (λ n. refl)
element_is Move ts line = move_of ts
element_is Add ts line = math_is sum.Add ts
element_is Sub ts line = math_is sum.Sub ts
element_is Mul ts line = math_is sum.Mul ts
element_is Div ts line = math_is sum.Div ts
element_is Equ ts line = compare_is test.Equ ts
element_is Neq ts line = compare_is test.Neq ts
element_is Grt ts line = compare_is test.Grt ts
element_is Geq ts line = compare_is test.Geq ts
element_is Les ts line = compare_is test.Les ts
element_is Leq ts line = compare_is test.Leq ts
element_is ShiftRegister ts line = shift_of ts
element_is LookUpTable ts line = table_of ts
element_is ReadAdc ts line = named_of kind.ReadAdc ReadAdc ts (λ n. refl)
element_is SetPwm ts line = pwm_of ts
element_is UartRecv ts line = named_of kind.Recv UartRecv ts (λ n. refl)
element_is UartSend ts line = named_of kind.Send UartSend ts (λ n. refl)
element_is Persist ts line = named_of kind.Persist Persist ts (λ n. refl)
element_is FormattedString ts line = tt
element_is PiecewiseLinear ts line = tt

pub begins_with : (word : Word) (ts : List (List ℕ)) (line : List ℕ) (k : LeafKind) → element_of word ts line ≡ Is k → word_for k ≡ word
begins_with word ts line k e = said_so (IsOf word) (element_of word ts line) k e (element_is word ts line)
