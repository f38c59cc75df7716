-- The ranges of what lines say.
use Rattle.std.proofs.Common.{◌≡◌, ℕ, Bool, true, false, ℤ, List, [], ◌∷◌, length, refl}
use Rattle.std.proofs.lemmas.Bool.{and_from, and_parts}
use Rattle.std.proofs.Common.{◌≤◌, ◌&&◌, ◌==◌, nat_le, pos, neg_ℤ, negsuc, Option, None, Some, if◌then◌else◌, int_le, unsigned_abs, slice_index_or, arith}
use Rattle.std.specs.List.{list_all}
use Rattle.std.proofs.lemmas.Int.{ints}
use Rattle.std.proofs.lemmas.Bool.Decides.{nat_tests}
use Rattle.ladder_tree.specs.Names.{is_name}
use Rattle.ladder_tree.specs.declared.element.LeafKind.{LeafKind}
use Rattle.ladder_tree.specs.declared.element.LeafKind.TheVariants as kind
use Rattle.ladder_tree.specs.declared.element.TimerHow.{TimerHow}
use Rattle.ladder_tree.specs.declared.element.TimerHow.TheVariants as timer
use Rattle.ladder_tree.specs.declared.element.CounterHow.{CounterHow}
use Rattle.ladder_tree.specs.declared.element.CounterHow.TheVariants as counter
use Rattle.ladder_tree.specs.declared.element.MathHow.{MathHow}
use Rattle.ladder_tree.specs.declared.element.MathHow.TheVariants as sum
use Rattle.ladder_tree.specs.declared.element.CompareHow.{CompareHow}
use Rattle.ladder_tree.specs.declared.element.CompareHow.TheVariants as test
use Rattle.ladder_tree.specs.declared.element.Operand.{Operand}
use Rattle.ladder_tree.specs.declared.element.Operand.TheVariants.{Var, Num}
use Rattle.ladder_tree.specs.declared.limits.TheConstants.{SHIFT_PLACES, TABLE_VALUES}
use Rattle.ld_line.proofs.SaidLemmas.{anything, if_map, if_then, if_weak, if_both, if_made, if_test, said_so}
use Rattle.ld_line.specs.Said.{IfIs, said_map, both, bare}
use Rattle.ld_line.specs.Numbers.{number, in_range, natural_in, integer, most_delay, most_setting}
use Rattle.ld_line.specs.Operands.{name, flag, is_character, operand}
use Rattle.ld_line.specs.Elements.{only_name, named, contacts, mode_from, coil, timer_of, counter_of, move, operand_pair, math, compare, shift, table_head, counted, integers, table, pwm, element_of}
use Rattle.std.specs.Prelude.{codes}
use Rattle.std.specs.Str.{bytes_eq}
use Rattle.ld_line.specs.Tokens.{trimmed, tokens}
use Rattle.ld_line.specs.Numbers.{most_pin}
use Rattle.ld_line.specs.Pins as pins
use Rattle.ld_line.specs.Header.{behind_word, keyed, setting, tokens_say, compiled_or, micro_or, header_of}
use Rattle.ld_line.specs.Range.{is_integer, is_read_operand, is_read_kind, is_read_pin, is_read_setting}
use Rattle.ld_line.specs.declared.pins.PinsLine.{PinsLine}
use Rattle.ld_line.specs.declared.pins.PinsLine.TheVariants as pins_line
use Rattle.ld_line.specs.declared.header.HeaderLine.{HeaderLine}
use Rattle.ld_line.specs.declared.header.HeaderLine.TheVariants as header
use Rattle.ld_line.specs.declared.word.Word.{Word}
use Rattle.ld_line.specs.declared.word.Word.TheVariants.{Contacts, Coil, Osr, Osf, Short, Open, Comment, MasterRelay, Placeholder, Ton, Tof, Rto, Ctu, Ctd, Ctc, Res, Move, Add, Sub, Mul, Div, Equ, Neq, Grt, Geq, Les, Leq, ShiftRegister, LookUpTable, ReadAdc, SetPwm, UartRecv, UartSend, Persist, FormattedString, PiecewiseLinear}
use Rattle.ld_line.specs.declared.said.Said.{Said}
use Rattle.ld_line.specs.declared.said.Said.TheVariants.{Bad, Range, Is}

abbrev IsNamed : List ℕ → Type 0
IsNamed n = is_name n ≡ true

abbrev IsInteger : ℤ → Type 0
IsInteger n = is_integer n ≡ true

abbrev AreIntegers : List ℤ → Type 0
AreIntegers ns = list_all is_integer ns ≡ true

abbrev IsReadOperand : Operand → Type 0
IsReadOperand o = is_read_operand o ≡ true

abbrev IsRead : LeafKind → Type 0
IsRead k = is_read_kind k ≡ true

name_said : (t : List ℕ) → IfIs (name t) IsNamed
name_said t = by (is_name t) refl
  where
    by : (b : Bool) → is_name t ≡ b → IfIs (if b then Is t else Bad) IsNamed
    by true e = e
    by false e = tt

at_most : (n most : ℕ) → n ≤ most → nat_le n most ≡ true
at_most n most h = grind (arith, nat_tests)

integer_said : (t : List ℕ) → IfIs (integer t) IsInteger
unfolding integer
integer_said t = of (number t)
  where
    by : (n : ℤ) (b : Bool) → is_integer n ≡ b → IfIs (if b then Is n else Range) IsInteger
    by n true e = e
    by n false e = tt

    of : (o : Option ℤ) → IfIs (in_range (neg_ℤ (pos 32768)) (pos 32767) o) IsInteger
    of None = tt
    of (Some n) = by n (is_integer n) refl

integers_said : (ts : List (List ℕ)) → IfIs (integers ts) AreIntegers
integers_said [] = refl
integers_said (t ∷ ts) =
    if_made (λ p. p.0 ∷ p.1) IsInteger AreIntegers AreIntegers (integer t) (integers ts) (integer_said t) (integers_said ts)
    (λ p h. and_from (is_integer p.0) (list_all is_integer p.1) h.0 h.1)

below_delete : (c : ℕ) → nat_le c 0x7e ≡ true → is_integer (pos c) ≡ true
below_delete c h = and_from (int_le (neg_ℤ (pos 32768)) (pos c)) (int_le (pos c) (pos 32767)) (grind (arith, ints, nat_tests)) (grind (arith, ints, nat_tests))

character_said : (t : List ℕ) → is_character t ≡ true → is_integer (pos (slice_index_or t 1 0)) ≡ true
character_said t h =
    let c = slice_index_or t 1 0 in
    let quoted = and_parts (length t == 3) ((slice_index_or t 0 0 == 39 && slice_index_or t 2 0 == 39) && (nat_le 0x21 c && nat_le c 0x7e)) h in
    let shows = and_parts (slice_index_or t 0 0 == 39 && slice_index_or t 2 0 == 39) (nat_le 0x21 c && nat_le c 0x7e) quoted.1 in
    below_delete c (and_parts (nat_le 0x21 c) (nat_le c 0x7e) shows.1).1

operand_said : (t : List ℕ) → IfIs (operand t) IsReadOperand
unfolding operand
operand_said t = by (is_name t) (is_character t) refl refl
  where
    by : (a b : Bool) → is_name t ≡ a → is_character t ≡ b
        → IfIs (if a then Is (Var t) else (if b then Is (Num (pos (slice_index_or t 1 0))) else said_map Num (integer t))) IsReadOperand
    by true b e f = e
    by false true e f = character_said t f
    by false false e f = if_map Num IsReadOperand (integer t) (integer_said t)

natural_said : (low high : ℕ) (t : List ℕ) → IfIs (natural_in low high t) (λ n. (low ≤ n) × (n ≤ high))
unfolding natural_in
natural_said low high t = of (number t)
  where
    at_pos : (n : ℕ) (a b : Bool) → int_le (pos low) (pos n) ≡ a → int_le (pos n) (pos high) ≡ b
        → IfIs (said_map unsigned_abs (if a && b then Is (pos n) else Range)) (λ n. (low ≤ n) × (n ≤ high))
    at_pos n true true e f = (grind (arith, ints, nat_tests), grind (arith, ints, nat_tests))
    at_pos n true false e f = tt
    at_pos n false b e f = tt

    at_neg : (n : ℕ) (a b : Bool) → int_le (pos low) (negsuc n) ≡ a
        → IfIs (said_map unsigned_abs (if a && b then Is (negsuc n) else Range)) (λ n. (low ≤ n) × (n ≤ high))
    at_neg n true b e = absurd (grind (arith, ints))
    at_neg n false b e = tt

    of : (o : Option ℤ) → IfIs (said_map unsigned_abs (in_range (pos low) (pos high) o)) (λ n. (low ≤ n) × (n ≤ high))
    of None = tt
    of (Some (pos n)) = at_pos n (int_le (pos low) (pos n)) (int_le (pos n) (pos high)) refl refl
    of (Some (negsuc n)) = at_neg n (int_le (pos low) (negsuc n)) (int_le (negsuc n) (pos high)) refl

bare_said : (k : LeafKind) (ts : List (List ℕ)) → IsRead k → IfIs (bare k ts) IsRead
bare_said k [] h = h
bare_said k (t ∷ ts) h = tt

only_name_said : (ts : List (List ℕ)) → IfIs (only_name ts) IsNamed
only_name_said [] = tt
only_name_said (n ∷ []) = name_said n
only_name_said (n ∷ t ∷ ts) = tt

contacts_said : (ts : List (List ℕ)) → IfIs (contacts ts) IsRead
contacts_said [] = tt
contacts_said (n ∷ []) = tt
contacts_said (n ∷ f ∷ []) =
    if_made (λ p. kind.Contacts p.0 p.1) IsNamed (λ x. Unit {0}) IsRead (name n) (flag f) (name_said n) (anything (flag f)) (λ p h. h.0)
contacts_said (n ∷ f ∷ t ∷ ts) = tt

coil_said : (ts : List (List ℕ)) → IfIs (coil ts) IsRead
coil_said [] = tt
coil_said (n ∷ []) = tt
coil_said (n ∷ a ∷ []) = tt
coil_said (n ∷ a ∷ b ∷ []) = tt
coil_said (n ∷ a ∷ b ∷ c ∷ []) =
    if_made (λ p. kind.Coil p.0 p.1) IsNamed (λ x. Unit {0}) IsRead (name n) (mode_from a b c) (name_said n) (anything (mode_from a b c)) (λ p h. h.0)
coil_said (n ∷ a ∷ b ∷ c ∷ t ∷ ts) = tt

timer_said : (how : TimerHow) (ts : List (List ℕ)) → IfIs (timer_of how ts) IsRead
timer_said how [] = tt
timer_said how (n ∷ []) = tt
timer_said how (n ∷ d ∷ []) =
    if_made (λ p. kind.Timer how p.0 p.1) IsNamed (λ x. (0 ≤ x) × (x ≤ most_delay)) IsRead (name n) (natural_in 0 most_delay d) (name_said n)
    (natural_said 0 most_delay d)
    (λ p h. and_from (is_name p.0) (nat_le p.1 most_delay) h.0 (at_most p.1 most_delay h.1.1))
timer_said how (n ∷ d ∷ t ∷ ts) = tt

counter_said : (how : CounterHow) (ts : List (List ℕ)) → IfIs (counter_of how ts) IsRead
counter_said how [] = tt
counter_said how (n ∷ []) = tt
counter_said how (n ∷ m ∷ []) =
    if_made (λ p. kind.Counter how p.0 p.1) IsNamed IsInteger IsRead (name n) (integer m) (name_said n) (integer_said m)
    (λ p h. and_from (is_name p.0) (is_integer p.1) h.0 h.1)
counter_said how (n ∷ m ∷ t ∷ ts) = tt

move_said : (ts : List (List ℕ)) → IfIs (move ts) IsRead
move_said [] = tt
move_said (n ∷ []) = tt
move_said (n ∷ o ∷ []) =
    if_made (λ p. kind.Move p.0 p.1) IsNamed IsReadOperand IsRead (name n) (operand o) (name_said n) (operand_said o)
    (λ p h. and_from (is_name p.0) (is_read_operand p.1) h.0 h.1)
move_said (n ∷ o ∷ t ∷ ts) = tt

pair_said : (a b : List ℕ) → IfIs (operand_pair a b) (λ p. IsReadOperand p.0 × IsReadOperand p.1)
pair_said a b = if_both IsReadOperand IsReadOperand (operand a) (operand b) (operand_said a) (operand_said b)

math_said : (how : MathHow) (ts : List (List ℕ)) → IfIs (math how ts) IsRead
math_said how [] = tt
math_said how (n ∷ []) = tt
math_said how (n ∷ a ∷ []) = tt
math_said how (n ∷ a ∷ b ∷ []) =
    if_made (λ p. kind.Math how p.0 p.1.0 p.1.1) IsNamed (λ p. IsReadOperand p.0 × IsReadOperand p.1) IsRead (name n) (operand_pair a b) (name_said n)
    (pair_said a b)
    (λ p h. and_from (is_name p.0) (is_read_operand p.1.0 && is_read_operand p.1.1) h.0 (and_from (is_read_operand p.1.0) (is_read_operand p.1.1) h.1.0 h.1.1))
math_said how (n ∷ a ∷ b ∷ t ∷ ts) = tt

compare_said : (how : CompareHow) (ts : List (List ℕ)) → IfIs (compare how ts) IsRead
compare_said how [] = tt
compare_said how (a ∷ []) = tt
compare_said how (a ∷ b ∷ []) =
    if_made (λ p. kind.Compare how p.0 p.1) IsReadOperand IsReadOperand IsRead (operand a) (operand b) (operand_said a) (operand_said b)
    (λ p h. and_from (is_read_operand p.0) (is_read_operand p.1) h.0 h.1)
compare_said how (a ∷ b ∷ t ∷ ts) = tt

shift_said : (ts : List (List ℕ)) → IfIs (shift ts) IsRead
shift_said [] = tt
shift_said (n ∷ []) = tt
shift_said (n ∷ p ∷ []) =
    if_made (λ p. kind.Shift p.0 p.1) IsNamed (λ x. (1 ≤ x) × (x ≤ SHIFT_PLACES)) IsRead (name n) (natural_in 1 SHIFT_PLACES p) (name_said n)
    (natural_said 1 SHIFT_PLACES p)
    (λ p h. and_from (is_name p.0) (nat_le 1 p.1 && nat_le p.1 SHIFT_PLACES) h.0 (and_from (nat_le 1 p.1) (nat_le p.1 SHIFT_PLACES) (at_most 1 p.1 h.1.0)
    (at_most p.1 SHIFT_PLACES h.1.1)))
shift_said (n ∷ p ∷ t ∷ ts) = tt

pwm_said : (ts : List (List ℕ)) → IfIs (pwm ts) IsRead
pwm_said [] = tt
pwm_said (n ∷ []) = tt
pwm_said (n ∷ z ∷ []) =
    if_made (λ p. kind.SetPwm p.0 p.1) IsNamed (λ x. (0 ≤ x) × (x ≤ most_setting)) IsRead (name n) (natural_in 0 most_setting z) (name_said n)
    (natural_said 0 most_setting z)
    (λ p h. and_from (is_name p.0) (nat_le p.1 most_setting) h.0 (at_most p.1 most_setting h.1.1))
pwm_said (n ∷ z ∷ t ∷ ts) = tt

counted_said : (dest : List ℕ) (index : Operand) (count : ℕ) (as_text : Bool) (values : List ℤ) → IsNamed dest → IsReadOperand index → count ≤ TABLE_VALUES
    → AreIntegers values → IfIs (counted dest index count as_text values) IsRead
counted_said dest index count as_text values n o h v = by (length values == count) refl
  where
    by : (b : Bool) → (length values == count) ≡ b → IfIs (if b then Is (kind.Table dest index as_text values) else Bad) IsRead
    by true e =
        let same : length values ≡ count = grind (arith, nat_tests) in
        let few : length values ≤ TABLE_VALUES = omega arith in
        and_from (is_name dest) ((is_read_operand index && list_all is_integer values) && nat_le (length values) TABLE_VALUES) n
        (and_from (is_read_operand index && list_all is_integer values) (nat_le (length values) TABLE_VALUES)
        (and_from (is_read_operand index) (list_all is_integer values) o v) (at_most (length values) TABLE_VALUES few))
    by false e = tt

abbrev HeadFits : List ℕ × Operand → Type 0
HeadFits p = IsNamed p.0 × IsReadOperand p.1

abbrev HowFits : ℕ × Bool → Type 0
HowFits p = ((0 ≤ p.0) × (p.0 ≤ TABLE_VALUES)) × Unit {0}

abbrev TailFits : (ℕ × Bool) × List ℤ → Type 0
TailFits p = HowFits p.0 × AreIntegers p.1

table_said : (ts : List (List ℕ)) → IfIs (table ts) IsRead
table_said [] = tt
table_said (d ∷ []) = tt
table_said (d ∷ i ∷ []) = tt
table_said (d ∷ i ∷ c ∷ []) = tt
table_said (d ∷ i ∷ c ∷ f ∷ vs) =
    let head : IfIs (table_head d i) HeadFits = if_both IsNamed IsReadOperand (name d) (operand i) (name_said d) (operand_said i) in
    let how : IfIs (both (natural_in 0 TABLE_VALUES c) (flag f)) HowFits =
    if_both (λ n. (0 ≤ n) × (n ≤ TABLE_VALUES)) (λ x. Unit {0}) (natural_in 0 TABLE_VALUES c) (flag f) (natural_said 0 TABLE_VALUES c) (anything (flag f)) in
    let tail : IfIs (both (both (natural_in 0 TABLE_VALUES c) (flag f)) (integers vs)) TailFits =
    if_both HowFits AreIntegers (both (natural_in 0 TABLE_VALUES c) (flag f)) (integers vs) how (integers_said vs) in
    let whole = both (table_head d i) (both (both (natural_in 0 TABLE_VALUES c) (flag f)) (integers vs)) in
    if_then (λ p. counted p.0.0 p.0.1 p.1.0.0 p.1.0.1 p.1.1) IsRead whole
    (if_weak (λ p. HeadFits p.0 × TailFits p.1) (λ p. IfIs (counted p.0.0 p.0.1 p.1.0.0 p.1.0.1 p.1.1) IsRead) whole
    (λ p h. counted_said p.0.0 p.0.1 p.1.0.0 p.1.0.1 p.1.1 h.0.0 h.0.1 h.1.0.0.1 h.1.1)
    (if_both HeadFits TailFits (table_head d i) (both (both (natural_in 0 TABLE_VALUES c) (flag f)) (integers vs)) head tail))

named_said : (make : List ℕ → LeafKind) (ts : List (List ℕ)) → ((n : List ℕ) → IsNamed n → IsRead (make n)) → IfIs (named make ts) IsRead
named_said make ts h = if_map make IsRead (only_name ts) (if_weak IsNamed (λ n. IsRead (make n)) (only_name ts) h (only_name_said ts))

element_said : (word : Word) (ts : List (List ℕ)) (line : List ℕ) → IfIs (element_of word ts line) IsRead
element_said Contacts ts line = contacts_said ts
element_said Coil ts line = coil_said ts
element_said Osr ts line = bare_said kind.Osr ts refl
element_said Osf ts line = bare_said kind.Osf ts refl
element_said Short ts line = bare_said kind.Short ts refl
element_said Open ts line = bare_said kind.Open ts refl
element_said Comment ts line = refl
element_said MasterRelay ts line = bare_said kind.MasterRelay ts refl
element_said Placeholder ts line = bare_said kind.Placeholder ts refl
element_said Ton ts line = timer_said timer.Ton ts
element_said Tof ts line = timer_said timer.Tof ts
element_said Rto ts line = timer_said timer.Rto ts
element_said Ctu ts line = counter_said counter.Ctu ts
element_said Ctd ts line = counter_said counter.Ctd ts
element_said Ctc ts line = counter_said counter.Ctc ts
element_said Res ts line = named_said kind.Reset ts (λ n h. h)
element_said Move ts line = move_said ts
element_said Add ts line = math_said sum.Add ts
element_said Sub ts line = math_said sum.Sub ts
element_said Mul ts line = math_said sum.Mul ts
element_said Div ts line = math_said sum.Div ts
element_said Equ ts line = compare_said test.Equ ts
element_said Neq ts line = compare_said test.Neq ts
element_said Grt ts line = compare_said test.Grt ts
element_said Geq ts line = compare_said test.Geq ts
element_said Les ts line = compare_said test.Les ts
element_said Leq ts line = compare_said test.Leq ts
element_said ShiftRegister ts line = shift_said ts
element_said LookUpTable ts line = table_said ts
element_said ReadAdc ts line = named_said kind.ReadAdc ts (λ n h. h)
element_said SetPwm ts line = pwm_said ts
element_said UartRecv ts line = named_said kind.Recv ts (λ n h. h)
element_said UartSend ts line = named_said kind.Send ts (λ n h. h)
element_said Persist ts line = named_said kind.Persist ts (λ n h. h)
element_said FormattedString ts line = tt
element_said PiecewiseLinear ts line = tt

pub in_their_ranges : (word : Word) (ts : List (List ℕ)) (line : List ℕ) (k : LeafKind) → element_of word ts line ≡ Is k → is_read_kind k ≡ true
in_their_ranges word ts line k e = said_so IsRead (element_of word ts line) k e (element_said word ts line)

abbrev IsReadPin : PinsLine → Type 0
IsReadPin p = is_read_pin p ≡ true

pin_line_said : (n pin : List ℕ) → IfIs (pins.pin_line n pin) IsReadPin
pin_line_said n pin =
    if_made (λ p. pins_line.Pin (record { name = p.0; pin = p.1 })) IsNamed (λ x. (0 ≤ x) × (x ≤ most_pin)) IsReadPin (name n) (natural_in 0 most_pin pin)
    (name_said n) (natural_said 0 most_pin pin)
    (λ p h. and_from (is_name p.0) (nat_le p.1 most_pin) h.0 (at_most p.1 most_pin h.1.1))

pins_said : (ts : List (List ℕ)) → IfIs (pins.pin_of_line ts) IsReadPin
pins_said [] = tt
pins_said (t ∷ []) = if_test IsReadPin (bytes_eq t (codes "END")) (Is pins_line.End) Bad refl tt
pins_said (n ∷ t ∷ []) = tt
pins_said (n ∷ w ∷ p ∷ []) = if_test IsReadPin (bytes_eq w (codes "at")) (pins.pin_line n p) Bad (pin_line_said n p) tt
pins_said (n ∷ w ∷ p ∷ t ∷ ts) = tt

pub pins_in_range : (ts : List (List ℕ)) (p : PinsLine) → pins.pin_of_line ts ≡ Is p → is_read_pin p ≡ true
pins_in_range ts p e = said_so IsReadPin (pins.pin_of_line ts) p e (pins_said ts)

abbrev IsReadSetting : HeaderLine → Type 0
IsReadSetting h = is_read_setting h ≡ true

keyed_said : (line : ℕ → HeaderLine) (number : Option (List ℕ)) (other : Said HeaderLine) → ((n : ℕ) → n ≤ most_setting → IsReadSetting (line n))
    → IfIs other IsReadSetting → IfIs (keyed line number other) IsReadSetting
keyed_said line None other fits h = h
keyed_said line (Some t) other fits h =
    if_map line IsReadSetting (natural_in 0 most_setting t)
    (if_weak (λ n. (0 ≤ n) × (n ≤ most_setting)) (λ n. IsReadSetting (line n)) (natural_in 0 most_setting t) (λ n h. fits n h.1)
    (natural_said 0 most_setting t))

setting_said : (t : List ℕ) → IfIs (setting t) IsReadSetting
unfolding setting
setting_said t =
    let baud = keyed header.Baud (behind_word (codes "BAUD=") t) Bad in
    let crystal = keyed header.Crystal (behind_word (codes "CRYSTAL=") t) baud in
    let cycle = keyed header.Cycle (behind_word (codes "CYCLE=") t) crystal in
    let fits : (n : ℕ) → n ≤ most_setting → nat_le n most_setting ≡ true = λ n h. at_most n most_setting h in
    let baud_said : IfIs baud IsReadSetting = keyed_said header.Baud (behind_word (codes "BAUD=") t) Bad fits tt in
    let crystal_said : IfIs crystal IsReadSetting = keyed_said header.Crystal (behind_word (codes "CRYSTAL=") t) baud fits baud_said in
    if_test IsReadSetting (bytes_eq t (codes "PROGRAM")) (Is header.Program) cycle refl (keyed_said header.Cycle (behind_word (codes "CYCLE=") t) crystal fits
    crystal_said)

tokens_said : (ts : List (List ℕ)) → IfIs (tokens_say ts) IsReadSetting
tokens_said [] = tt
tokens_said (t ∷ []) = setting_said t
tokens_said (a ∷ b ∷ []) = if_test IsReadSetting (bytes_eq a (codes "IO") && bytes_eq b (codes "LIST")) (Is header.Pins) Bad refl tt
tokens_said (a ∷ b ∷ t ∷ ts) = tt

compiled_said : (o : Option (List ℕ)) (other : Said HeaderLine) → IfIs other IsReadSetting → IfIs (compiled_or o other) IsReadSetting
compiled_said None other h = h
compiled_said (Some text) other h = refl

micro_said : (o : Option (List ℕ)) (other : Said HeaderLine) → IfIs other IsReadSetting → IfIs (micro_or o other) IsReadSetting
micro_said None other h = h
micro_said (Some text) other h = refl

header_said : (line : List ℕ) → IfIs (header_of line) IsReadSetting
header_said line =
    let other = compiled_or (behind_word (codes "COMPILED=") (trimmed line)) (tokens_say (tokens line)) in
    micro_said (behind_word (codes "MICRO=") (trimmed line)) other (compiled_said (behind_word (codes "COMPILED=") (trimmed line)) (tokens_say (tokens line))
    (tokens_said (tokens line)))

pub settings_in_range : (line : List ℕ) (h : HeaderLine) → header_of line ≡ Is h → is_read_setting h ≡ true
settings_in_range line h e = said_so IsReadSetting (header_of line) h e (header_said line)
