-- What elements are printed as, but comments: a word, and tokens behind it that are read again.
use Rattle.std.proofs.Common.{◌≡◌, ◌==◌, ◌&&◌, ℕ, ◌^◌, ◌<◌, ◌≤◌, nat_le, Bool, true, false, if◌then◌else◌, ℤ, List, [], ◌∷◌, length, Option, Some, None, is_none, refl, ap, ◌∙◌, arith}
use Rattle.std.proofs.lemmas.Bool.{and_parts}
use Rattle.std.specs.Fmt.{decimal}
use Rattle.std.specs.List.{list_all}
use Rattle.std.proofs.lemmas.Bool.Decides.{nat_tests}
use Rattle.ladder_tree.specs.declared.element.CoilMode.{CoilMode}
use Rattle.ladder_tree.specs.declared.element.CoilMode.TheVariants as mode
use Rattle.ladder_tree.specs.declared.element.TimerHow.{TimerHow}
use Rattle.ladder_tree.specs.declared.element.TimerHow.TheVariants as timer
use Rattle.ladder_tree.specs.declared.element.CounterHow.{CounterHow}
use Rattle.ladder_tree.specs.declared.element.CounterHow.TheVariants as counter
use Rattle.ladder_tree.specs.declared.element.MathHow.{MathHow}
use Rattle.ladder_tree.specs.declared.element.MathHow.TheVariants as sum
use Rattle.ladder_tree.specs.declared.element.CompareHow.{CompareHow}
use Rattle.ladder_tree.specs.declared.element.CompareHow.TheVariants as test
use Rattle.ladder_tree.specs.declared.element.LeafKind.{LeafKind}
use Rattle.ladder_tree.specs.declared.element.LeafKind.TheVariants as kind
use Rattle.ladder_tree.specs.declared.element.Operand.{Operand}
use Rattle.ladder_tree.specs.Names.{is_name}
use Rattle.ladder_tree.specs.declared.limits.TheConstants.{SHIFT_PLACES, TABLE_VALUES}
use Rattle.ld_line.specs.Elements as elements
use Rattle.ld_line.specs.Numbers.{most_delay, most_setting}
use Rattle.ld_line.specs.Range.{is_integer, is_read_operand, is_read_kind}
use Rattle.ld_line.specs.Rungs.{alone}
use Rattle.ld_line.specs.Said.{said_map, said_then}
use Rattle.ld_line.specs.Kinds.{timer_word, counter_word, math_word, compare_word, word_for}
use Rattle.ld_line.specs.Words.{spelling, word_of, is_ladder_word}
use Rattle.ld_line.specs.declared.rungs.RungLine.{RungLine}
use Rattle.ld_line.specs.declared.said.Said.TheVariants.{Bad, Is}
use Rattle.ld_line.specs.declared.word.Word.{Word}
use Rattle.ld_line.proofs.WordLemmas.{word_spelled, of_each_word}
use Rattle.ld_print.specs.Words as words
use Rattle.ld_print.proofs.TokenLemmas.{at_most, is_plain, IsToken, AllShort}
use Rattle.ld_print.proofs.NumberLemmas.{decimal_short, natural_read, integer_read, integer_short}
use Rattle.ld_print.proofs.OperandLemmas.{both_said, made_said, name_short, name_read, flag_short, flag_read, flags_short, operand_short, operand_read, integers_short, integers_read}

abbrev pub is_comment : LeafKind → Bool
is_comment (kind.Comment text) = true
is_comment _ = false

-- a word of elements that are built, as a token
pub record Begins (w : Word) : Type 0 where
  pub is_token : IsToken (spelling w)
  pub short : length (spelling w) ≤ 16
  pub no_form : alone (spelling w) ≡ None
  pub known : word_of (spelling w) ≡ Some w
  pub built : is_ladder_word w ≡ true

-- what holds of the spelling of each word
abbrev is_fine : Word → Bool
is_fine w = list_all is_plain (spelling w) && (is_none (alone (spelling w)) && (nat_le 1 (length (spelling w)) && nat_le (length (spelling w)) 16))

word_begins : (w : Word) → is_ladder_word w ≡ true → Begins w
word_begins w built =
    let s = spelling w in
    let plain = and_parts (list_all is_plain s) (is_none (alone s) && (nat_le 1 (length s) && nat_le (length s) 16)) (of_each_word is_fine w refl) in
    let free = and_parts (is_none (alone s)) (nat_le 1 (length s) && nat_le (length s) 16) plain.1 in
    let sized = and_parts (nat_le 1 (length s)) (nat_le (length s) 16) free.1 in
    record {
      is_token = record { some = at_most 1 (length s) sized.0; plain = plain.0 };
      short = at_most (length s) 16 sized.1;
      no_form = none_is (alone s) free.0;
      known = word_spelled w;
      built = built;
    }
  where
    none_is : (o : Option RungLine) → is_none o ≡ true → o ≡ None
    none_is None h = refl
    none_is (Some x) h = absurd cc

timer_built : (how : TimerHow) → is_ladder_word (timer_word how) ≡ true
timer_built timer.Ton = refl
timer_built timer.Tof = refl
timer_built timer.Rto = refl

counter_built : (how : CounterHow) → is_ladder_word (counter_word how) ≡ true
counter_built counter.Ctu = refl
counter_built counter.Ctd = refl
counter_built counter.Ctc = refl

math_built : (how : MathHow) → is_ladder_word (math_word how) ≡ true
math_built sum.Add = refl
math_built sum.Sub = refl
math_built sum.Mul = refl
math_built sum.Div = refl

compare_built : (how : CompareHow) → is_ladder_word (compare_word how) ≡ true
compare_built test.Equ = refl
compare_built test.Neq = refl
compare_built test.Grt = refl
compare_built test.Geq = refl
compare_built test.Les = refl
compare_built test.Leq = refl

kind_built : (k : LeafKind) → is_read_kind k ≡ true → is_ladder_word (word_for k) ≡ true
kind_built (kind.Contacts name neg) h = refl
kind_built (kind.Coil name mode) h = refl
kind_built kind.Osr h = refl
kind_built kind.Osf h = refl
kind_built kind.Short h = refl
kind_built kind.Open h = refl
kind_built kind.MasterRelay h = refl
kind_built kind.Placeholder h = refl
kind_built (kind.Comment text) h = refl
kind_built (kind.Timer how name delay) h = timer_built how
kind_built (kind.Counter how name max) h = counter_built how
kind_built (kind.Reset name) h = refl
kind_built (kind.Move dest src) h = refl
kind_built (kind.Math how dest a b) h = math_built how
kind_built (kind.Compare how a b) h = compare_built how
kind_built (kind.Shift name places) h = refl
kind_built (kind.Table dest index as_text values) h = refl
kind_built (kind.ReadAdc name) h = refl
kind_built (kind.SetPwm name hz) h = refl
kind_built (kind.Recv name) h = refl
kind_built (kind.Send name) h = refl
kind_built (kind.Persist name) h = refl
kind_built (kind.Linear dest index points) h = absurd cc
kind_built (kind.Formatted name text) h = absurd cc

pub kind_begins : (k : LeafKind) → is_read_kind k ≡ true → Begins (word_for k)
kind_begins k h = word_begins (word_for k) (kind_built k h)

-- the tokens

-- a number that is not greater than the greatest of a setting or a delay
number_short : (n most : ℕ) → most < 10 ^ 10 → nat_le n most ≡ true → n < 10 ^ 10
number_short n most small h = omega (arith, small, at_most n most h)

record FitsTable (dest : List ℕ) (index : Operand) (values : List ℤ) : Type 0 where
  is_named : is_name dest ≡ true
  is_read : is_read_operand index ≡ true
  are_integers : list_all is_integer values ≡ true
  few : length values ≤ TABLE_VALUES

fits_table : (dest : List ℕ) (index : Operand) (as_text : Bool) (values : List ℤ) → is_read_kind (kind.Table dest index as_text values) ≡ true
    → FitsTable dest index values
fits_table dest index as_text values h =
    let g = and_parts (is_name dest) ((is_read_operand index && list_all is_integer values) && nat_le (length values) TABLE_VALUES) h in
    let f = and_parts (is_read_operand index && list_all is_integer values) (nat_le (length values) TABLE_VALUES) g.1 in
    let e = and_parts (is_read_operand index) (list_all is_integer values) f.0 in
    record { is_named = g.0; is_read = e.0; are_integers = e.1; few = at_most (length values) TABLE_VALUES f.1 }

pub kind_short : (k : LeafKind) → is_read_kind k ≡ true → is_comment k ≡ false → AllShort (words.tokens_behind k)
kind_short (kind.Contacts name neg) h c = (name_short name h, (flag_short neg, tt))
kind_short (kind.Coil name mode) h c = (name_short name h, flags_short mode)
kind_short kind.Osr h c = tt
kind_short kind.Osf h c = tt
kind_short kind.Short h c = tt
kind_short kind.Open h c = tt
kind_short kind.MasterRelay h c = tt
kind_short kind.Placeholder h c = tt
kind_short (kind.Comment text) h c = absurd cc
kind_short (kind.Timer how name delay) h c =
    let g = and_parts (is_name name) (nat_le delay most_delay) h in
    (name_short name g.0, (decimal_short delay (number_short delay most_delay (omega arith) g.1), tt))
kind_short (kind.Counter how name max) h c = let g = and_parts (is_name name) (is_integer max) h in (name_short name g.0, (integer_short max g.1, tt))
kind_short (kind.Reset name) h c = (name_short name h, tt)
kind_short (kind.Move dest src) h c = let g = and_parts (is_name dest) (is_read_operand src) h in (name_short dest g.0, (operand_short src g.1, tt))
kind_short (kind.Math how dest a b) h c =
    let g = and_parts (is_name dest) (is_read_operand a && is_read_operand b) h in
    let f = and_parts (is_read_operand a) (is_read_operand b) g.1 in
    (name_short dest g.0, (operand_short a f.0, (operand_short b f.1, tt)))
kind_short (kind.Compare how a b) h c = let g = and_parts (is_read_operand a) (is_read_operand b) h in (operand_short a g.0, (operand_short b g.1, tt))
kind_short (kind.Shift name places) h c =
    let g = and_parts (is_name name) (nat_le 1 places && nat_le places SHIFT_PLACES) h in
    let f = and_parts (nat_le 1 places) (nat_le places SHIFT_PLACES) g.1 in
    (name_short name g.0, (decimal_short places (number_short places SHIFT_PLACES (omega arith) f.1), tt))
kind_short (kind.Table dest index as_text values) h c =
    let t = fits_table dest index as_text values h in (
      name_short dest t.is_named,
      (
        operand_short index t.is_read,
        (
          decimal_short (length values) (omega (arith, t.few)),
          (flag_short as_text, integers_short values t.are_integers),
        ),
      ),
    )
kind_short (kind.ReadAdc name) h c = (name_short name h, tt)
kind_short (kind.SetPwm name hz) h c =
    let g = and_parts (is_name name) (nat_le hz most_setting) h in
    (name_short name g.0, (decimal_short hz (number_short hz most_setting (omega arith) g.1), tt))
kind_short (kind.Recv name) h c = (name_short name h, tt)
kind_short (kind.Send name) h c = (name_short name h, tt)
kind_short (kind.Persist name) h c = (name_short name h, tt)
kind_short (kind.Linear dest index points) h c = absurd cc
kind_short (kind.Formatted name text) h c = absurd cc

-- what the tokens say

coil_read : (n : List ℕ) (m : CoilMode) → is_name n ≡ true → elements.coil (n ∷ words.mode_flags m) ≡ Is (kind.Coil n m)
coil_read n mode.Plain h = made_said (λ p. kind.Coil p.0 p.1) (name_read n h) refl
coil_read n mode.Negated h = made_said (λ p. kind.Coil p.0 p.1) (name_read n h) refl
coil_read n mode.Set h = made_said (λ p. kind.Coil p.0 p.1) (name_read n h) refl
coil_read n mode.Reset h = made_said (λ p. kind.Coil p.0 p.1) (name_read n h) refl

timer_by_word : (how : TimerHow) (ts : List (List ℕ)) (line : List ℕ) → elements.element_of (timer_word how) ts line ≡ elements.timer_of how ts
timer_by_word timer.Ton ts line = refl
timer_by_word timer.Tof ts line = refl
timer_by_word timer.Rto ts line = refl

counter_by_word : (how : CounterHow) (ts : List (List ℕ)) (line : List ℕ) → elements.element_of (counter_word how) ts line ≡ elements.counter_of how ts
counter_by_word counter.Ctu ts line = refl
counter_by_word counter.Ctd ts line = refl
counter_by_word counter.Ctc ts line = refl

math_by_word : (how : MathHow) (ts : List (List ℕ)) (line : List ℕ) → elements.element_of (math_word how) ts line ≡ elements.math how ts
math_by_word sum.Add ts line = refl
math_by_word sum.Sub ts line = refl
math_by_word sum.Mul ts line = refl
math_by_word sum.Div ts line = refl

compare_by_word : (how : CompareHow) (ts : List (List ℕ)) (line : List ℕ) → elements.element_of (compare_word how) ts line ≡ elements.compare how ts
compare_by_word test.Equ ts line = refl
compare_by_word test.Neq ts line = refl
compare_by_word test.Grt ts line = refl
compare_by_word test.Geq ts line = refl
compare_by_word test.Les ts line = refl
compare_by_word test.Leq ts line = refl

timer_read : (how : TimerHow) (n : List ℕ) (delay : ℕ) → is_read_kind (kind.Timer how n delay) ≡ true
    → elements.timer_of how (n ∷ decimal delay ∷ []) ≡ Is (kind.Timer how n delay)
timer_read how n delay h =
    let g = and_parts (is_name n) (nat_le delay most_delay) h in
    let few = at_most delay most_delay g.1 in
    made_said (λ p. kind.Timer how p.0 p.1) (name_read n g.0) (natural_read 0 most_delay delay (omega arith) few (omega (arith, few)))

math_read : (how : MathHow) (dest : List ℕ) (a b : Operand) → is_read_kind (kind.Math how dest a b) ≡ true
    → elements.math how (dest ∷ words.operand_text a ∷ words.operand_text b ∷ []) ≡ Is (kind.Math how dest a b)
math_read how dest a b h =
    let g = and_parts (is_name dest) (is_read_operand a && is_read_operand b) h in
    let f = and_parts (is_read_operand a) (is_read_operand b) g.1 in
    made_said (λ p. kind.Math how p.0 p.1.0 p.1.1) (name_read dest g.0) (both_said (operand_read a f.0) (operand_read b f.1))

shift_read : (n : List ℕ) (places : ℕ) → is_read_kind (kind.Shift n places) ≡ true → elements.shift (n ∷ decimal places ∷ []) ≡ Is (kind.Shift n places)
shift_read n places h =
    let g = and_parts (is_name n) (nat_le 1 places && nat_le places SHIFT_PLACES) h in
    let f = and_parts (nat_le 1 places) (nat_le places SHIFT_PLACES) g.1 in
    let few = at_most places SHIFT_PLACES f.1 in
    made_said (λ p. kind.Shift p.0 p.1) (name_read n g.0) (natural_read 1 SHIFT_PLACES places (at_most 1 places f.0) few (omega (arith, few)))

table_read : (dest : List ℕ) (index : Operand) (as_text : Bool) (values : List ℤ) → FitsTable dest index values
    → elements.table (dest ∷ words.operand_text index ∷ decimal (length values) ∷ words.flag as_text ∷ words.integers values) ≡ Is
    (kind.Table dest index as_text values)
table_read dest index as_text values t =
    let same : (length values == length values) ≡ true = grind (arith, nat_tests) in
    ap (said_then (λ p. elements.counted p.0.0 p.0.1 p.1.0.0 p.1.0.1 p.1.1))
    (both_said (both_said (name_read dest t.is_named) (operand_read index t.is_read))
    (both_said (both_said (natural_read 0 TABLE_VALUES (length values) (omega arith) t.few (omega (arith, t.few))) (flag_read as_text))
    (integers_read values t.are_integers)))
    ∙ ap (λ b. if b then Is (kind.Table dest index as_text values) else Bad) same

pwm_read : (n : List ℕ) (hz : ℕ) → is_read_kind (kind.SetPwm n hz) ≡ true → elements.pwm (n ∷ decimal hz ∷ []) ≡ Is (kind.SetPwm n hz)
pwm_read n hz h =
    let g = and_parts (is_name n) (nat_le hz most_setting) h in
    let few = at_most hz most_setting g.1 in
    made_said (λ p. kind.SetPwm p.0 p.1) (name_read n g.0) (natural_read 0 most_setting hz (omega arith) few (omega (arith, few)))

pub kind_read : (k : LeafKind) → is_read_kind k ≡ true → is_comment k ≡ false → (line : List ℕ)
    → elements.element_of (word_for k) (words.tokens_behind k) line ≡ Is k
kind_read (kind.Contacts name neg) h c line = made_said (λ p. kind.Contacts p.0 p.1) (name_read name h) (flag_read neg)
kind_read (kind.Coil name mode) h c line = coil_read name mode h
kind_read kind.Osr h c line = refl
kind_read kind.Osf h c line = refl
kind_read kind.Short h c line = refl
kind_read kind.Open h c line = refl
kind_read kind.MasterRelay h c line = refl
kind_read kind.Placeholder h c line = refl
kind_read (kind.Comment text) h c line = absurd cc
kind_read (kind.Timer how name delay) h c line = timer_by_word how (name ∷ decimal delay ∷ []) line ∙ timer_read how name delay h
kind_read (kind.Counter how name max) h c line =
    let g = and_parts (is_name name) (is_integer max) h in
    counter_by_word how (words.tokens_behind (kind.Counter how name max)) line ∙ made_said (λ p. kind.Counter how p.0 p.1) (name_read name g.0)
    (integer_read max g.1)
kind_read (kind.Reset name) h c line = ap (said_map kind.Reset) (name_read name h)
kind_read (kind.Move dest src) h c line =
    let g = and_parts (is_name dest) (is_read_operand src) h in
    made_said (λ p. kind.Move p.0 p.1) (name_read dest g.0) (operand_read src g.1)
kind_read (kind.Math how dest a b) h c line = math_by_word how (words.tokens_behind (kind.Math how dest a b)) line ∙ math_read how dest a b h
kind_read (kind.Compare how a b) h c line =
    let g = and_parts (is_read_operand a) (is_read_operand b) h in
    compare_by_word how (words.tokens_behind (kind.Compare how a b)) line ∙ made_said (λ p. kind.Compare how p.0 p.1) (operand_read a g.0) (operand_read b g.1)
kind_read (kind.Shift name places) h c line = shift_read name places h
kind_read (kind.Table dest index as_text values) h c line = table_read dest index as_text values (fits_table dest index as_text values h)
kind_read (kind.ReadAdc name) h c line = ap (said_map kind.ReadAdc) (name_read name h)
kind_read (kind.SetPwm name hz) h c line = pwm_read name hz h
kind_read (kind.Recv name) h c line = ap (said_map kind.Recv) (name_read name h)
kind_read (kind.Send name) h c line = ap (said_map kind.Send) (name_read name h)
kind_read (kind.Persist name) h c line = ap (said_map kind.Persist) (name_read name h)
kind_read (kind.Linear dest index points) h c line = absurd cc
kind_read (kind.Formatted name text) h c line = absurd cc
