-- A line that is written reads back.
use Rattle.std.proofs.Common.{◌≡◌, ℕ, ◌<◌, ◌≤◌, Bool, true, not, ◌==◌, false, nat_le, List, [], ◌∷◌, ◌++◌, length, get_or, map, Some, ℤ, refl, ap, ◌∙◌, arith, All, codes, append_assoc}
use Rattle.std.proofs.lemmas.Bool.Decides.{nat_tests}
use Rattle.std.proofs.lemmas.Bool.{leb-true, and_parts}
use Rattle.std.proofs.lemmas.List.{append-nil}
use Rattle.std.proofs.lemmas.List.Sums.{AllPass-from_list_all}
use Rattle.std.proofs.lemmas.List.Folds.{list_all-append}
use Rattle.std.proofs.lemmas.List.Elements.{All-head, All-tail}
use Rattle.std.specs.Option.{option_and_then}
use Rattle.std.specs.List.{list_all}
use Rattle.std.specs.Fmt.{decimal, signed_decimal}
use Rattle.texts.specs.Lines.{pieces}
use Rattle.ladder_tree.specs.Names.{is_name_within}
use Rattle.int_code.specs.declared.op.NumSource.{NumSource}
use Rattle.int_code.specs.declared.op.IntOp.{IntOp}
use Rattle.int_code.specs.declared.op.IntOp.TheVariants.{Set, Clr, Cpy, Not, Ifs, Ifc, Iflt, Ifeq, Ifee, Els, Fi, Lit, Mov, Add, Sub, Mul, Div, Inc, Dec, Adc, Pwm, Rx, Tx, Eebusy, Eerd, Eewr, Tab}
use Rattle.int_code.specs.Text.{dest_text, source_text, variable_text, number_text, values_text}
use Rattle.int_code.specs.WellFormed.{Sizes, IsNumSource, IsInRange, most_values}
use Rattle.interp_code.specs.Line.{Line, Magic, Cycle, Input, Output, Analog, Variable, Relay, Persistent, BitCount, Code, Operation, End, most_count, integers, counted, table_of, op_of, line_of}
use Rattle.int_code.specs.Literals.{most_hertz, IsNumber, HoldsNumber, HoldsNumbers}
use Rattle.interp_code.specs.Text.{line_text}
use Rattle.interp_code.proofs.SpelledWords.{lacks, IsClean, IsSmall, piece_cut, piece_end, name_spells, number_spells, index_spells, integer_spells, dest_spells, source_spells, variable_spells, source_number_spells}
use Rattle.interp_code.proofs.WordLemmas.{words_say}

-- a line that is written says what it should, and is one line
pub record Reads (l : Line) : Type 0 where
  pub of : line_of (line_text l) ≡ Some l
  pub clean : lacks 10 (line_text l) ≡ true

-- a word, and one, two and three behind it
line_with_one : (word a : List ℕ) → IsClean word → IsClean a → pieces 32 (word ++ 32 ∷ a) ≡ word ∷ (a ∷ [])
line_with_one word a w h = piece_cut word a w ∙ ap (λ ws. word ∷ ws) (piece_end a h)

line_with_two : (word a b : List ℕ) → IsClean word → IsClean a → IsClean b → pieces 32 (word ++ 32 ∷ (a ++ 32 ∷ b)) ≡ word ∷ (a ∷ (b ∷ []))
line_with_two word a b w h k = piece_cut word (a ++ 32 ∷ b) w ∙ ap (λ ws. word ∷ ws) (line_with_one a b h k)

line_with_three : (word a b c : List ℕ) → IsClean word → IsClean a → IsClean b → IsClean c
    → pieces 32 (word ++ 32 ∷ (a ++ 32 ∷ (b ++ 32 ∷ c))) ≡ word ∷ (a ∷ (b ∷ (c ∷ [])))
line_with_three word a b c w h k l = piece_cut word (a ++ 32 ∷ (b ++ 32 ∷ c)) w ∙ ap (λ ws. word ∷ ws) (line_with_two a b c h k l)

-- a space is no line feed
spaced : (word rest : List ℕ) → IsClean word → lacks 10 rest ≡ true → lacks 10 (word ++ 32 ∷ rest) ≡ true
spaced word rest w h = list_all-append (λ b. not (b == 10)) word (32 ∷ rest) ∙ rw (w 10 (omega arith), h) refl

-- how a line reads whose words are known
words_read : (l : Line) (words : List (List ℕ)) → pieces 32 (line_text l) ≡ words → words_say words ≡ Some l → lacks 10 (line_text l) ≡ true → Reads l
words_read l words are says clean = record { of = ap words_say are ∙ says; clean = clean }

one_reads : (l : Line) (word a : List ℕ) → line_text l ≡ word ++ 32 ∷ a → IsClean word → IsClean a → words_say (word ∷ (a ∷ [])) ≡ Some l → Reads l
one_reads l word a text w h says =
    words_read l (word ∷ (a ∷ [])) (ap (pieces 32) text ∙ line_with_one word a w h) says (ap (lacks 10) text ∙ spaced word a w (h 10 (omega arith)))

two_reads : (l : Line) (word a b : List ℕ) → line_text l ≡ word ++ 32 ∷ (a ++ 32 ∷ b) → IsClean word → IsClean a → IsClean b
    → words_say (word ∷ (a ∷ (b ∷ []))) ≡ Some l → Reads l
two_reads l word a b text w h k says =
    words_read l (word ∷ (a ∷ (b ∷ []))) (ap (pieces 32) text ∙ line_with_two word a b w h k) says
    (ap (lacks 10) text ∙ spaced word (a ++ 32 ∷ b) w (spaced a b h (k 10 (omega arith))))

three_reads : (l : Line) (word a b c : List ℕ) → line_text l ≡ word ++ 32 ∷ (a ++ 32 ∷ (b ++ 32 ∷ c)) → IsClean word → IsClean a → IsClean b → IsClean c
    → words_say (word ∷ (a ∷ (b ∷ (c ∷ [])))) ≡ Some l → Reads l
three_reads l word a b c text w h k m says =
    words_read l (word ∷ (a ∷ (b ∷ (c ∷ [])))) (ap (pieces 32) text ∙ line_with_three word a b c w h k m) says
    (ap (lacks 10) text ∙ spaced word (a ++ 32 ∷ (b ++ 32 ∷ c)) w (spaced a (b ++ 32 ∷ c) h (spaced b c k (m 10 (omega arith)))))

-- bytes above 44
abbrev high : List ℕ → Bool
high xs = list_all (λ b. nat_le 45 b) xs

-- a word of such bytes has no space and no line feed
literal : (word : List ℕ) → high word ≡ true → IsClean word
literal [] h = λ s low. refl
literal (c ∷ cs) h =
    λ s low. let first = (and_parts (nat_le 45 c) (high cs) h).0 in let other : (c == s) ≡ false = grind (arith, nat_tests) in rw
    (other, literal cs (and_parts (nat_le 45 c) (high cs) h).1 s low) refl

pub magic_reads : Reads Magic
magic_reads = record { of = refl; clean = refl }

pub code_reads : Reads Code
code_reads = record { of = refl; clean = refl }

pub end_reads : Reads End
end_reads = record { of = refl; clean = refl }

pub fi_reads : Reads (Operation Fi)
fi_reads = record { of = refl; clean = refl }

pub cycle_reads : (n : ℕ) → n ≤ 999999999 → Reads (Cycle n)
cycle_reads n h =
    let k = number_spells 999999999 n h (omega arith) in
    one_reads (Cycle n) (codes "cycle") (decimal n) refl (literal (codes "cycle") refl) k.clean (rw k.of refl)

pub bits_reads : (n : ℕ) → n ≤ most_count → Reads (BitCount n)
bits_reads n h =
    let k = number_spells most_count n h (omega arith) in
    one_reads (BitCount n) (codes "bits") (decimal n) refl (literal (codes "bits") refl) k.clean (rw k.of refl)

pub input_reads : (n : List ℕ) → is_name_within 66 n ≡ true → Reads (Input n)
input_reads n h = let k = name_spells n h in one_reads (Input n) (codes "input") n refl (literal (codes "input") refl) k.clean (rw k.of refl)

pub output_reads : (n : List ℕ) → is_name_within 66 n ≡ true → Reads (Output n)
output_reads n h = let k = name_spells n h in one_reads (Output n) (codes "output") n refl (literal (codes "output") refl) k.clean (rw k.of refl)

pub analog_reads : (n : List ℕ) → is_name_within 66 n ≡ true → Reads (Analog n)
analog_reads n h = let k = name_spells n h in one_reads (Analog n) (codes "analog") n refl (literal (codes "analog") refl) k.clean (rw k.of refl)

pub relay_reads : (n : List ℕ) → is_name_within 66 n ≡ true → Reads (Relay n)
relay_reads n h = let k = name_spells n h in one_reads (Relay n) (codes "relay") n refl (literal (codes "relay") refl) k.clean (rw k.of refl)

pub persistent_reads : (n : List ℕ) → is_name_within 66 n ≡ true → Reads (Persistent n)
persistent_reads n h = let k = name_spells n h in one_reads (Persistent n) (codes "persist") n refl (literal (codes "persist") refl) k.clean (rw k.of refl)

pub variable_reads : (n : List ℕ) (value : ℤ) → is_name_within 66 n ≡ true → IsNumber value → Reads (Variable n value)
variable_reads n value h short =
    let k = name_spells n h in
    let v = integer_spells value short in
    two_reads (Variable n value) (codes "var") n (signed_decimal value) refl (literal (codes "var") refl) k.clean v.clean (rw (k.of, v.of) refl)

-- the values of a table
values_pieces : (word : List ℕ) (values : List ℤ) → IsClean word → All IsNumber values
    → pieces 32 (word ++ values_text values) ≡ word ∷ map signed_decimal values
values_pieces word [] w h = rw append-nil (piece_end word w)
values_pieces word (n ∷ ns) w h =
    let first = integer_spells n (All-head IsNumber n ns h) in
    piece_cut word (signed_decimal n ++ values_text ns) w ∙ ap (λ ws. word ∷ ws) (values_pieces (signed_decimal n) ns first.clean (All-tail IsNumber n ns h))

values_clean : (values : List ℤ) → All IsNumber values → lacks 10 (values_text values) ≡ true
values_clean [] h = refl
values_clean (n ∷ ns) h =
    let first = integer_spells n (All-head IsNumber n ns h) in
    list_all-append (λ b. not (b == 10)) (signed_decimal n) (values_text ns)
    ∙ rw (first.clean 10 (omega arith), values_clean ns (All-tail IsNumber n ns h)) refl

integers_read : (values : List ℤ) → All IsNumber values → integers (map signed_decimal values) ≡ Some values
integers_read [] h = refl
integers_read (n ∷ ns) h = rw ((integer_spells n (All-head IsNumber n ns h)).of, integers_read ns (All-tail IsNumber n ns h)) refl

values_read : (values : List ℤ) → All IsNumber values → option_and_then (counted (length values)) (integers (map signed_decimal values)) ≡ Some values
values_read values h = rw (integers_read values h, same) refl
  where
    same : (length values == length values) ≡ true
    same = grind (arith, nat_tests)

table_words : (a b c : List ℕ) (words : List (List ℕ)) → op_of (codes "tab" ∷ (a ∷ (b ∷ (c ∷ words)))) ≡ table_of (codes "tab") a b c words
table_words a b c [] = refl
table_words a b c (d ∷ words) = refl

table_says : (a b c : List ℕ) (words : List (List ℕ)) (op : IntOp) → table_of (codes "tab") a b c words ≡ Some op
    → words_say (codes "tab" ∷ (a ∷ (b ∷ (c ∷ words)))) ≡ Some (Operation op)
table_says a b c words op h = rw (table_words a b c words, h) refl

-- a table's line, as its words and its values
table_text : (v : ℕ) (w : NumSource) (values : List ℤ) → line_text (Operation (Tab v w values)) ≡ codes "tab" ++ 32 ∷
    (variable_text v ++ 32 ∷ (number_text w ++ 32 ∷ (decimal (length values) ++ values_text values)))
table_text v w values = simp append_assoc

module _ (n : Sizes) (small : IsSmall n) where
  table_reads : (v : ℕ) (w : NumSource) (values : List ℤ) → v < n.variables → IsNumSource n w → length values ≤ most_values → HoldsNumber w
      → All IsNumber values → Reads (Operation (Tab v w values))
  table_reads v w values hv hw few short all =
      let a = variable_spells n small v hv in
      let b = source_number_spells n small w hw short in
      let c = number_spells most_values (length values) few (omega arith) in
      let tab = literal (codes "tab") refl in
      let count : List ℕ = decimal (length values) ++ values_text values in
      let number : List ℕ = number_text w ++ 32 ∷ count in
      let variable : List ℕ = variable_text v ++ 32 ∷ number in
      words_read (Operation (Tab v w values)) (codes "tab" ∷ (variable_text v ∷ (number_text w ∷ (decimal (length values) ∷ map signed_decimal values))))
      (ap (pieces 32) (table_text v w values)
      ∙ piece_cut (codes "tab") variable tab ∙ ap (λ ws. codes "tab" ∷ ws) (piece_cut (variable_text v) number a.clean ∙ ap (λ ws. variable_text v ∷ ws)
      (piece_cut (number_text w) count b.clean ∙ ap (λ ws. number_text w ∷ ws) (values_pieces (decimal (length values)) values c.clean all))))
      (table_says (variable_text v) (number_text w) (decimal (length values)) (map signed_decimal values) (Tab v w values)
      (rw (a.of, b.of, c.of, values_read values all) refl))
      (ap (lacks 10) (table_text v w values) ∙ spaced (codes "tab") variable tab (spaced (variable_text v) number a.clean (spaced (number_text w) count b.clean
      (list_all-append (λ x. not (x == 10)) (decimal (length values)) (values_text values) ∙ rw (c.clean 10 (omega arith), values_clean values all) refl))))

  pub op_reads : (op : IntOp) → IsInRange n op → HoldsNumbers op → Reads (Operation op)
  op_reads (Set b) h short =
      let b_word = dest_spells n small b h in
      one_reads (Operation (Set b)) (codes "set") (dest_text b) refl (literal (codes "set") refl) b_word.clean (rw b_word.of refl)
  op_reads (Clr b) h short =
      let b_word = dest_spells n small b h in
      one_reads (Operation (Clr b)) (codes "clr") (dest_text b) refl (literal (codes "clr") refl) b_word.clean (rw b_word.of refl)
  op_reads (Cpy b s) h short =
      let b_word = dest_spells n small b h.0 in
      let s_word = source_spells n small s h.1 in
      two_reads (Operation (Cpy b s)) (codes "cpy") (dest_text b) (source_text s) refl (literal (codes "cpy") refl) b_word.clean s_word.clean
      (rw (b_word.of, s_word.of) refl)
  op_reads (Not b s) h short =
      let b_word = dest_spells n small b h.0 in
      let s_word = source_spells n small s h.1 in
      two_reads (Operation (Not b s)) (codes "not") (dest_text b) (source_text s) refl (literal (codes "not") refl) b_word.clean s_word.clean
      (rw (b_word.of, s_word.of) refl)
  op_reads (Ifs s) h short =
      let s_word = source_spells n small s h in
      one_reads (Operation (Ifs s)) (codes "ifs") (source_text s) refl (literal (codes "ifs") refl) s_word.clean (rw s_word.of refl)
  op_reads (Ifc s) h short =
      let s_word = source_spells n small s h in
      one_reads (Operation (Ifc s)) (codes "ifc") (source_text s) refl (literal (codes "ifc") refl) s_word.clean (rw s_word.of refl)
  op_reads (Iflt w u) h short =
      let w_word = source_number_spells n small w h.0 short.0 in
      let u_word = source_number_spells n small u h.1 short.1 in
      two_reads (Operation (Iflt w u)) (codes "iflt") (number_text w) (number_text u) refl (literal (codes "iflt") refl) w_word.clean u_word.clean
      (rw (w_word.of, u_word.of) refl)
  op_reads (Ifeq w u) h short =
      let w_word = source_number_spells n small w h.0 short.0 in
      let u_word = source_number_spells n small u h.1 short.1 in
      two_reads (Operation (Ifeq w u)) (codes "ifeq") (number_text w) (number_text u) refl (literal (codes "ifeq") refl) w_word.clean u_word.clean
      (rw (w_word.of, u_word.of) refl)
  op_reads (Ifee v a) h short =
      let v_word = variable_spells n small v h.0 in
      let a_word = index_spells n.persistent a h.1 small.persistent in
      two_reads (Operation (Ifee v a)) (codes "ifee") (variable_text v) (decimal a) refl (literal (codes "ifee") refl) v_word.clean a_word.clean
      (rw (v_word.of, a_word.of) refl)
  op_reads Els h short = record { of = refl; clean = refl }
  op_reads Fi h short = fi_reads
  op_reads (Lit v k) h short =
      let v_word = variable_spells n small v h in
      let k_word = integer_spells k short in
      two_reads (Operation (Lit v k)) (codes "lit") (variable_text v) (signed_decimal k) refl (literal (codes "lit") refl) v_word.clean k_word.clean
      (rw (v_word.of, k_word.of) refl)
  op_reads (Mov v from) h short =
      let v_word = variable_spells n small v h.0 in
      let from_word = variable_spells n small from h.1 in
      two_reads (Operation (Mov v from)) (codes "mov") (variable_text v) (variable_text from) refl (literal (codes "mov") refl) v_word.clean from_word.clean
      (rw (v_word.of, from_word.of) refl)
  op_reads (Add v w u) h short =
      let v_word = variable_spells n small v h.0 in
      let w_word = source_number_spells n small w h.1 short.0 in
      let u_word = source_number_spells n small u h.2 short.1 in
      three_reads (Operation (Add v w u)) (codes "add") (variable_text v) (number_text w) (number_text u) refl
      (literal (codes "add") refl) v_word.clean w_word.clean u_word.clean (rw (v_word.of, w_word.of, u_word.of) refl)
  op_reads (Sub v w u) h short =
      let v_word = variable_spells n small v h.0 in
      let w_word = source_number_spells n small w h.1 short.0 in
      let u_word = source_number_spells n small u h.2 short.1 in
      three_reads (Operation (Sub v w u)) (codes "sub") (variable_text v) (number_text w) (number_text u) refl
      (literal (codes "sub") refl) v_word.clean w_word.clean u_word.clean (rw (v_word.of, w_word.of, u_word.of) refl)
  op_reads (Mul v w u) h short =
      let v_word = variable_spells n small v h.0 in
      let w_word = source_number_spells n small w h.1 short.0 in
      let u_word = source_number_spells n small u h.2 short.1 in
      three_reads (Operation (Mul v w u)) (codes "mul") (variable_text v) (number_text w) (number_text u) refl
      (literal (codes "mul") refl) v_word.clean w_word.clean u_word.clean (rw (v_word.of, w_word.of, u_word.of) refl)
  op_reads (Div v w u) h short =
      let v_word = variable_spells n small v h.0 in
      let w_word = source_number_spells n small w h.1 short.0 in
      let u_word = source_number_spells n small u h.2 short.1 in
      three_reads (Operation (Div v w u)) (codes "div") (variable_text v) (number_text w) (number_text u) refl
      (literal (codes "div") refl) v_word.clean w_word.clean u_word.clean (rw (v_word.of, w_word.of, u_word.of) refl)
  op_reads (Inc v) h short =
      let v_word = variable_spells n small v h in
      one_reads (Operation (Inc v)) (codes "inc") (variable_text v) refl (literal (codes "inc") refl) v_word.clean (rw v_word.of refl)
  op_reads (Dec v) h short =
      let v_word = variable_spells n small v h in
      one_reads (Operation (Dec v)) (codes "dec") (variable_text v) refl (literal (codes "dec") refl) v_word.clean (rw v_word.of refl)
  op_reads (Adc v k) h short =
      let v_word = variable_spells n small v h.0 in
      let k_word = index_spells n.analogs k h.1 small.analogs in
      two_reads (Operation (Adc v k)) (codes "adc") (variable_text v) (decimal k) refl (literal (codes "adc") refl) v_word.clean k_word.clean
      (rw (v_word.of, k_word.of) refl)
  op_reads (Pwm w hz) h short =
      let w_word = source_number_spells n small w h short.0 in
      let few = leb-true hz most_hertz short.1 in
      let hz_word = number_spells most_count hz (omega (arith, few)) (omega (arith, few)) in
      two_reads (Operation (Pwm w hz)) (codes "pwm") (number_text w) (decimal hz) refl (literal (codes "pwm") refl) w_word.clean hz_word.clean
      (rw (w_word.of, hz_word.of) refl)
  op_reads (Rx v b) h short =
      let v_word = variable_spells n small v h.0 in
      let b_word = dest_spells n small b h.1 in
      two_reads (Operation (Rx v b)) (codes "rx") (variable_text v) (dest_text b) refl (literal (codes "rx") refl) v_word.clean b_word.clean
      (rw (v_word.of, b_word.of) refl)
  op_reads (Tx w s b) h short =
      let w_word = source_number_spells n small w h.0 short in
      let s_word = source_spells n small s h.1 in
      let b_word = dest_spells n small b h.2 in
      three_reads (Operation (Tx w s b)) (codes "tx") (number_text w) (source_text s) (dest_text b) refl
      (literal (codes "tx") refl) w_word.clean s_word.clean b_word.clean (rw (w_word.of, s_word.of, b_word.of) refl)
  op_reads (Eebusy b) h short =
      let b_word = dest_spells n small b h in
      one_reads (Operation (Eebusy b)) (codes "eebusy") (dest_text b) refl (literal (codes "eebusy") refl) b_word.clean (rw b_word.of refl)
  op_reads (Eerd v a) h short =
      let v_word = variable_spells n small v h.0 in
      let a_word = index_spells n.persistent a h.1 small.persistent in
      two_reads (Operation (Eerd v a)) (codes "eerd") (variable_text v) (decimal a) refl (literal (codes "eerd") refl) v_word.clean a_word.clean
      (rw (v_word.of, a_word.of) refl)
  op_reads (Eewr w a) h short =
      let w_word = source_number_spells n small w h.0 short in
      let a_word = index_spells n.persistent a h.1 small.persistent in
      two_reads (Operation (Eewr w a)) (codes "eewr") (number_text w) (decimal a) refl (literal (codes "eewr") refl) w_word.clean a_word.clean
      (rw (w_word.of, a_word.of) refl)
  op_reads (Tab v w values) h short = table_reads v w values h.0 h.1 h.2 short.0 short.1

pub names_at : (names : List (List ℕ)) (i : ℕ) (n : List ℕ) → list_all (is_name_within 66) names ≡ true → i < length names → n ≡ get_or names i n
    → is_name_within 66 n ≡ true
names_at names i n h lt e = rw e (AllPass-from_list_all (is_name_within 66) names h i n lt)
