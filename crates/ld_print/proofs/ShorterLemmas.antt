-- What is printed is no longer than what was read, so a table's line is not too long.
use Rattle.std.proofs.Common.{◌≡◌, ◌==◌, ◌&&◌, ℕ, zero, suc, ◌+◌, ◌-◌, ◌*◌, ◌/◌, ◌%◌, ◌^◌, ◌<◌, ◌≤◌, nat_le, Bool, true, false, if◌then◌else◌, ℤ, pos, neg_ℤ, negsuc, int_le, unsigned_abs, List, [], ◌∷◌, ◌++◌, length, reverse, codes, Option, Some, None, slice_index_or, refl, sym, ap, subst, ◌∙◌, arith, length-append}
use Rattle.std.proofs.lemmas.Bool.{and_parts}
use Rattle.std.specs.Prelude.{filter}
use Rattle.std.specs.Fmt.{decimal, signed_decimal}
use Rattle.std.specs.List.{list_all}
use Rattle.std.specs.Str.{bytes_eq}
use Rattle.std.proofs.lemmas.Bool.Decides.{nat_tests}
use Rattle.std.proofs.lemmas.Fmt.{decimal_by_steps, length-decimal-le}
use Rattle.std.proofs.lemmas.Int.{ints}
use Rattle.std.proofs.lemmas.List.{length-reverse}
use Rattle.std.proofs.lemmas.List.Folds.{list_all-append}
use Rattle.ladder_tree.specs.Names.{is_name}
use Rattle.texts.specs.Digits.{is_digit, value_behind, digits}
use Rattle.ladder_tree.specs.declared.element.LeafKind.TheVariants as kind
use Rattle.ladder_tree.specs.declared.element.Operand.{Operand}
use Rattle.ladder_tree.specs.declared.element.Operand.TheVariants.{Var, Num}
use Rattle.ladder_tree.specs.declared.limits.TheConstants.{TABLE_VALUES}
use Rattle.texts.specs.Lines.{onto}
use Rattle.texts.specs.declared.limits.TheConstants.{LINE_BYTES}
use Rattle.ld_line.proofs.SaidLemmas.{if_map, if_then, if_weak, if_both}
use Rattle.ld_line.proofs.TokenLemmas.{length-behind}
use Rattle.ld_line.proofs.WordLemmas.{spelled_word}
use Rattle.ld_line.specs.Elements.{counted, table_head, table, integers}
use Rattle.ld_line.specs.Numbers.{signed, number, in_range, natural_in, integer}
use Rattle.ld_line.specs.Operands as read
use Rattle.ld_line.specs.Range.{is_integer}
use Rattle.ld_line.specs.Said.{IfIs, said_map, both}
use Rattle.ld_line.specs.Tokens.{is_blank, is_return, behind, without_returns, between_blanks, is_some_bytes, tokens}
use Rattle.ld_line.specs.Words.{word_of}
use Rattle.ld_line.specs.declared.said.Said.TheVariants.{Bad, Range, Is}
use Rattle.ld_line.specs.declared.word.Word.TheVariants as word
use Rattle.ld_print.specs.Words as words
use Rattle.ld_print.specs.Words.{behind_spaces}
use Rattle.ld_print.proofs.TokenLemmas.{length-behind_spaces}
use Rattle.ld_print.proofs.NumberLemmas.{value-one, size_up, size_down}
use Rattle.ld_print.proofs.ElementLemmas.{TextFits}

-- digits

record Split (ds : List ℕ) : Type 0 where
  front : List ℕ
  last : ℕ
  is : ds ≡ front ++ last ∷ []

split : (c : ℕ) (cs : List ℕ) → Split (c ∷ cs)
split c [] = record { front = []; last = c; is = refl }
split c (d ∷ ds) = let s = split d ds in record { front = c ∷ s.front; last = s.last; is = ap (λ l. c ∷ l) s.is }

-- no digits are fewer that write the number
abbrev Fewest : ℕ → List ℕ → Type 0
Fewest n ds = (token : List ℕ) → 0 < length token → list_all is_digit token ≡ true → value_behind 0 token ≡ n → length ds ≤ length token

fewest_one : (n : ℕ) → n < 10 → Fewest n ((48 + n) ∷ [])
fewest_one n h token some d v = omega (arith, some)

front_value : (n : ℕ) (front : List ℕ) (last : ℕ) → 10 ≤ n → is_digit last ≡ true → value_behind 0 (front ++ last ∷ []) ≡ n
    → (0 < length front) × (value_behind 0 front ≡ n / 10)
front_value n front last h d v = (some front whole, omega (arith, whole, few))
  where
    few : last - 48 ≤ 9
    few = let g = and_parts (nat_le 48 last) (nat_le last 57) d in grind (arith, nat_tests)

    whole : 10 * value_behind 0 front + (last - 48) ≡ n
    whole = sym (value-one 0 front last) ∙ v

    some : (front : List ℕ) → 10 * value_behind 0 front + (last - 48) ≡ n → 0 < length front
    some [] e = absurd (omega (arith, e, few, h))
    some (c ∷ cs) e = omega arith

fewest_more : (n : ℕ) (ds : List ℕ) → 10 ≤ n → Fewest (n / 10) ds → Fewest n (ds ++ ((48 + n % 10) ∷ []))
fewest_more n ds h rec [] some d v = absurd (omega (arith, some))
fewest_more n ds h rec (c ∷ cs) some d v =
    let s = split c cs in
    let all = and_parts (list_all is_digit s.front) (list_all is_digit (s.last ∷ [])) (sym (list_all-append is_digit s.front (s.last ∷ [])) ∙ sym
    (ap (list_all is_digit) s.is) ∙ d) in
    let f = front_value n s.front s.last h (and_parts (is_digit s.last) true all.1).0 (sym (ap (value_behind 0) s.is) ∙ v) in
    omega (arith, rec s.front f.0 all.0 f.1, length-append ds ((48 + n % 10) ∷ []), ap length s.is, length-append s.front (s.last ∷ []))

digits_shorter : (token : List ℕ) (n : ℕ) → digits token ≡ Some n → n < 2 ^ 64 → length (decimal n) ≤ length token
digits_shorter [] n e h = absurd cc
digits_shorter (c ∷ cs) n e h = by (list_all is_digit (c ∷ cs)) refl e
  where
    by : (b : Bool) → list_all is_digit (c ∷ cs) ≡ b → (if b then Some (value_behind 0 (c ∷ cs)) else None) ≡ Some n → length (decimal n) ≤ length (c ∷ cs)
    by true d g = let v : value_behind 0 (c ∷ cs) ≡ n = cc in decimal_by_steps Fewest fewest_one fewest_more n h (c ∷ cs) (omega arith) d v
    by false d g = absurd cc

-- numbers with their signs

abbrev IsSmall : ℤ → Type 0
IsSmall (pos k) = k < 2 ^ 64
IsSmall (negsuc k) = suc k < 2 ^ 64

small_integer : (n : ℤ) → is_integer n ≡ true → IsSmall n
small_integer (pos k) h = omega (arith, size_up k h)
small_integer (negsuc k) h = omega (arith, size_down k h)

negative_shorter : (token : List ℕ) (n : ℤ) (o : Option ℕ) → digits token ≡ o → signed true o ≡ Some n → IsSmall n
    → length (signed_decimal n) ≤ suc (length token)
negative_shorter token n None e g h = absurd cc
negative_shorter token n (Some zero) e g h =
    let same : pos 0 ≡ n = cc in
    subst (λ z. length (signed_decimal z) ≤ suc (length token)) same (omega (arith, length-decimal-le 1 0 (omega arith) (omega arith) (omega arith)))
negative_shorter token n (Some (suc k)) e g h =
    let same : negsuc k ≡ n = cc in
    subst (λ z. length (signed_decimal z) ≤ suc (length token)) same (omega (arith, digits_shorter token (suc k) e (subst IsSmall (sym same) h)))

positive_shorter : (token : List ℕ) (n : ℤ) (o : Option ℕ) → digits token ≡ o → signed false o ≡ Some n → IsSmall n → length (signed_decimal n) ≤ length token
positive_shorter token n None e g h = absurd cc
positive_shorter token n (Some k) e g h =
    let same : pos k ≡ n = cc in subst (λ z. length (signed_decimal z) ≤ length token) same (digits_shorter token k e (subst IsSmall (sym same) h))

number_shorter : (token : List ℕ) (n : ℤ) → number token ≡ Some n → IsSmall n → length (signed_decimal n) ≤ length token
number_shorter [] n e h = absurd cc
number_shorter (c ∷ cs) n e h = by (c == 45) e
  where
    by : (b : Bool) → (if b then signed true (digits cs) else signed false (digits (c ∷ cs))) ≡ Some n → length (signed_decimal n) ≤ length (c ∷ cs)
    by true g = negative_shorter cs n (digits cs) refl g h
    by false g = positive_shorter (c ∷ cs) n (digits (c ∷ cs)) refl g h

integer_shorter : (token : List ℕ) → IfIs (integer token) (λ n. length (signed_decimal n) ≤ length token)
unfolding integer
integer_shorter token = of (number token) refl
  where
    by : (n : ℤ) (b : Bool) → number token ≡ Some n → is_integer n ≡ b → IfIs (if b then Is n else Range) (λ n. length (signed_decimal n) ≤ length token)
    by n true e h = number_shorter token n e (small_integer n h)
    by n false e h = tt

    of : (o : Option ℤ) → number token ≡ o → IfIs (in_range (neg_ℤ (pos 32768)) (pos 32767) o) (λ n. length (signed_decimal n) ≤ length token)
    of None e = tt
    of (Some n) e = by n (is_integer n) e refl

natural_shorter : (low high : ℕ) (token : List ℕ) → high < 2 ^ 64 → IfIs (natural_in low high token) (λ n. length (decimal n) ≤ length token)
unfolding natural_in
natural_shorter low high token h = of (number token) refl
  where
    up : (n : ℕ) (a b : Bool) → number token ≡ Some (pos n) → int_le (pos n) (pos high) ≡ b
        → IfIs (said_map unsigned_abs (if a && b then Is (pos n) else Range)) (λ n. length (decimal n) ≤ length token)
    up n true true e f = let few : n ≤ high = grind (arith, ints, nat_tests) in number_shorter token (pos n) e (omega (arith, few, h))
    up n true false e f = tt
    up n false b e f = tt

    down : (n : ℕ) (a b : Bool) → int_le (pos low) (negsuc n) ≡ a
        → IfIs (said_map unsigned_abs (if a && b then Is (negsuc n) else Range)) (λ n. length (decimal n) ≤ length token)
    down n true b e = absurd (grind (arith, ints))
    down n false b e = tt

    of : (o : Option ℤ) → number token ≡ o → IfIs (said_map unsigned_abs (in_range (pos low) (pos high) o)) (λ n. length (decimal n) ≤ length token)
    of None e = tt
    of (Some (pos n)) e = up n (int_le (pos low) (pos n)) (int_le (pos n) (pos high)) e refl
    of (Some (negsuc n)) e = down n (int_le (pos low) (negsuc n)) (int_le (negsuc n) (pos high)) refl

-- operands and flags

name_shorter : (token : List ℕ) → IfIs (read.name token) (λ n. length n ≤ length token)
name_shorter token = by (is_name token)
  where
    by : (b : Bool) → IfIs (if b then Is token else Bad) (λ n. length n ≤ length token)
    by true = omega arith
    by false = tt

character_shorter : (token : List ℕ) → read.is_character token ≡ true → length (decimal (slice_index_or token 1 0)) ≤ length token
character_shorter token h =
    let c = slice_index_or token 1 0 in
    let quoted = and_parts (length token == 3) ((slice_index_or token 0 0 == 39 && slice_index_or token 2 0 == 39) && (nat_le 0x21 c && nat_le c 0x7e)) h in
    let shows = and_parts (slice_index_or token 0 0 == 39 && slice_index_or token 2 0 == 39) (nat_le 0x21 c && nat_le c 0x7e) quoted.1 in
    of (length token) c quoted.0 (and_parts (nat_le 0x21 c) (nat_le c 0x7e) shows.1).1
  where
    of : (n c : ℕ) → (n == 3) ≡ true → nat_le c 0x7e ≡ true → length (decimal c) ≤ n
    of n c e f =
        let three : n ≡ 3 = grind (arith, nat_tests) in
        let few : c ≤ 126 = grind (arith, nat_tests) in
        omega (arith, three, length-decimal-le 3 c (omega arith) (omega (arith, few)) (omega (arith, few)))

operand_shorter : (token : List ℕ) → IfIs (read.operand token) (λ o. length (words.operand_text o) ≤ length token)
unfolding read.operand
operand_shorter token = by (is_name token) (read.is_character token) refl
  where
    by : (a b : Bool) → read.is_character token ≡ b
        → IfIs (if a then Is (Var token) else (if b then Is (Num (pos (slice_index_or token 1 0))) else said_map Num (integer token)))
        (λ o. length (words.operand_text o) ≤ length token)
    by true b e = omega arith
    by false true e = character_shorter token e
    by false false e = if_map Num (λ o. length (words.operand_text o) ≤ length token) (integer token) (integer_shorter token)

flag_shorter : (token : List ℕ) → IfIs (read.flag token) (λ b. length (words.flag b) ≤ length token)
flag_shorter [] = tt
flag_shorter (c ∷ cs) = by (bytes_eq (c ∷ cs) (codes "0")) (bytes_eq (c ∷ cs) (codes "1"))
  where
    by : (a b : Bool) → IfIs (if a then Is false else (if b then Is true else Bad)) (λ b. length (words.flag b) ≤ length (c ∷ cs))
    by true b = omega arith
    by false true = omega arith
    by false false = tt

-- as many numbers as tokens, none of them longer
integers_shorter : (ts : List (List ℕ)) → IfIs (integers ts) (λ ns. length (behind_spaces (words.integers ns)) ≤ length (behind_spaces ts))
integers_shorter [] = omega arith
integers_shorter (t ∷ ts) =
    if_map (λ p. p.0 ∷ p.1) (λ ns. length (behind_spaces (words.integers ns)) ≤ length (behind_spaces (t ∷ ts))) (both (integer t) (integers ts))
    (if_weak (λ p. (length (signed_decimal p.0) ≤ length t) × (length (behind_spaces (words.integers p.1)) ≤ length (behind_spaces ts)))
    (λ p. length (behind_spaces (words.integers (p.0 ∷ p.1))) ≤ length (behind_spaces (t ∷ ts))) (both (integer t) (integers ts))
    (λ p h. omega (arith, h.0, h.1, length-behind_spaces (signed_decimal p.0) (words.integers p.1), length-behind_spaces t ts))
    (if_both (λ n. length (signed_decimal n) ≤ length t) (λ ns. length (behind_spaces (words.integers ns)) ≤ length (behind_spaces ts)) (integer t)
    (integers ts) (integer_shorter t) (integers_shorter ts)))

-- tables

abbrev HeadShorter : List ℕ → List ℕ → List ℕ × Operand → Type 0
HeadShorter d i p = (length p.0 ≤ length d) × (length (words.operand_text p.1) ≤ length i)

abbrev HowShorter : List ℕ → List ℕ → ℕ × Bool → Type 0
HowShorter c f p = (length (decimal p.0) ≤ length c) × (length (words.flag p.1) ≤ length f)

abbrev TailShorter : List ℕ → List ℕ → List (List ℕ) → (ℕ × Bool) × List ℤ → Type 0
TailShorter c f vs p = HowShorter c f p.0 × (length (behind_spaces (words.integers p.1)) ≤ length (behind_spaces vs))

counted_fits : (d i c f : List ℕ) (vs : List (List ℕ)) (dest : List ℕ) (index : Operand) (count : ℕ) (as_text : Bool) (values : List ℤ)
    → length (behind_spaces (d ∷ i ∷ c ∷ f ∷ vs)) ≤ 499 → HeadShorter d i (dest, index) → TailShorter c f vs ((count, as_text), values)
    → IfIs (counted dest index count as_text values) TextFits
counted_fits d i c f vs dest index count as_text values few head tail = by (length values == count) refl
  where
    by : (b : Bool) → (length values == count) ≡ b → IfIs (if b then Is (kind.Table dest index as_text values) else Bad) TextFits
    by true e =
        let same : length values ≡ count = grind (arith, nat_tests) in
        let digits : length (decimal (length values)) ≤ length c = subst (λ n. length (decimal n) ≤ length c) (sym same) tail.0.0 in
        omega (
          arith,
          few,
          head.0,
          head.1,
          digits,
          tail.0.1,
          tail.1,
          length-behind_spaces d (i ∷ c ∷ f ∷ vs),
          length-behind_spaces i (c ∷ f ∷ vs),
          length-behind_spaces c (f ∷ vs),
          length-behind_spaces f vs,
          length-behind_spaces dest (words.operand_text index ∷ decimal (length values) ∷ words.flag as_text ∷ words.integers values),
          length-behind_spaces (words.operand_text index) (decimal (length values) ∷ words.flag as_text ∷ words.integers values),
          length-behind_spaces (decimal (length values)) (words.flag as_text ∷ words.integers values),
          length-behind_spaces (words.flag as_text) (words.integers values),
        )
    by false e = tt

pub table_fits : (ts : List (List ℕ)) → length (behind_spaces ts) ≤ 499 → IfIs (table ts) TextFits
table_fits [] h = tt
table_fits (d ∷ []) h = tt
table_fits (d ∷ i ∷ []) h = tt
table_fits (d ∷ i ∷ c ∷ []) h = tt
table_fits (d ∷ i ∷ c ∷ f ∷ vs) h =
    let how = both (natural_in 0 TABLE_VALUES c) (read.flag f) in
    let head : IfIs (table_head d i) (HeadShorter d i) = if_both (λ n. length n ≤ length d) (λ o. length (words.operand_text o) ≤ length i) (read.name d)
    (read.operand i) (name_shorter d) (operand_shorter i) in
    let how_said : IfIs how (HowShorter c f) = if_both (λ n. length (decimal n) ≤ length c) (λ b. length (words.flag b) ≤ length f)
    (natural_in 0 TABLE_VALUES c) (read.flag f) (natural_shorter 0 TABLE_VALUES c (omega arith)) (flag_shorter f) in
    let tail : IfIs (both how (integers vs)) (TailShorter c f vs) = if_both (HowShorter c f) (λ ns. length (behind_spaces (words.integers ns)) ≤ length
    (behind_spaces vs)) how (integers vs) how_said (integers_shorter vs) in
    let whole = both (table_head d i) (both how (integers vs)) in
    if_then (λ p. counted p.0.0 p.0.1 p.1.0.0 p.1.0.1 p.1.1) TextFits whole
    (if_weak (λ p. HeadShorter d i p.0 × TailShorter c f vs p.1) (λ p. IfIs (counted p.0.0 p.0.1 p.1.0.0 p.1.0.1 p.1.1) TextFits) whole
    (λ p g. counted_fits d i c f vs p.0.0 p.0.1 p.1.0.0 p.1.0.1 p.1.1 h g.0 g.1)
    (if_both (HeadShorter d i) (TailShorter c f vs) (table_head d i) (both how (integers vs)) head tail))

-- the tokens of a line with one space between two of them are no longer than the line

between_length : (bytes : List ℕ) → length (behind_spaces (between_blanks bytes)) ≡ 1 + length bytes
between_length [] = refl
between_length (b ∷ bs) = by (is_blank b) (between_blanks bs) (between_length bs)
  where
    by : (x : Bool) (ps : List (List ℕ)) → length (behind_spaces ps) ≡ 1 + length bs
        → length (behind_spaces (if x then [] ∷ ps else onto b ps)) ≡ 1 + length (b ∷ bs)
    by true ps h = omega (arith, h)
    by false [] h = absurd (omega (arith, h))
    by false (p ∷ ps) h = omega (arith, h, length-behind_spaces p ps, length-behind_spaces (b ∷ p) ps)

fewer_tokens : (test : List ℕ → Bool) (ts : List (List ℕ)) → length (behind_spaces (filter test ts)) ≤ length (behind_spaces ts)
fewer_tokens test [] = omega arith
fewer_tokens test (t ∷ ts) = by (test t) (fewer_tokens test ts)
  where
    by : (b : Bool) → length (behind_spaces (filter test ts)) ≤ length (behind_spaces ts)
        → length (behind_spaces (if b then t ∷ filter test ts else filter test ts)) ≤ length (behind_spaces (t ∷ ts))
    by true h = omega (arith, h, length-behind_spaces t (filter test ts), length-behind_spaces t ts)
    by false h = omega (arith, h, length-behind_spaces t ts)

tokens_length : (bytes : List ℕ) → length (behind_spaces (tokens bytes)) ≤ 1 + length bytes
tokens_length bytes =
    let line = without_returns bytes in
    omega (
      arith,
      fewer_tokens is_some_bytes (between_blanks line),
      between_length line,
      length-reverse (behind is_return (reverse bytes)),
      length-behind
          is_return (reverse bytes),
      length-reverse bytes,
    )

-- what stands behind the word of a table on a line that is not too long
pub table_room : (bytes token : List ℕ) (ts : List (List ℕ)) → length bytes ≤ LINE_BYTES → tokens bytes ≡ token ∷ ts → word_of token ≡ Some word.LookUpTable
    → length (behind_spaces ts) ≤ 499
table_room bytes token ts short e w =
    omega (
      arith,
      short,
      tokens_length bytes,
      ap (λ x. length (behind_spaces x)) e,
      length-behind_spaces token ts,
      ap length
          (spelled_word token word.LookUpTable w),
    )
