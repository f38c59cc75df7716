-- A word that is written reads back.
use Rattle.std.proofs.Common.{◌≡◌, ◌≢◌, ℕ, suc, ◌^◌, ◌<◌, ◌≤◌, Bool, true, false, not, ◌==◌, nat_le, List, [], ◌∷◌, ◌++◌, length, Option, Some, ℤ, pos, negsuc, int_le, FitsSigned, refl, ap, ◌∙◌, arith, rules, All}
use mir.Syntax.{w16}
use Rattle.std.proofs.lemmas.Bool.Decides.{nat_tests}
use Rattle.std.proofs.lemmas.Bool.{false≢true, and_parts}
use Rattle.std.proofs.lemmas.List.Sums.{AllPass-from_list_all}
use Rattle.std.proofs.lemmas.List.Elements.{All-weaker}
use Rattle.std.proofs.lemmas.Str.Parse.{IsNumeralModel, numerals_by_fold}
use Rattle.std.proofs.lemmas.Fmt.{digits_decimal, digits_value-decimal, decimal_nonempty}
use Rattle.std.proofs.lemmas.Int.{ints}
use Rattle.std.specs.Option.{option_map}
use Rattle.std.specs.List.{list_all}
use Rattle.std.specs.Fmt.{decimal, signed_decimal}
use Rattle.texts.specs.Lines.{pieces}
use Rattle.texts.proofs.LineLemmas.{pieces-piece, pieces-last}
use Rattle.ladder_tree.specs.Names.{is_name_byte, is_name_within}
use Rattle.texts.specs.Digits.{is_digit, value_behind, digits_to}
use Rattle.int_code.specs.declared.op.BitDest.{BitDest}
use Rattle.int_code.specs.declared.op.BitDest.TheVariants as dest
use Rattle.int_code.specs.declared.op.BitSource.{BitSource}
use Rattle.int_code.specs.declared.op.BitSource.TheVariants as source
use Rattle.int_code.specs.declared.op.NumSource.{NumSource}
use Rattle.int_code.specs.declared.op.NumSource.TheVariants.{V, N}
use Rattle.int_code.specs.Text.{dest_text, source_text, variable_text, number_text}
use Rattle.int_code.specs.WellFormed.{Sizes, IsDest, IsSource, IsNumSource}
use Rattle.interp_code.specs.Line.{most_count, number_to, integer, index, name, dest_of, source_of, variable_of, number_of}
use Rattle.int_code.specs.Literals.{IsNumber, HoldsNumber}

pub own : IsNumeralModel (λ ds. list_all is_digit ds ≡ true) (value_behind 0)
own = numerals_by_fold _ (search rules) value_behind (search rules)

-- no byte is the one
abbrev pub lacks : ℕ → List ℕ → Bool
lacks s xs = list_all (λ b. not (b == s)) xs

-- the bytes of words are above 44: no space (32) and no line feed (10)
abbrev pub IsClean : List ℕ → Type 0
IsClean xs = (s : ℕ) → s < 45 → lacks s xs ≡ true

-- the text is one word, which reads as the thing
pub record Spells {A : Type 0} (read : List ℕ → Option A) (text : List ℕ) (x : A) : Type 0 where
  pub of : read text ≡ Some x
  pub clean : IsClean text

list_all-weaker : {A : Type 0} (p q : A → Bool) → ((x : A) → p x ≡ true → q x ≡ true) → (xs : List A) → list_all p xs ≡ true → list_all q xs ≡ true
list_all-weaker p q h [] k = refl
list_all-weaker p q h (x ∷ xs) k = rw (h x (and_parts (p x) (list_all p xs) k).0) (list_all-weaker p q h xs (and_parts (p x) (list_all p xs) k).1)

digit_lacks : (s x : ℕ) → s < 45 → is_digit x ≡ true → not (x == s) ≡ true
digit_lacks s x h d = grind (arith, nat_tests)

name_byte_lacks : (s x : ℕ) → s < 45 → is_name_byte x ≡ true → not (x == s) ≡ true
name_byte_lacks s x h d = grind (arith, nat_tests)

pub from_lacks : (s : ℕ) (xs : List ℕ) → lacks s xs ≡ true → All (λ b. b ≢ s) xs
from_lacks s xs h = All-weaker (λ b. not (b == s) ≡ true) (λ b. b ≢ s) (λ b n. grind (arith, nat_tests)) xs (AllPass-from_list_all (λ b. not (b == s)) xs h)

pub piece_cut : (xs rest : List ℕ) → IsClean xs → pieces 32 (xs ++ 32 ∷ rest) ≡ xs ∷ pieces 32 rest
piece_cut xs rest h = pieces-piece 32 xs rest (from_lacks 32 xs (h 32 (omega arith)))

pub piece_end : (xs : List ℕ) → IsClean xs → pieces 32 xs ≡ xs ∷ []
piece_end xs h = pieces-last 32 xs (from_lacks 32 xs (h 32 (omega arith)))

digits_clean : (ds : List ℕ) → list_all is_digit ds ≡ true → IsClean ds
digits_clean ds d = λ s low. list_all-weaker is_digit (λ b. not (b == s)) (λ x k. digit_lacks s x low k) ds d

pub name_spells : (n : List ℕ) → is_name_within 66 n ≡ true → Spells name n n
name_spells [] k = absurd (false≢true k)
name_spells (n ∷ ns) k = record {
  of = rw k refl;
  clean = λ s low. list_all-weaker is_name_byte (λ b. not (b == s)) (λ x j. name_byte_lacks s x low j) (n ∷ ns) bytes;
}
  where
    bytes : list_all is_name_byte (n ∷ ns) ≡ true
    bytes = (and_parts (list_all is_name_byte (n ∷ ns)) _ (and_parts (not (is_digit n)) _ k).1).0

-- the bytes of names are ASCII
pub name_is_ascii : (ns : List ℕ) → is_name_within 66 ns ≡ true → All (λ b. b < 128) ns
name_is_ascii [] k = absurd (false≢true k)
name_is_ascii (n ∷ ns) k =
    let bytes = (and_parts (list_all is_name_byte (n ∷ ns)) _ (and_parts (not (is_digit n)) _ k).1).0 in
    All-weaker (λ b. is_name_byte b ≡ true) (λ b. b < 128) (λ b h. grind (arith, nat_tests)) (n ∷ ns) (AllPass-from_list_all is_name_byte (n ∷ ns) bytes)

-- a decimal number
digits_read : (most : ℕ) (ds : List ℕ) → list_all is_digit ds ≡ true → 0 < length ds → value_behind 0 ds ≤ most → digits_to most ds ≡ Some (value_behind 0 ds)
digits_read most [] d some small = absurd (omega arith)
digits_read most (c ∷ cs) d some small = rw (d, fits) refl
  where
    fits : nat_le (value_behind 0 (c ∷ cs)) most ≡ true
    fits = grind (arith, nat_tests)

number_is_digits : (most : ℕ) (ds : List ℕ) → list_all is_digit ds ≡ true → number_to most ds ≡ digits_to most ds
number_is_digits most [] d = refl
number_is_digits most (c ∷ cs) d = rw plain refl
  where
    plain : (c == 45) ≡ false
    plain = let first = (and_parts (is_digit c) (list_all is_digit cs) d).0 in grind (arith, nat_tests)

integer_is_digits : (ds : List ℕ) → list_all is_digit ds ≡ true → integer ds ≡ option_map pos (digits_to 32767 ds)
integer_is_digits [] d = refl
integer_is_digits (c ∷ cs) d = rw plain refl
  where
    plain : (c == 45) ≡ false
    plain = let first = (and_parts (is_digit c) (list_all is_digit cs) d).0 in grind (arith, nat_tests)

number_is_integer : (ds : List ℕ) → list_all is_digit ds ≡ true → number_of ds ≡ option_map N (integer ds)
number_is_integer [] d = refl
number_is_integer (c ∷ cs) d = rw plain refl
  where
    plain : (c == 118) ≡ false
    plain = let first = (and_parts (is_digit c) (list_all is_digit cs) d).0 in grind (arith, nat_tests)

pub decimal_digits : (n : ℕ) → n < 2 ^ 64 → list_all is_digit (decimal n) ≡ true
decimal_digits n h = digits_decimal own n h

decimal_read : (most n : ℕ) → n ≤ most → n < 2 ^ 64 → digits_to most (decimal n) ≡ Some n
decimal_read most n le small =
    let same = digits_value-decimal own n small in
    digits_read most (decimal n) (decimal_digits n small) (decimal_nonempty n small) (omega arith) ∙ ap Some same

pub number_spells : (most n : ℕ) → n ≤ most → n < 2 ^ 64 → Spells (number_to most) (decimal n) n
number_spells most n le small = record {
  of = number_is_digits most (decimal n) (decimal_digits n small) ∙ decimal_read most n le small;
  clean = digits_clean (decimal n) (decimal_digits n small);
}

-- an index below 2 ^ 32
pub index_spells : (n k : ℕ) → k < n → n ≤ 2 ^ 32 → Spells index (decimal k) k
index_spells n k h small = record {
  of = decimal_read most_count k (omega arith) (omega arith);
  clean = digits_clean (decimal k) (decimal_digits k (omega arith));
}

-- a number of 16 bits with a sign
pub number_fits : (n : ℤ) → FitsSigned w16 n → IsNumber n
number_fits (pos n) h = let few : n ≤ 32767 = omega (arith, ints, h) in grind (arith, ints, nat_tests)
number_fits (negsuc n) h = let few : n ≤ 32767 = omega (arith, ints, h) in grind (arith, ints, nat_tests)

short_pos_by : (n : ℕ) → int_le (pos n) (pos 32767) ≡ true → n ≤ 32767
short_pos_by n h = grind (arith, ints, nat_tests)

short_pos : (n : ℕ) → IsNumber (pos n) → n ≤ 32767
short_pos n h = short_pos_by n (and_parts (int_le (negsuc 32767) (pos n)) (int_le (pos n) (pos 32767)) h).1

short_negsuc_by : (n : ℕ) → int_le (negsuc 32767) (negsuc n) ≡ true → suc n ≤ 32768
short_negsuc_by n h = grind (arith, ints, nat_tests)

short_negsuc : (n : ℕ) → IsNumber (negsuc n) → suc n ≤ 32768
short_negsuc n h = short_negsuc_by n (and_parts (int_le (negsuc 32767) (negsuc n)) (int_le (negsuc n) (pos 32767)) h).0

minus_clean : (ds : List ℕ) → IsClean ds → IsClean (45 ∷ ds)
minus_clean ds h = λ s low. let other : (45 == s) ≡ false = grind (arith, nat_tests) in rw (other, h s low) refl

pub integer_spells : (n : ℤ) → IsNumber n → Spells integer (signed_decimal n) n
integer_spells (pos n) h =
    let small = short_pos n h in record {
      of = integer_is_digits (decimal n) (decimal_digits n (omega arith)) ∙ ap (option_map pos) (decimal_read 32767 n small (omega arith));
      clean = digits_clean (decimal n) (decimal_digits n (omega arith));
    }
integer_spells (negsuc n) h =
    let small = short_negsuc n h in record {
      of = rw (decimal_read 32768 (suc n) small (omega arith)) refl;
      clean = minus_clean (decimal (suc n)) (digits_clean (decimal (suc n)) (decimal_digits (suc n) (omega arith)));
    }

letter_clean : (c : ℕ) (xs : List ℕ) → 45 ≤ c → IsClean xs → IsClean (c ∷ xs)
letter_clean c xs high h = λ s low. let other : (c == s) ≡ false = grind (arith, nat_tests) in rw (other, h s low) refl

-- sizes that indexes of 32 bits are below
pub record IsSmall (n : Sizes) : Type 0 where
  pub bits : n.bits ≤ 2 ^ 32
  pub outputs : n.outputs ≤ 2 ^ 32
  pub inputs : n.inputs ≤ 2 ^ 32
  pub analogs : n.analogs ≤ 2 ^ 32
  pub variables : n.variables ≤ 2 ^ 32
  pub persistent : n.persistent ≤ 2 ^ 32

-- a letter and an index
lettered : {A : Type 0} (read : List ℕ → Option A) (f : ℕ → A) (c n k : ℕ) → 45 ≤ c → k < n → n ≤ 2 ^ 32
    → read (c ∷ decimal k) ≡ option_map f (index (decimal k)) → Spells read (c ∷ decimal k) (f k)
lettered read f c n k high h small same =
    let number = index_spells n k h small in
    record { of = same ∙ ap (option_map f) number.of; clean = letter_clean c (decimal k) high number.clean }

module _ (n : Sizes) (small : IsSmall n) where
  pub dest_spells : (b : BitDest) → IsDest n b → Spells dest_of (dest_text b) b
  dest_spells (dest.B k) h = lettered dest_of dest.B 98 n.bits k (omega arith) h small.bits refl
  dest_spells (dest.Y k) h = lettered dest_of dest.Y 121 n.outputs k (omega arith) h small.outputs refl

  pub source_spells : (s : BitSource) → IsSource n s → Spells source_of (source_text s) s
  source_spells (source.B k) h = lettered source_of source.B 98 n.bits k (omega arith) h small.bits refl
  source_spells (source.X k) h = lettered source_of source.X 120 n.inputs k (omega arith) h small.inputs refl
  source_spells (source.Y k) h = lettered source_of source.Y 121 n.outputs k (omega arith) h small.outputs refl

  pub variable_spells : (v : ℕ) → v < n.variables → Spells variable_of (variable_text v) v
  variable_spells v h =
      let number = index_spells n.variables v h small.variables in
      record { of = number.of; clean = letter_clean 118 (decimal v) (omega arith) number.clean }

  pub source_number_spells : (w : NumSource) → IsNumSource n w → HoldsNumber w → Spells number_of (number_text w) w
  source_number_spells (V v) h short = lettered number_of V 118 n.variables v (omega arith) h small.variables refl
  source_number_spells (N (pos k)) h short =
      let number = integer_spells (pos k) short in
      let few = short_pos k short in
      record { of = number_is_integer (decimal k) (decimal_digits k (omega arith)) ∙ ap (option_map N) number.of; clean = number.clean }
  source_number_spells (N (negsuc k)) h short =
      let number = integer_spells (negsuc k) short in
      record { of = ap (option_map N) number.of; clean = number.clean }
