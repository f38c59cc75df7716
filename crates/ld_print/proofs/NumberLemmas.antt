-- Numbers that are printed are read again.
use Rattle.std.proofs.Common.{◌≡◌, ◌==◌, ◌&&◌, ℕ, ◌+◌, ◌-◌, ◌*◌, ◌/◌, ◌%◌, ◌^◌, ◌<◌, ◌≤◌, nat_le, Bool, true, false, if◌then◌else◌, List, [], ◌∷◌, ◌++◌, length, suc, ℤ, pos, neg_ℤ, negsuc, int_le, unsigned_abs, Some, None, refl, ap, ◌∙◌, arith, length-append}
use Rattle.std.proofs.lemmas.Bool.{and_from, and_parts}
use Rattle.std.specs.Fmt.{decimal, signed_decimal}
use Rattle.std.specs.List.{list_all}
use Rattle.std.proofs.lemmas.Bool.Decides.{nat_tests}
use Rattle.std.proofs.lemmas.Fmt.{decimal_by_steps, length-decimal-le}
use Rattle.std.proofs.lemmas.Int.{ints}
use Rattle.std.proofs.lemmas.List.Folds.{list_all-append}
use Rattle.ladder_tree.specs.Names.{is_name}
use Rattle.texts.specs.Digits.{is_digit, value_behind, digits}
use Rattle.ld_line.specs.Numbers.{signed, number, in_range, natural_in, integer}
use Rattle.ld_line.specs.Operands.{is_character}
use Rattle.ld_line.specs.Range.{is_integer}
use Rattle.ld_line.specs.Said.{said_map}
use Rattle.ld_line.specs.declared.said.Said.TheVariants.{Range, Is}
use Rattle.ld_print.proofs.TokenLemmas.{is_plain, IsToken, IsShort}

pub record Writes (n : ℕ) (ds : List ℕ) : Type 0 where
  pub some : 0 < length ds
  pub digits : list_all is_digit ds ≡ true
  pub value : value_behind 0 ds ≡ n

pub value-one : (v : ℕ) (ds : List ℕ) (c : ℕ) → value_behind v (ds ++ c ∷ []) ≡ 10 * value_behind v ds + (c - 48)
value-one v [] c = refl
value-one v (d ∷ ds) c = value-one (10 * v + (d - 48)) ds c

digit_is : (k : ℕ) → k < 10 → is_digit (48 + k) ≡ true
digit_is k h = and_from (nat_le 48 (48 + k)) (nat_le (48 + k) 57) (grind (arith, nat_tests)) (grind (arith, nat_tests))

one_digit : (n : ℕ) → n < 10 → Writes n ((48 + n) ∷ [])
one_digit n h = record { some = omega arith; digits = rw (digit_is n h) refl; value = omega arith }

one_more : (n : ℕ) (ds : List ℕ) → 10 ≤ n → Writes (n / 10) ds → Writes n (ds ++ ((48 + n % 10) ∷ []))
one_more n ds h w = record {
  some = omega (arith, length-append ds ((48 + n % 10) ∷ []));
  digits = list_all-append is_digit ds ((48 + n % 10) ∷ []) ∙ rw (w.digits, digit_is (n % 10) (omega arith)) refl;
  value = value-one 0 ds (48 + n % 10) ∙ ap (λ v. 10 * v + (48 + n % 10 - 48)) w.value ∙ omega arith;
}

pub writes : (n : ℕ) → n < 2 ^ 64 → Writes n (decimal n)
writes n h = decimal_by_steps Writes one_digit one_more n h

plain_digit : (c : ℕ) → is_digit c ≡ true → is_plain c ≡ true
plain_digit c h = let g = and_parts (nat_le 48 c) (nat_le c 57) h in grind (arith, nat_tests)

plain_digits : (ds : List ℕ) → list_all is_digit ds ≡ true → list_all is_plain ds ≡ true
plain_digits [] h = refl
plain_digits (d ∷ ds) h = let g = and_parts (is_digit d) (list_all is_digit ds) h in rw (plain_digit d g.0, plain_digits ds g.1) refl

pub decimal_token : (n : ℕ) → n < 2 ^ 64 → IsToken (decimal n)
decimal_token n h = let w = writes n h in record { some = w.some; plain = plain_digits (decimal n) w.digits }

pub decimal_short : (n : ℕ) → n < 10 ^ 10 → IsShort (decimal n)
decimal_short n h = record { token = decimal_token n (omega (arith, h)); short = omega (arith, length-decimal-le 10 n (omega arith) h (omega (arith, h))) }

digits_of : (n : ℕ) (ds : List ℕ) → Writes n ds → digits ds ≡ Some n
digits_of n [] w = absurd (let some = w.some in omega arith)
digits_of n (c ∷ cs) w = ap (λ b. if b then Some (value_behind 0 (c ∷ cs)) else None) w.digits ∙ ap Some w.value

number_of : (n : ℕ) (ds : List ℕ) → Writes n ds → number ds ≡ Some (pos n)
number_of n [] w = absurd (let some = w.some in omega arith)
number_of n (c ∷ cs) w =
    let g = and_parts (is_digit c) (list_all is_digit cs) w.digits in
    let f = and_parts (nat_le 48 c) (nat_le c 57) g.0 in
    let plus : (c == 45) ≡ false = grind (arith, nat_tests) in
    rw plus (ap (signed false) (digits_of n (c ∷ cs) w))

-- a number in its range is read again
pub natural_read : (low high n : ℕ) → low ≤ n → n ≤ high → n < 2 ^ 64 → natural_in low high (decimal n) ≡ Is n
unfolding natural_in
natural_read low high n l h small =
    ap (λ o. said_map unsigned_abs (in_range (pos low) (pos high) o)) (number_of n (decimal n) (writes n small))
    ∙ by (int_le (pos low) (pos n)) (int_le (pos n) (pos high)) (grind (arith, ints, nat_tests)) (grind (arith, ints, nat_tests))
  where
    by : (a b : Bool) → a ≡ true → b ≡ true → said_map unsigned_abs (if a && b then Is (pos n) else Range) ≡ Is n
    by a b e f = rw (e, f) refl

-- numbers of 16 bits with their signs

pub size_up : (k : ℕ) → is_integer (pos k) ≡ true → k ≤ 32767
size_up k h = let g = and_parts (int_le (neg_ℤ (pos 32768)) (pos k)) (int_le (pos k) (pos 32767)) h in let f = g.1 in grind (arith, ints, nat_tests)

pub size_down : (k : ℕ) → is_integer (negsuc k) ≡ true → k ≤ 32767
size_down k h = let g = and_parts (int_le (neg_ℤ (pos 32768)) (negsuc k)) (int_le (negsuc k) (pos 32767)) h in let f = g.0 in grind (arith, ints, nat_tests)

number_signed : (n : ℤ) → is_integer n ≡ true → number (signed_decimal n) ≡ Some n
number_signed (pos k) h = number_of k (decimal k) (writes k (omega (arith, size_up k h)))
number_signed (negsuc k) h = ap (signed true) (digits_of (suc k) (decimal (suc k)) (writes (suc k) (omega (arith, size_down k h))))

pub integer_read : (n : ℤ) → is_integer n ≡ true → integer (signed_decimal n) ≡ Is n
unfolding integer
integer_read n h = ap (in_range (neg_ℤ (pos 32768)) (pos 32767)) (number_signed n h) ∙ ap (λ b. if b then Is n else Range) h

pub integer_short : (n : ℤ) → is_integer n ≡ true → IsShort (signed_decimal n)
integer_short (pos k) h = decimal_short k (omega (arith, size_up k h))
integer_short (negsuc k) h =
    let small : suc k < 2 ^ 64 = omega (arith, size_down k h) in
    record {
      token = record { some = omega arith; plain = (decimal_token (suc k) small).plain };
      short = omega (arith, length-decimal-le 5 (suc k) (omega arith) (omega (arith, size_down k h)) small);
    }

-- a number is no name

digits_no_name : (n : ℕ) (ds : List ℕ) → Writes n ds → is_name ds ≡ false
digits_no_name n [] w = refl
digits_no_name n (c ∷ cs) w = let g = and_parts (is_digit c) (list_all is_digit cs) w.digits in rw g.0 refl

pub integer_no_name : (n : ℤ) → is_integer n ≡ true → is_name (signed_decimal n) ≡ false
integer_no_name (pos k) h = digits_no_name k (decimal k) (writes k (omega (arith, size_up k h)))
integer_no_name (negsuc k) h = refl

-- and no character, since it has no quote (39) in front

unquoted : (c : ℕ) (cs : List ℕ) → (c == 39) ≡ false → is_character (c ∷ cs) ≡ false
unquoted c cs h = rw h (by (length (c ∷ cs) == 3))
  where
    by : (b : Bool) → (b && false) ≡ false
    by true = refl
    by false = refl

digits_no_character : (n : ℕ) (ds : List ℕ) → Writes n ds → is_character ds ≡ false
digits_no_character n [] w = refl
digits_no_character n (c ∷ cs) w =
    let g = and_parts (is_digit c) (list_all is_digit cs) w.digits in
    let f = and_parts (nat_le 48 c) (nat_le c 57) g.0 in
    unquoted c cs (grind (arith, nat_tests))

pub integer_no_character : (n : ℤ) → is_integer n ≡ true → is_character (signed_decimal n) ≡ false
integer_no_character (pos k) h = digits_no_character k (decimal k) (writes k (omega (arith, size_up k h)))
integer_no_character (negsuc k) h = unquoted 45 (decimal (suc k)) refl
