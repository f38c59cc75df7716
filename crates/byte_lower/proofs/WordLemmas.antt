-- Numbers of 16 bits with a sign, and words.
use Rattle.std.proofs.Common.{◌≡◌, ℕ, zero, suc, ◌+◌, ◌*◌, ◌-◌, ◌/◌, ◌%◌, ◌<◌, ◌≤◌, inl, inr, Bool, true, false, ltb, cond, ℤ, pos, negsuc, refl, sym, ap, subst, ◌∙◌, arith}
use Rattle.std.specs.Prelude.{◌⊎◌, nat_lt, nat_le, ◌==◌, int_lt, int_le, int_div, ◌+ℤ◌, ◌-ℤ◌, ◌*ℤ◌, neg_ℤ, not, if◌then◌else◌}
use Rattle.std.specs.Int.{int_wrap, w16, cast_signed}
use Rattle.std.specs.Int.RustNames.{FitsSigned}
use Rattle.std.specs.Ordering.{int_eq}
use Rattle.std.proofs.lemmas.Bool.Decides.{nat_tests, Decides-int_eq}
use Rattle.std.proofs.lemmas.Bool.{and_from}
use Rattle.std.proofs.lemmas.Int.{ints, SFits-int_wrap, to_z_pos, wrapping_add-bits, wrapping_sub-bits, wrapping_mul-bits, int_wrap_fits, int_wrap-add_right}
use Rattle.ld_base.specs.Wrap.{wrap}
use Rattle.ladder_meaning.specs.Device.{word_of}
use Rattle.ladder_meaning.specs.Numbers.{is_number, IsNumber, computed}
use Rattle.ladder_tree.specs.declared.element.MathHow.TheVariants as how
use Rattle.byte_code.specs.Store.{lifted}
use Rattle.byte_routines.specs.Words.{product, quotient, is_negative, negative, size, differ}
use Rattle.byte_lower.specs.Stands.{IsWordOf}

high_by : (m : ℕ) (b : Bool) → ltb m 32768 ≡ b → b ≡ false → cast_signed w16 m ≡ negsuc (65536 - suc m)
high_by m true e f = absurd (cc)
high_by m false e f = rw e refl

test_false : (m n : ℕ) → n ≤ m → ltb m n ≡ false
test_false m n h = grind (arith, nat_tests, h)

pub signed_high : (m : ℕ) → 32768 ≤ m → cast_signed w16 m ≡ negsuc (65536 - suc m)
signed_high m h = high_by m (ltb m 32768) refl (test_false m 32768 h)

pub signed_low : (m : ℕ) → m < 32768 → cast_signed w16 m ≡ pos m
signed_low m h = to_z_pos w16 m h

pub halves : (m : ℕ) → (m < 32768) ⊎ (32768 ≤ m)
halves m = by (ltb m 32768) refl
  where
    by : (b : Bool) → ltb m 32768 ≡ b → (m < 32768) ⊎ (32768 ≤ m)
    by true e = inl (grind (arith, nat_tests, e))
    by false e = inr (grind (arith, nat_tests, e))

-- a word is that of its signed number
pub signed_word : (m : ℕ) → m < 65536 → word_of (cast_signed w16 m) ≡ m
signed_word m h = by (halves m)
  where
    by : (m < 32768) ⊎ (32768 ≤ m) → word_of (cast_signed w16 m) ≡ m
    by (inl low) = ap word_of (signed_low m low) ∙ omega (arith, h)
    by (inr high) = ap word_of (signed_high m high) ∙ omega (arith, h)

pub word_small : (n : ℤ) → word_of n < 65536
word_small (pos a) = omega arith
word_small (negsuc a) = omega arith

fits : (n : ℤ) → IsNumber n → FitsSigned w16 n
fits (pos a) h = grind (arith, nat_tests, ints, h)
fits (negsuc a) h = grind (arith, nat_tests, ints, h)

pub fits_number : (n : ℤ) → FitsSigned w16 n → IsNumber n
fits_number (pos k) f = grind (arith, nat_tests, ints, f.sfits)
fits_number (negsuc k) f = and_from (int_le (negsuc 32767) (negsuc k)) (int_le (negsuc k) (pos 32767)) (grind (arith, nat_tests, ints, f.sfits)) refl

pub wrapped : (n : ℤ) → IsNumber (wrap n)
wrapped n = fits_number (wrap n) (SFits-int_wrap w16 n)

-- and a number is that of its word
pub number_signed : (n : ℤ) → IsNumber n → cast_signed w16 (word_of n) ≡ n
unfolding int_wrap
number_signed n h = int_wrap_fits w16 n (fits n h)

pub wrapped_word : (z : ℤ) → word_of (wrap z) ≡ word_of z
unfolding int_wrap
wrapped_word z = signed_word (word_of z) (word_small z)

same_less : (p q r s : ℕ) → (p < q → r < s) → (q ≤ p → s ≤ r) → nat_lt p q ≡ nat_lt r s
same_less p q r s yea nay = by (nat_lt p q) refl
  where
    by : (b : Bool) → nat_lt p q ≡ b → b ≡ nat_lt r s
    by true e = let h : p < q = grind (arith, nat_tests, e) in let k : r < s = yea h in grind (arith, nat_tests, k)
    by false e = let h : q ≤ p = grind (arith, nat_tests, e) in let k : s ≤ r = nay h in grind (arith, nat_tests, k)

same_equal : (p q r s : ℕ) → (p ≡ q → r ≡ s) → (r ≡ s → p ≡ q) → (p == q) ≡ (r == s)
same_equal p q r s yea nay = by (p == q) refl
  where
    by : (b : Bool) → (p == q) ≡ b → b ≡ (r == s)
    by true e = let h : p ≡ q = grind (arith, nat_tests, e) in let k : r ≡ s = yea h in grind (arith, nat_tests, k)
    by false e = grind (arith, nat_tests, e, nay)

less_by : (m n : ℕ) → m < 65536 → n < 65536 → (m < 32768) ⊎ (32768 ≤ m) → (n < 32768) ⊎ (32768 ≤ n) → int_lt (cast_signed w16 m) (cast_signed w16 n) ≡ nat_lt
    (lifted m) (lifted n)
less_by m n f g (inl l) (inl k) = ap (λ x. int_lt x (cast_signed w16 n)) (signed_low m l) ∙ ap (int_lt (pos m)) (signed_low n k) ∙ same_less m n (lifted m)
    (lifted n) (λ h. omega (arith, l, k, h)) (λ h. omega (arith, l, k, h))
less_by m n f g (inl l) (inr k) =
    ap (λ x. int_lt x (cast_signed w16 n)) (signed_low m l) ∙ ap (int_lt (pos m)) (signed_high n k) ∙ same_less 1 0 (lifted m) (lifted n)
    (λ h. omega (arith, h)) (λ h. omega (arith, g, l, k, h))
less_by m n f g (inr l) (inl k) =
    ap (λ x. int_lt x (cast_signed w16 n)) (signed_high m l) ∙ ap (int_lt (negsuc (65536 - suc m))) (signed_low n k) ∙ same_less 0 1 (lifted m) (lifted n)
    (λ h. omega (arith, f, l, k)) (λ h. omega (arith, h))
less_by m n f g (inr l) (inr k) =
    ap (λ x. int_lt x (cast_signed w16 n)) (signed_high m l) ∙ ap (int_lt (negsuc (65536 - suc m))) (signed_high n k) ∙ same_less (65536 - suc n)
    (65536 - suc m) (lifted m) (lifted n) (λ h. omega (arith, f, g, l, k, h)) (λ h. omega (arith, f, g, l, k, h))

same_tests : (P : Type 0) (b c : Bool) → (b ≡ true → P) → (P → b ≡ true) → (c ≡ true → P) → (P → c ≡ true) → b ≡ c
same_tests P true true f g h k = refl
same_tests P true false f g h k = sym (k (f refl))
same_tests P false true f g h k = g (h refl)
same_tests P false false f g h k = refl

module _ (a b : ℤ) (m n : ℕ) (f : IsWordOf a m) (g : IsWordOf b n) where
  m_small : m < 65536
  m_small = subst (λ k. k < 65536) (sym f.word) (word_small a)

  n_small : n < 65536
  n_small = subst (λ k. k < 65536) (sym g.word) (word_small b)

  a_is : cast_signed w16 m ≡ a
  a_is = ap (cast_signed w16) f.word ∙ number_signed a f.number

  b_is : cast_signed w16 n ≡ b
  b_is = ap (cast_signed w16) g.word ∙ number_signed b g.number

  pub sum_word : IsWordOf (wrap (a +ℤ b)) ((m + n) % 65536)
  sum_word = record {
    number = wrapped (a +ℤ b);
    word = sym (signed_word ((m + n) % 65536) (omega arith)) ∙ ap word_of (wrapping_add-bits w16 m n m_small n_small) ∙ ap
        (λ z. word_of (wrap (z +ℤ cast_signed w16 n))) a_is ∙ ap (λ z. word_of (wrap (a +ℤ z))) b_is;
  }

  pub difference_word : IsWordOf (wrap (a -ℤ b)) ((m + (65536 - n)) % 65536)
  difference_word = record {
    number = wrapped (a -ℤ b);
    word = sym (signed_word ((m + (65536 - n)) % 65536) (omega arith)) ∙ ap word_of (wrapping_sub-bits w16 m n m_small n_small) ∙ ap
        (λ z. word_of (wrap (z -ℤ cast_signed w16 n))) a_is ∙ ap (λ z. word_of (wrap (a -ℤ z))) b_is;
  }

  pub product_word : IsWordOf (wrap (a *ℤ b)) (product m n)
  product_word = record {
    number = wrapped (a *ℤ b);
    word = sym (signed_word (m * n % 65536) (omega arith)) ∙ ap word_of (wrapping_mul-bits w16 m n m_small n_small) ∙ ap
        (λ z. word_of (wrap (z *ℤ cast_signed w16 n))) a_is ∙ ap (λ z. word_of (wrap (a *ℤ z))) b_is;
  }

  pub less_word : int_lt a b ≡ nat_lt (lifted m) (lifted n)
  less_word = sym (ap (λ z. int_lt z (cast_signed w16 n)) a_is ∙ ap (int_lt a) b_is) ∙ less_by m n m_small n_small (halves m) (halves n)

  pub equal_word : int_eq a b ≡ (m == n)
  equal_word =
      same_tests (a ≡ b) (int_eq a b) (m == n) (λ e. (Decides-int_eq a b).0 e) (λ e. (Decides-int_eq a b).1 e)
      (λ e. let same : m ≡ n = grind (arith, nat_tests, e) in sym a_is ∙ ap (cast_signed w16) same ∙ b_is)
      (λ e. let same : m ≡ n = f.word ∙ ap word_of e ∙ sym g.word in grind (arith, nat_tests, same))

-- it does not matter which of two stands first
pub equal_turned : (a b : ℤ) → int_eq a b ≡ int_eq b a
equal_turned a b =
    same_tests (a ≡ b) (int_eq a b) (int_eq b a) (λ e. (Decides-int_eq a b).0 e) (λ e. (Decides-int_eq a b).1 e) (λ e. sym ((Decides-int_eq b a).0 e))
    (λ e. (Decides-int_eq b a).1 (sym e))

-- to take a number away is to add its opposite
pub opposite_sum : (a b : ℤ) → wrap (a +ℤ wrap (neg_ℤ b)) ≡ wrap (a -ℤ b)
opposite_sum a b = int_wrap-add_right w16 a (neg_ℤ b)

next_negative : (n : ℕ) → negsuc (suc n) +ℤ pos 1 ≡ negsuc n
next_negative n =
    let e : nat_le 2 (suc (suc n)) ≡ true = grind (arith, nat_tests) in
    let f : suc (suc n) - 2 ≡ n = omega arith in
    ap (λ b. cond b (negsuc (suc (suc n) - 2)) (pos (1 - suc (suc n)))) e ∙ ap negsuc f

-- n < v is not v < n + 1
pub next_less : (n v : ℤ) → int_lt n v ≡ not (int_lt v (n +ℤ pos 1))
next_less (pos n) (pos v) = by (nat_lt n v) refl
  where
    by : (b : Bool) → nat_lt n v ≡ b → b ≡ not (nat_lt v (n + 1))
    by true e = let h : n < v = grind (arith, nat_tests, e) in let k : nat_lt v (n + 1) ≡ false = grind (arith, nat_tests, h) in ap not (sym k)
    by false e = let h : v ≤ n = grind (arith, nat_tests, e) in let k : nat_lt v (n + 1) ≡ true = grind (arith, nat_tests, h) in ap not (sym k)
next_less (pos n) (negsuc v) = refl
next_less (negsuc zero) (pos v) = ap not (sym (test_false v 0 (omega arith)))
next_less (negsuc zero) (negsuc v) = test_false v 0 (omega arith)
next_less (negsuc (suc n)) (pos v) = ap (λ z. not (int_lt (pos v) z)) (sym (next_negative n))
next_less (negsuc (suc n)) (negsuc v) = by (nat_lt v (suc n)) refl ∙ ap (λ z. not (int_lt (negsuc v) z)) (sym (next_negative n))
  where
    by : (b : Bool) → nat_lt v (suc n) ≡ b → b ≡ not (nat_lt n v)
    by true e = let h : v ≤ n = grind (arith, nat_tests, e) in let k : nat_lt n v ≡ false = grind (arith, nat_tests, h) in ap not (sym k)
    by false e = let h : n < v = grind (arith, nat_tests, e) in let k : nat_lt n v ≡ true = grind (arith, nat_tests, h) in ap not (sym k)

-- the number behind one that is not the greatest
pub next_number : (n : ℤ) → IsNumber n → int_lt n (pos 32767) ≡ true → IsNumber (n +ℤ pos 1)
next_number (pos n) h e = grind (arith, nat_tests, h, e)
next_number (negsuc zero) h e = refl
next_number (negsuc (suc n)) h e = let k : IsNumber (negsuc n) = grind (arith, nat_tests, h) in ap is_number (next_negative n) ∙ k

-- no number is above the greatest
pub none_above : (n v : ℤ) → IsNumber v → int_lt n (pos 32767) ≡ false → int_lt n v ≡ false
none_above (pos n) (pos v) h e = grind (arith, nat_tests, h, e)
none_above (pos n) (negsuc v) h e = refl
none_above (negsuc n) v h e = absurd (cc)

-- a number that stands in an operation, as two bytes
pub literal_word : (n : ℤ) → IsNumber n → IsWordOf n (word_of n % 256 + word_of n / 256 * 256)
literal_word n h = record { number = h; word = omega arith }

-- the sign of a number and its size, as its word has them
record Sized (m : ℕ) (below : Bool) (k : ℕ) : Type 0 where
  sign : is_negative m ≡ below
  size_is : size m ≡ k

low_sized : (x : ℕ) → x < 32768 → Sized (word_of (pos x)) false x
low_sized x h =
    let word : word_of (pos x) ≡ x = omega (arith, h) in
    let low : is_negative x ≡ false = grind (arith, nat_tests, h) in
    let sign : is_negative (word_of (pos x)) ≡ false = ap is_negative word ∙ low in
    record { sign = sign; size_is = ap (λ b. if b then negative (word_of (pos x)) else word_of (pos x)) sign ∙ word }

high_sized : (x : ℕ) → x < 32768 → Sized (word_of (negsuc x)) true (suc x)
high_sized x h =
    let word : word_of (negsuc x) ≡ 65536 - suc x = omega (arith, h) in
    let high : is_negative (65536 - suc x) ≡ true = grind (arith, nat_tests, h) in
    let sign : is_negative (word_of (negsuc x)) ≡ true = ap is_negative word ∙ high in
    let back : negative (65536 - suc x) ≡ suc x = omega (arith, h) in
    record { sign = sign; size_is = ap (λ b. if b then negative (word_of (negsuc x)) else word_of (negsuc x)) sign ∙ ap negative word ∙ back }

-- a quotient of words by another than 0
abbrev some_quotient : ℕ → ℕ → ℕ
some_quotient m n = if differ (is_negative m) (is_negative n) then negative (size m / size n) else size m / size n

sized_quotient : (m n k l : ℕ) (x y : Bool) → Sized m x k → Sized n y l → some_quotient m n ≡ (if differ x y then negative (k / l) else k / l)
sized_quotient m n k l x y f g =
    ap (λ b. if differ b (is_negative n) then negative (size m / size n) else size m / size n) f.sign
    ∙ ap (λ b. if differ x b then negative (size m / size n) else size m / size n) g.sign
    ∙ ap (λ i. if differ x y then negative (i / size n) else i / size n) f.size_is
    ∙ ap (λ i. if differ x y then negative (k / i) else k / i) g.size_is

no_more : (a b : ℕ) → a / b ≤ a
no_more a b = grind arith

small_word : (q : ℕ) → q < 65536 → q ≡ word_of (pos q)
small_word q h = omega (arith, h)

opposite_word : (q : ℕ) → q < 65536 → negative q ≡ word_of (neg_ℤ (pos q))
opposite_word zero h = refl
opposite_word (suc q) h = omega (arith, h)

pos_small : (x : ℕ) → IsNumber (pos x) → x < 32768
pos_small x h = grind (arith, nat_tests, h)

neg_small : (x : ℕ) → IsNumber (negsuc x) → x < 32768
neg_small x h = grind (arith, nat_tests, h)

quotient_of : (a b : ℤ) → IsNumber a → IsNumber b → some_quotient (word_of a) (word_of b) ≡ word_of (int_div a b)
quotient_of (pos x) (pos y) f g =
    sized_quotient _ _ x y false false (low_sized x (pos_small x f)) (low_sized y (pos_small y g))
    ∙ small_word (x / y) (omega (arith, no_more x y, pos_small x f))
quotient_of (pos x) (negsuc y) f g =
    sized_quotient _ _ x (suc y) false true (low_sized x (pos_small x f)) (high_sized y (neg_small y g))
    ∙ opposite_word (x / suc y) (omega (arith, no_more x (suc y), pos_small x f))
quotient_of (negsuc x) (pos y) f g =
    sized_quotient _ _ (suc x) y true false (high_sized x (neg_small x f)) (low_sized y (pos_small y g))
    ∙ opposite_word (suc x / y) (omega (arith, no_more (suc x) y, neg_small x f))
quotient_of (negsuc x) (negsuc y) f g =
    sized_quotient _ _ (suc x) (suc y) true true (high_sized x (neg_small x f)) (high_sized y (neg_small y g))
    ∙ small_word (suc x / suc y) (omega (arith, no_more (suc x) (suc y), neg_small x f))

-- a quotient is truncated toward zero, and by 0 it is 0
pub quotient_word : (a b : ℤ) (m n : ℕ) → IsWordOf a m → IsWordOf b n → IsWordOf (computed how.Div a b) (quotient m n)
quotient_word a b m n f g =
    subst (λ c. IsWordOf (if c then pos 0 else wrap (int_div a b)) (quotient m n))
    (sym (equal_word b (pos 0) n 0 g (record { number = refl; word = refl }))) (by (n == 0))
  where
    by : (c : Bool) → IsWordOf (if c then pos 0 else wrap (int_div a b)) (if c then 0 else some_quotient m n)
    by true = record { number = refl; word = refl }
    by false = record {
      number = wrapped (int_div a b);
      word = ap (λ k. some_quotient k n) f.word ∙ ap (some_quotient (word_of a)) g.word ∙ quotient_of a b f.number g.number ∙ sym (wrapped_word (int_div a b));
    }
