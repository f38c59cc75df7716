-- The steps of products and quotients, as numbers.
use Rattle.std.proofs.Common.{◌≡◌, ◌≢◌, ℕ, zero, suc, ◌+◌, ◌*◌, ◌-◌, ◌/◌, ◌%◌, ◌^◌, ◌<◌, ◌≤◌, Bool, true, false, refl, sym, ap, ◌∙◌, arith}
use Rattle.std.specs.Prelude.{nat_le, if◌then◌else◌, ◌==◌, bit_xor}
use Rattle.std.proofs.lemmas.Bool.Decides.{nat_tests}
use Rattle.std.proofs.Math.Nat.{mul-le-mul_right}
use Rattle.std.proofs.lemmas.Nat.{mul-mod_first, div-mul-add}
use Rattle.std.proofs.lemmas.Nat.Bits.{bit_at_xor}
use Rattle.chip_tables.specs.Bits.{bit_of}
use Rattle.byte_code.specs.Table.{if_set}
use Rattle.byte_routines.specs.Words.{is_negative, negative, size, differ}

-- 1, twice that, and so on
abbrev pub doubled : ℕ → ℕ
doubled zero = 1
doubled (suc m) = doubled m * 2

pub half_below : (n m : ℕ) → n < doubled (suc m) → n / 2 < doubled m
half_below n m h = omega (arith, h)

-- the lowest bit, as what it adds
lowest : (n : ℕ) (x : ℕ) (b : Bool) → bit_of n 0 ≡ b → x * n ≡ 2 * (x * (n / 2)) + if_set b x
lowest n x true e =
    let odd : n % 2 ≡ 1 = grind (arith, nat_tests, e) in
    ap (λ m. x * m) (let f : n ≡ 2 * (n / 2) + 1 = omega (arith, odd) in f) ∙ omega arith
lowest n x false e =
    let even : n % 2 ≢ 1 = λ f. grind (arith, nat_tests, e, f) in
    ap (λ m. x * m) (let f : n ≡ 2 * (n / 2) = omega (arith, even) in f) ∙ omega arith

set_mod : (b : Bool) (x : ℕ) → if_set b (x * 256 % 65536) % 65536 ≡ (256 * if_set b x) % 65536
set_mod true x = omega arith
set_mod false x = refl

mods : (t u v p : ℕ) → u % 65536 ≡ v % 65536 → (t + v) % 65536 ≡ p → (t % 65536 + u) % 65536 ≡ p
mods t u v p e f = omega (arith, e, f)

-- what a product is still to add does not change by a step
pub product_step : (a low high r : ℕ) →
    (((r + if_set (bit_of low 0) a) % 65536 + if_set (bit_of high 0) (a * 256 % 65536)) % 65536 + a * 2 % 65536 * (low / 2 + high / 2 * 256)) % 65536 ≡
    (r + a * (low + high * 256)) % 65536
product_step a low high r =
    let x = if_set (bit_of low 0) a in
    let y = if_set (bit_of high 0) a in
    let z = if_set (bit_of high 0) (a * 256 % 65536) in
    let q = low / 2 + high / 2 * 256 in
    let one : z % 65536 ≡ (256 * y) % 65536 = set_mod (bit_of high 0) a in
    let two : (a * 2 % 65536 * q) % 65536 ≡ (a * 2 * q) % 65536 = mul-mod_first (a * 2) q 65536 in
    let three : a * low ≡ 2 * (a * (low / 2)) + x = lowest low a (bit_of low 0) refl in
    let four : a * high ≡ 2 * (a * (high / 2)) + y = lowest high a (bit_of high 0) refl in
    let whole : r + x + 256 * y + a * 2 * q ≡ r + a * (low + high * 256) = omega (arith, three, four) in
    close (r + x) z (256 * y) (a * 2 % 65536 * q) (a * 2 * q) (r + a * (low + high * 256)) one two whole
  where
    close : (t z v u w p : ℕ) → z % 65536 ≡ v % 65536 → u % 65536 ≡ w % 65536 → t + v + w ≡ p → ((t % 65536 + z) % 65536 + u) % 65536 ≡ p % 65536
    close t z v u w p e f g = omega (arith, e, f, g)

-- A quotient in the making, with so many steps to go: the left word a holds the bits of x that are still to come, above those of the quotient q, and r is the
-- rest of the bits that were taken.
pub record Divides (x by a r m : ℕ) : Type 0 where
  pub power : ℕ
  pub left : ℕ
  pub q : ℕ
  pub taken : ℕ
  pub powers : power * doubled m ≡ 65536
  pub word : a ≡ left * power + q
  pub q_low : q < power
  pub left_low : left < doubled m
  pub parts : x ≡ taken * doubled m + left
  pub divided : taken ≡ q * by + r
  pub rest : r < by

-- a bit is 0 or 1, and the word without it
record TopBit (a left power half : ℕ) : Type 0 where
  bit : ℕ
  lower : ℕ
  is : a / 32768 ≡ bit
  low : bit ≤ 1
  left_is : left ≡ bit * half + lower
  lower_low : lower < half

top_bit : (a left power q half : ℕ) → power * half ≡ 32768 → a ≡ left * power + q → q < power → left < half * 2 → TopBit a left power half
top_bit a left power q half p w low few = by (nat_le half left) refl
  where
    small : (l : ℕ) → l < half → l * power + q < 32768
    small l h =
        let le : (l + 1) * power ≤ half * power = mul-le-mul_right power (let g : l + 1 ≤ half = omega (arith, h) in g) in
        omega (arith, le, p, low)

    by : (b : Bool) → nat_le half left ≡ b → TopBit a left power half
    by true e =
        let le : half ≤ left = grind (arith, nat_tests, e) in
        let l = left - half in
        let is : left ≡ half + l = omega (arith, le) in
        let lt : l < half = omega (arith, few, is) in
        let whole : left * power ≡ (half + l) * power = ap (λ n. n * power) is in
        record { bit = 1; lower = l; is = omega (arith, whole, w, p, small l lt); low = omega arith; left_is = omega (arith, is); lower_low = lt }
    by false e =
        let lt : left < half = grind (arith, nat_tests, e) in
        record { bit = 0; lower = left; is = omega (arith, w, small left lt); low = omega arith; left_is = omega arith; lower_low = lt }

-- what a step does
pub record DividesOn (x by a r m : ℕ) : Type 0 where
  pub goes : by ≤ (r * 2 + a / 32768) % 65536 → Divides x by (a * 2 % 65536 + 1) ((r * 2 + a / 32768) % 65536 - by) m
  pub stays : (r * 2 + a / 32768) % 65536 < by → Divides x by (a * 2 % 65536) ((r * 2 + a / 32768) % 65536) m

pub divide_step : (x by a r m : ℕ) → by ≤ 32768 → Divides x by a r (suc m) → DividesOn x by a r m
divide_step x by a r m few d =
    let half = doubled m in
    let p : d.power * half ≡ 32768 = omega (arith, d.powers) in
    let t = top_bit a d.left d.power d.q half p d.word d.q_low d.left_low in
    let rest_is : (r * 2 + a / 32768) % 65536 ≡ r * 2 + t.bit = omega (arith, t.is, t.low, d.rest, few) in
    let le : (t.lower + 1) * d.power ≤ half * d.power = mul-le-mul_right d.power (let g : t.lower + 1 ≤ half = omega (arith, t.lower_low) in g) in
    let whole : d.left * d.power ≡ (t.bit * half + t.lower) * d.power = ap (λ n. n * d.power) t.left_is in
    let bits : t.bit * half * d.power ≡ t.bit * 32768 = let g : half * d.power ≡ 32768 = omega (arith, p) in let k : t.bit * (half * d.power) ≡ t.bit * 32768 = ap (λ n. t.bit * n) g in omega (arith, k) in
    let word_is : a * 2 % 65536 ≡ t.lower * (d.power * 2) + d.q * 2 = omega (arith, d.word, whole, bits, le, p, d.q_low, t.low) in
    let parts_is : x ≡ (d.taken * 2 + t.bit) * half + t.lower = omega (arith, d.parts, t.left_is) in
    record {
      goes = λ h. record {
        power = d.power * 2;
        left = t.lower;
        q = d.q * 2 + 1;
        taken = d.taken * 2 + t.bit;
        powers = omega (arith, d.powers);
        word = omega (arith, word_is);
        q_low = omega (arith, d.q_low);
        left_low = t.lower_low;
        parts = parts_is;
        divided = omega (arith, d.divided, rest_is, h);
        rest = omega (arith, rest_is, h, d.rest, t.low);
      };
      stays = λ h. record {
        power = d.power * 2;
        left = t.lower;
        q = d.q * 2;
        taken = d.taken * 2 + t.bit;
        powers = omega (arith, d.powers);
        word = omega (arith, word_is);
        q_low = omega (arith, d.q_low);
        left_low = t.lower_low;
        parts = parts_is;
        divided = omega (arith, d.divided, rest_is);
        rest = h;
      };
    }

pub divide_first : (x by : ℕ) → x < 65536 → 1 ≤ by → Divides x by x 0 16
divide_first x by h some = record {
  power = 1;
  left = x;
  q = 0;
  taken = 0;
  powers = refl;
  word = omega arith;
  q_low = omega arith;
  left_low = h;
  parts = omega arith;
  divided = omega arith;
  rest = omega (arith, some);
}

pub divide_last : (x by a r : ℕ) → Divides x by a r 0 → a ≡ x / by
divide_last x by a r d =
    let none : d.left ≡ 0 = omega (arith, d.left_low) in
    let word_is : a ≡ d.q = d.word ∙ ap (λ n. n * d.power + d.q) none ∙ omega arith in
    let x_is : x ≡ d.q * by + r = omega (arith, d.parts, none, d.divided) in
    word_is ∙ sym (ap (λ n. n / by) x_is ∙ div-mul-add d.q by r d.rest)

-- the highest bit of a word's high byte is that of a number below 0
pub high_bit : (a : ℕ) → a < 65536 → bit_of (a / 256) 7 ≡ is_negative a
high_bit a h = by (is_negative a) refl
  where
    by : (b : Bool) → is_negative a ≡ b → bit_of (a / 256) 7 ≡ b
    by true e = let g : 32768 ≤ a = grind (arith, nat_tests, e) in let k : a / 256 / 128 % 2 ≡ 1 = omega (arith, g, h) in grind (arith, nat_tests, k)
    by false e = let g : a < 32768 = grind (arith, nat_tests, e) in let k : a / 256 / 128 % 2 ≡ 0 = omega (arith, g) in grind (arith, nat_tests, k)

pub signs_differ : (x y : ℕ) → bit_of (bit_xor x y) 7 ≡ differ (bit_of x 7) (bit_of y 7)
signs_differ x y = by (bit_of x 7) (bit_of y 7) refl refl
  where
    by : (b c : Bool) → bit_of x 7 ≡ b → bit_of y 7 ≡ c → bit_of (bit_xor x y) 7 ≡ differ b c
    by true true e f =
        let g : x / 2 ^ 7 % 2 ≡ 1 = grind (arith, nat_tests, e) in
        let h : y / 2 ^ 7 % 2 ≡ 1 = grind (arith, nat_tests, f) in
        let k : bit_xor x y / 2 ^ 7 % 2 ≡ 0 = bit_at_xor x y 7 ∙ omega (arith, g, h) in
        ap (λ m. m == 1) k
    by true false e f =
        let g : x / 2 ^ 7 % 2 ≡ 1 = grind (arith, nat_tests, e) in
        let h : y / 2 ^ 7 % 2 ≢ 1 = λ z. grind (arith, nat_tests, f, z) in
        let k : bit_xor x y / 2 ^ 7 % 2 ≡ 1 = bit_at_xor x y 7 ∙ omega (arith, g, h) in
        ap (λ m. m == 1) k
    by false true e f =
        let g : x / 2 ^ 7 % 2 ≢ 1 = λ z. grind (arith, nat_tests, e, z) in
        let h : y / 2 ^ 7 % 2 ≡ 1 = grind (arith, nat_tests, f) in
        let k : bit_xor x y / 2 ^ 7 % 2 ≡ 1 = bit_at_xor x y 7 ∙ omega (arith, g, h) in
        ap (λ m. m == 1) k
    by false false e f =
        let g : x / 2 ^ 7 % 2 ≢ 1 = λ z. grind (arith, nat_tests, e, z) in
        let h : y / 2 ^ 7 % 2 ≢ 1 = λ z. grind (arith, nat_tests, f, z) in
        let k : bit_xor x y / 2 ^ 7 % 2 ≡ 0 = bit_at_xor x y 7 ∙ omega (arith, g, h) in
        ap (λ m. m == 1) k

-- a number without its sign
pub size_small : (a : ℕ) → a < 65536 → size a ≤ 32768
size_small a h = by (is_negative a) refl
  where
    by : (b : Bool) → is_negative a ≡ b → (if b then negative a else a) ≤ 32768
    by true e = let g : 32768 ≤ a = grind (arith, nat_tests, e) in omega (arith, g, h)
    by false e = let g : a < 32768 = grind (arith, nat_tests, e) in omega (arith, g)

pub negative_small : (a : ℕ) → negative a < 65536
negative_small a = omega arith

-- is 0 where the number is
pub size_some : (b : ℕ) → b < 65536 → (size b == 0) ≡ (b == 0)
size_some b h = by (is_negative b) refl
  where
    by : (c : Bool) → is_negative b ≡ c → ((if c then negative b else b) == 0) ≡ (b == 0)
    by true e =
        let g : 32768 ≤ b = grind (arith, nat_tests, e) in
        let k : 1 ≤ negative b = omega (arith, g, h) in
        let l : (negative b == 0) ≡ false = grind (arith, nat_tests, k) in
        let m : (b == 0) ≡ false = grind (arith, nat_tests, g) in
        l ∙ sym m
    by false e = refl
