-- Bits of bytes, one at a time.
use Rattle.std.proofs.Common.{◌≡◌, ◌≢◌, ◌⊎◌, inl, inr, ℕ, zero, suc, ◌+◌, ◌-◌, ◌*◌, ◌/◌, ◌%◌, ◌^◌, ◌<◌, min, max, Bool, true, false, refl, sym, ap, ◌∙◌, arith, eq-eqb, lit<, pow-suc}
use Rattle.std.proofs.lemmas.Nat.{or_lt, xor_lt}
use Rattle.std.proofs.lemmas.Nat.Bits.{bit_at_and, bit_at_or, bit_at_xor, bit_at_not, bit_at-lt, bit_at-suc, bit_at_lowest}
use Rattle.std.proofs.lemmas.Bool.{cases_eq, ne_eqb, true≢false}
use Rattle.std.specs.Int.{bit_at, w8}
use Rattle.std.specs.Int.Bits.{and_lt}
use Rattle.std.specs.Prelude.{◌==◌, bit_and, bit_or, bit_xor}
use Rattle.chip_tables.specs.Bits.{bit_of, as_bit}
use Rattle.byte_code.specs.Store.{with_bit}

pub low_of : (b : Bool) → bit_of (as_bit b) 0 ≡ b
low_of true = refl
low_of false = refl

pub with_bit_low : (n : ℕ) (x : Bool) → bit_of (with_bit n 0 x) 0 ≡ x
with_bit_low n true = eq-eqb (bit_at (bit_or n 1) 0) 1 (let e = bit_at_or n 1 0 in omega (arith, e))
with_bit_low n false = ne_eqb (bit_at (bit_and n 254) 0) 1 (let e = bit_at_and n 254 0 in λ q. omega (arith, e, q))

pub power_small : (i : ℕ) → i < 8 → 2 ^ i < 256
power_small zero low = lit< tt
power_small (suc zero) low = lit< tt
power_small (suc (suc zero)) low = lit< tt
power_small (suc (suc (suc zero))) low = lit< tt
power_small (suc (suc (suc (suc zero)))) low = lit< tt
power_small (suc (suc (suc (suc (suc zero))))) low = lit< tt
power_small (suc (suc (suc (suc (suc (suc zero)))))) low = lit< tt
power_small (suc (suc (suc (suc (suc (suc (suc zero))))))) low = lit< tt
power_small (suc (suc (suc (suc (suc (suc (suc (suc k)))))))) low = omega (arith, low)

pub rest_small : (n : ℕ) → 255 - n < 256
rest_small n = omega arith

pub with_bit_small : (n i : ℕ) (x : Bool) → n < 256 → i < 8 → with_bit n i x < 256
with_bit_small n i true small low = or_lt 8 n (2 ^ i) small (power_small i low)
with_bit_small n i false small low = and_lt 8 n (255 - 2 ^ i) small (rest_small (2 ^ i))

no_bit : (n k : ℕ) → bit_of n k ≡ false → bit_at n k ≡ 0
no_bit n k h = by (cases_eq (bit_at n k) 1)
  where
    by : (bit_at n k ≡ 1) ⊎ (bit_at n k ≢ 1) → bit_at n k ≡ 0
    by (inl e) = absurd (true≢false (sym (eq-eqb (bit_at n k) 1 e) ∙ h))
    by (inr ne) = let low = bit_at-lt n k in omega (arith, ne, low)

-- an input pin shows the level outside
pub pins_level : (latch direction levels k : ℕ) → k < 8 → direction < 256 → bit_of direction k ≡ false →
    bit_of (bit_or (bit_and latch direction) (bit_and levels (255 - direction))) k ≡ bit_of levels k
pins_level latch direction levels k low small input =
    let z = no_bit direction k input in
    let a = bit_at_or (bit_and latch direction) (bit_and levels (255 - direction)) k in
    let b = bit_at_and latch direction k in
    let c = bit_at_and levels (255 - direction) k in
    let d = bit_at_not w8 direction k small low in
    let e = bit_at-lt levels k in
    ap (λ n. n == 1) (whole (bit_at latch k) (bit_at levels k) _ _ _ _ _ a b c d z e)
  where
    whole : (l v d n x y r : ℕ) → r ≡ max x y → x ≡ min l d → y ≡ min v n → n ≡ 1 - d → d ≡ 0 → v < 2 → r ≡ v
    whole l v d n x y r a b c e z low = omega (arith, a, b, c, e, z, low)

twice_power : (k : ℕ) → 2 ^ suc k ≡ 2 * 2 ^ k
twice_power k = let e = pow-suc 2 k in omega (arith, e)

-- numbers of k bits with the same bits are the same
same_bits : (k n m : ℕ) → n < 2 ^ k → m < 2 ^ k → ((i : ℕ) → i < k → bit_at n i ≡ bit_at m i) → n ≡ m
same_bits zero n m a b same = omega (arith, a, b)
same_bits (suc k) n m a b same =
    let low : n % 2 ≡ m % 2 = sym (bit_at_lowest n) ∙ same 0 (first k) ∙ bit_at_lowest m in
    let high : n / 2 ≡ m / 2 =
    same_bits k (n / 2) (m / 2) (half n k a) (half m k b) (λ i lt. sym (bit_at-suc n i) ∙ same (suc i) (next i k lt) ∙ bit_at-suc m i) in
    omega (arith, low, high)
  where
    first : (k : ℕ) → 0 < suc k
    first k = omega arith

    next : (i k : ℕ) → i < k → suc i < suc k
    next i k lt = omega (arith, lt)

    half : (n k : ℕ) → n < 2 ^ suc k → n / 2 < 2 ^ k
    half n k lt = let e = twice_power k in omega (arith, lt, e)

-- a bit that was set is turned round
pub turned_clear : (n i : ℕ) → n < 256 → i < 8 → bit_xor (with_bit n i true) (2 ^ i) ≡ with_bit n i false
turned_clear n i small low =
    let mask = power_small i low in
    same_bits 8 _ _ (xor_lt 8 (bit_or n (2 ^ i)) (2 ^ i) (or_lt 8 n (2 ^ i) small mask) mask) (and_lt 8 n (255 - 2 ^ i) small (rest_small (2 ^ i)))
    (λ j lt.
    let a = bit_at_xor (bit_or n (2 ^ i)) (2 ^ i) j in
    let b = bit_at_or n (2 ^ i) j in
    let c = bit_at_and n (255 - 2 ^ i) j in
    let d = bit_at_not w8 (2 ^ i) j mask lt in
    let e = bit_at-lt n j in
    let f = bit_at-lt (2 ^ i) j in
    whole (bit_at n j) (bit_at (2 ^ i) j) _ _ _ _ a b c d e f)
  where
    whole : (n m x o r d : ℕ) → x ≡ (o + m) % 2 → o ≡ max n m → r ≡ min n d → d ≡ 1 - m → n < 2 → m < 2 → x ≡ r
    whole n m x o r d a b c e f g = omega (arith, a, b, c, e, f, g)
