-- Sums and differences of words, byte by byte.
use Rattle.std.proofs.Common.{◌≡◌, ℕ, ◌+◌, ◌-◌, ◌*◌, ◌/◌, ◌%◌, ◌<◌, ◌≤◌, Bool, true, false, refl, arith}
use Rattle.std.proofs.lemmas.Bool.{ltb-true, ltb-false}
use Rattle.std.specs.Prelude.{nat_lt}
use Rattle.chip_tables.specs.Bits.{as_bit}
use Rattle.avr_mach.specs.Arithmetic.{difference}

carry_by : (n : ℕ) (b : Bool) → nat_lt 255 n ≡ b → n < 512 → as_bit b ≡ n / 256
carry_by n true e small = let low = ltb-true 255 n e in omega (arith, low, small)
carry_by n false e small = let high = ltb-false 255 n e in omega (arith, high)

pub carry_is : (n : ℕ) → n < 512 → as_bit (nat_lt 255 n) ≡ n / 256
carry_is n small = carry_by n (nat_lt 255 n) refl small

borrow_by : (x y : ℕ) (b : Bool) → nat_lt x y ≡ b → x < 256 → y ≤ 256 → as_bit b ≡ (255 + y - x) / 256
borrow_by x y true e hx hy = let low = ltb-true x y e in omega (arith, low, hx, hy)
borrow_by x y false e hx hy = let high = ltb-false x y e in omega (arith, high, hx, hy)

pub borrow_is : (x y : ℕ) → x < 256 → y ≤ 256 → as_bit (nat_lt x y) ≡ (255 + y - x) / 256
borrow_is x y hx hy = borrow_by x y (nat_lt x y) refl hx hy

-- the low byte of a sum, and the high one by the carry
sum_low : (a b c d : ℕ) → (a + c + 0) % 256 ≡ (a + b * 256 + (c + d * 256)) % 65536 % 256
sum_low a b c d = omega arith

sum_high_by : (a b c d k : ℕ) → a < 256 → c < 256 → k ≡ (a + c + 0) / 256 → (b + d + k) % 256 ≡ (a + b * 256 + (c + d * 256)) % 65536 / 256 % 256
sum_high_by a b c d k ha hc e = omega (arith, ha, hc, e)

pub added_low : (a b c d x y : ℕ) → x ≡ a → y ≡ c → (x + y + 0) % 256 ≡ (a + b * 256 + (c + d * 256)) % 65536 % 256
added_low a b c d x y e f = omega (arith, e, f)

pub added_high : (a b c d x y z w : ℕ) → x ≡ a → z ≡ b → y ≡ c → w ≡ d → a < 256 → c < 256 →
    (z + w + as_bit (nat_lt 255 (x + y + 0))) % 256 ≡ (a + b * 256 + (c + d * 256)) % 65536 / 256 % 256
added_high a b c d x y z w e f g h ha hc =
    let k = carry_is (x + y + 0) (omega (arith, e, g, ha, hc)) in
    high (as_bit (nat_lt 255 (x + y + 0))) (k)
  where
    high : (k : ℕ) → k ≡ (x + y + 0) / 256 → (z + w + k) % 256 ≡ (a + b * 256 + (c + d * 256)) % 65536 / 256 % 256
    high k q = omega (arith, q, e, f, g, h, ha, hc)

pub more_low : (a b x z : ℕ) → x ≡ a → z ≡ 0 → (x + z + 1) % 256 ≡ (a + b * 256 + 1) % 65536 % 256
more_low a b x z e f = omega (arith, e, f)

pub more_high : (a b x y z : ℕ) → x ≡ a → y ≡ b → z ≡ 0 → a < 256 →
    (y + z + as_bit (nat_lt 255 (x + z + 1))) % 256 ≡ (a + b * 256 + 1) % 65536 / 256 % 256
more_high a b x y z e f g ha = high (as_bit (nat_lt 255 (x + z + 1))) (carry_is (x + z + 1) (omega (arith, e, g, ha)))
  where
    high : (k : ℕ) → k ≡ (x + z + 1) / 256 → (y + z + k) % 256 ≡ (a + b * 256 + 1) % 65536 / 256 % 256
    high k q = omega (arith, q, e, f, g, ha)

pub less_low : (a b x z : ℕ) → x ≡ a → z ≡ 0 → a < 256 → difference x z 1 ≡ (a + b * 256 + 65535) % 65536 % 256
less_low a b x z e f ha = omega (arith, e, f, ha)

pub less_high : (a b x y z : ℕ) → x ≡ a → y ≡ b → z ≡ 0 → a < 256 → b < 256 →
    difference y z (as_bit (nat_lt x (z + 1))) ≡ (a + b * 256 + 65535) % 65536 / 256 % 256
less_high a b x y z e f g ha hb = high (as_bit (nat_lt x (z + 1))) (borrow_is x (z + 1) (omega (arith, e, ha)) (omega (arith, g)))
  where
    high : (k : ℕ) → k ≡ (255 + (z + 1) - x) / 256 → difference y z k ≡ (a + b * 256 + 65535) % 65536 / 256 % 256
    high k q = omega (arith, q, e, f, g, ha, hb)

pub taken_low : (a b c d x y : ℕ) → x ≡ a → y ≡ c → a < 256 → c < 256 → d < 256 →
    difference x y 0 ≡ (a + b * 256 + (65536 - (c + d * 256))) % 65536 % 256
taken_low a b c d x y e f ha hc hd = omega (arith, e, f, ha, hc, hd)

pub taken_high : (a b c d x y z w : ℕ) → x ≡ a → z ≡ b → y ≡ c → w ≡ d → a < 256 → b < 256 → c < 256 → d < 256 →
    difference z w (as_bit (nat_lt x (y + 0))) ≡ (a + b * 256 + (65536 - (c + d * 256))) % 65536 / 256 % 256
taken_high a b c d x y z w e f g h ha hb hc hd = high (as_bit (nat_lt x (y + 0))) (borrow_is x (y + 0) (omega (arith, e, ha)) (omega (arith, g, hc)))
  where
    high : (k : ℕ) → k ≡ (255 + (y + 0) - x) / 256 → difference z w k ≡ (a + b * 256 + (65536 - (c + d * 256))) % 65536 / 256 % 256
    high k q = omega (arith, q, e, f, g, h, ha, hb, hc, hd)

pub word_low : (a b x : ℕ) → x ≡ a → a < 256 → x ≡ (a + b * 256) % 256
word_low a b x e ha = omega (arith, e, ha)

pub word_high : (a b y : ℕ) → y ≡ b → a < 256 → b < 256 → y ≡ (a + b * 256) / 256 % 256
word_high a b y e ha hb = omega (arith, e, ha, hb)
