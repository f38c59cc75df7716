-- A bit of a byte that is written, and the others.
use Rattle.std.proofs.Common.{◌≡◌, ◌≢◌, ℕ, zero, suc, ◌*◌, ◌-◌, ◌%◌, ◌^◌, ◌<◌, max, Bool, true, false, eqb, refl, sym, ap, ◌∙◌, arith}
use Rattle.std.specs.Int.{bit_at, bit_not, w8}
use Rattle.std.specs.Prelude.{bit_and}
use Rattle.std.proofs.lemmas.Nat.Bits.{bit_at_or, bit_at-pow_same, bit_at-pow_other, bit_at-lt, bit_at_clear_same, bit_at_clear_other}
use Rattle.chip_tables.specs.Bits.{bit_of}
use Rattle.byte_code.specs.Store.{with_bit}

-- numbers below 8, one by one
pub below_8 : (P : ℕ → Type 0) → P 0 → P 1 → P 2 → P 3 → P 4 → P 5 → P 6 → P 7 → (b : ℕ) → b < 8 → P b
below_8 P p0 p1 p2 p3 p4 p5 p6 p7 zero h = p0
below_8 P p0 p1 p2 p3 p4 p5 p6 p7 (suc zero) h = p1
below_8 P p0 p1 p2 p3 p4 p5 p6 p7 (suc (suc zero)) h = p2
below_8 P p0 p1 p2 p3 p4 p5 p6 p7 (suc (suc (suc zero))) h = p3
below_8 P p0 p1 p2 p3 p4 p5 p6 p7 (suc (suc (suc (suc zero)))) h = p4
below_8 P p0 p1 p2 p3 p4 p5 p6 p7 (suc (suc (suc (suc (suc zero))))) h = p5
below_8 P p0 p1 p2 p3 p4 p5 p6 p7 (suc (suc (suc (suc (suc (suc zero)))))) h = p6
below_8 P p0 p1 p2 p3 p4 p5 p6 p7 (suc (suc (suc (suc (suc (suc (suc zero))))))) h = p7
below_8 P p0 p1 p2 p3 p4 p5 p6 p7 (suc (suc (suc (suc (suc (suc (suc (suc b)))))))) h = absurd (omega (arith, h))

mask_is : (b : ℕ) → b < 8 → bit_not w8 (1 * 2 ^ b % 256) ≡ 255 - 2 ^ b
mask_is = below_8 (λ b. bit_not w8 (1 * 2 ^ b % 256) ≡ 255 - 2 ^ b) refl refl refl refl refl refl refl refl

-- the bit that was written is so
pub bit_put : (n b : ℕ) (x : Bool) → b < 8 → bit_of (with_bit n b x) b ≡ x
bit_put n b true h =
    let below : bit_at n b < 2 = bit_at-lt n b in
    let most : max (bit_at n b) 1 ≡ 1 = omega arith in
    ap (λ m. eqb m 1) (bit_at_or n (2 ^ b) b ∙ ap (max (bit_at n b)) (bit_at-pow_same b) ∙ most)
bit_put n b false h =
    let clear : bit_at (bit_and n (255 - 2 ^ b)) b ≡ 0 = ap (λ m. bit_at (bit_and n m) b) (sym (mask_is b h)) ∙ bit_at_clear_same w8 n b h in
    ap (λ m. eqb m 1) clear

-- the others are as they were
pub bit_kept : (n b c : ℕ) (x : Bool) → b < 8 → c < 8 → c ≢ b → bit_of (with_bit n b x) c ≡ bit_of n c
bit_kept n b c true h k ne =
    let most : max (bit_at n c) 0 ≡ bit_at n c = omega arith in
    ap (λ m. eqb m 1) (bit_at_or n (2 ^ b) c ∙ ap (max (bit_at n c)) (bit_at-pow_other b c ne) ∙ most)
bit_kept n b c false h k ne =
    ap (λ m. eqb m 1) (ap (λ m. bit_at (bit_and n m) c) (sym (mask_is b h)) ∙ bit_at_clear_other w8 n b h c k ne)

-- a bit below 8 is its own number in a byte
pub in_byte_is : (b : ℕ) → b < 8 → b % 8 ≡ b
in_byte_is b h = omega (arith, h)
