-- Comparisons of words, byte by byte.
use Rattle.std.proofs.Common.{◌≡◌, ◌≢◌, ℕ, ◌+◌, ◌-◌, ◌*◌, ◌/◌, ◌<◌, ◌⊎◌, inl, inr, Bool, true, false, refl, sym, ap, ap₂, ◌∙◌, arith, eq-eqb}
use Rattle.std.proofs.lemmas.Bool.{cases_eq, ne_eqb, lt-ltb, le-ltb, ltb-true, ltb-false, leb-true, leb-false}
use Rattle.std.specs.Prelude.{◌==◌, ◌&&◌, ◌||◌, not, nat_lt, nat_le}
use Rattle.chip_tables.specs.Bits.{as_bit}
use Rattle.byte_code.specs.Store.{lifted}
use Rattle.avr_mach.specs.Arithmetic.{difference, differ}
use Rattle.avr_code.proofs.Sums.{borrow_is}

no_difference : (b d : ℕ) → b < 256 → d < 256 → (difference b d 0 == 0) ≡ (b == d)
no_difference b d hb hd = by (cases_eq b d)
  where
    by : (b ≡ d) ⊎ (b ≢ d) → (difference b d 0 == 0) ≡ (b == d)
    by (inl e) = eq-eqb (difference b d 0) 0 (omega (arith, e)) ∙ sym (eq-eqb b d e)
    by (inr ne) = ne_eqb (difference b d 0) 0 (λ q. ne (omega (arith, q, hb, hd))) ∙ sym (ne_eqb b d ne)

high_equal : (a b c d : ℕ) → a ≡ c → (b == d) ≡ (a + b * 256 == c + d * 256)
high_equal a b c d e = by (cases_eq b d)
  where
    by : (b ≡ d) ⊎ (b ≢ d) → (b == d) ≡ (a + b * 256 == c + d * 256)
    by (inl q) = eq-eqb b d q ∙ sym (eq-eqb (a + b * 256) (c + d * 256) (omega (arith, e, q)))
    by (inr ne) = ne_eqb b d ne ∙ sym (ne_eqb (a + b * 256) (c + d * 256) (λ z. ne (omega (arith, e, z))))

-- the zero flag of a chain of two bytes
pub equal_words : (a b c d : ℕ) → a < 256 → b < 256 → c < 256 → d < 256 →
    ((difference a c 0 == 0) && (difference b d (as_bit (nat_lt a (c + 0))) == 0)) ≡ (a + b * 256 == c + d * 256)
equal_words a b c d ha hb hc hd = by (cases_eq a c)
  where
    by : (a ≡ c) ⊎ (a ≢ c) → ((difference a c 0 == 0) && (difference b d (as_bit (nat_lt a (c + 0))) == 0)) ≡ (a + b * 256 == c + d * 256)
    by (inl e) =
        ap₂ (λ x y. x && (difference b d (as_bit y) == 0)) (eq-eqb (difference a c 0) 0 (omega (arith, e))) (le-ltb a (c + 0) (omega (arith, e)))
        ∙ no_difference b d hb hd
        ∙ high_equal a b c d e
    by (inr ne) =
        ap (λ x. x && (difference b d (as_bit (nat_lt a (c + 0))) == 0)) (ne_eqb (difference a c 0) 0 (λ q. ne (omega (arith, q, ha, hc))))
        ∙ sym (ne_eqb (a + b * 256) (c + d * 256) (λ q. ne (omega (arith, q, ha, hc))))

below_by : (a b n k : ℕ) → a < 256 → n < 256 → k ≡ (255 + (n + 0) - a) / 256 → nat_lt b (0 + k) ≡ nat_lt (a + b * 256) n
below_by a b n k ha hn e = by (nat_lt (a + b * 256) n) refl
  where
    by : (t : Bool) → nat_lt (a + b * 256) n ≡ t → nat_lt b (0 + k) ≡ nat_lt (a + b * 256) n
    by true q = let low = ltb-true (a + b * 256) n q in lt-ltb b (0 + k) (omega (arith, low, e, ha, hn)) ∙ sym q
    by false q = let high = ltb-false (a + b * 256) n q in le-ltb b (0 + k) (omega (arith, high, e, ha, hn)) ∙ sym q

-- the carry of a chain of two bytes, of which the second is compared with 0
pub below_words : (a b n z : ℕ) → z ≡ 0 → a < 256 → n < 256 → nat_lt b (z + as_bit (nat_lt a (n + 0))) ≡ nat_lt (a + b * 256) n
below_words a b n z e ha hn =
    ap (λ y. nat_lt b (y + as_bit (nat_lt a (n + 0)))) e ∙ below_by a b n (as_bit (nat_lt a (n + 0))) ha hn (borrow_is a (n + 0) ha (omega (arith, hn)))

abbrev overflow : Bool → Bool → Bool → Bool
overflow x y n = x && (not y && not n) || not x && (y && n)

signs : (a b c d k : ℕ) (x y n : Bool) → a < 256 → b < 256 → c < 256 → d < 256 → k ≡ (255 + (c + 0) - a) / 256 → nat_le 128 b ≡ x → nat_le 128 d ≡ y →
    nat_le 128 (difference b d k) ≡ n → differ n (overflow x y n) ≡ nat_lt (lifted (a + b * 256)) (lifted (c + d * 256))
signs a b c d k true true true ha hb hc hd e p q r = let p' = leb-true 128 b p in let q' = leb-true 128 d q in let r' = leb-true 128 (difference b d k) r in
    sym (lt-ltb (lifted (a + b * 256)) (lifted (c + d * 256)) (omega (arith, e, p', q', r', ha, hb, hc, hd)))
signs a b c d k true true false ha hb hc hd e p q r = let p' = leb-true 128 b p in let q' = leb-true 128 d q in let r' = leb-false 128 (difference b d k) r in
    sym (le-ltb (lifted (a + b * 256)) (lifted (c + d * 256)) (omega (arith, e, p', q', r', ha, hb, hc, hd)))
signs a b c d k true false true ha hb hc hd e p q r = let p' = leb-true 128 b p in let q' = leb-false 128 d q in let r' = leb-true 128 (difference b d k) r in
    sym (lt-ltb (lifted (a + b * 256)) (lifted (c + d * 256)) (omega (arith, e, p', q', r', ha, hb, hc, hd)))
signs a b c d k true false false ha hb hc hd e p q r = let p' = leb-true 128 b p in let q' = leb-false 128 d q in let r' = leb-false 128 (difference b d k) r
    in
    sym (lt-ltb (lifted (a + b * 256)) (lifted (c + d * 256)) (omega (arith, e, p', q', r', ha, hb, hc, hd)))
signs a b c d k false true true ha hb hc hd e p q r = let p' = leb-false 128 b p in let q' = leb-true 128 d q in let r' = leb-true 128 (difference b d k) r in
    sym (le-ltb (lifted (a + b * 256)) (lifted (c + d * 256)) (omega (arith, e, p', q', r', ha, hb, hc, hd)))
signs a b c d k false true false ha hb hc hd e p q r = let p' = leb-false 128 b p in let q' = leb-true 128 d q in let r' = leb-false 128 (difference b d k) r
    in
    sym (le-ltb (lifted (a + b * 256)) (lifted (c + d * 256)) (omega (arith, e, p', q', r', ha, hb, hc, hd)))
signs a b c d k false false true ha hb hc hd e p q r = let p' = leb-false 128 b p in let q' = leb-false 128 d q in let r' = leb-true 128 (difference b d k) r
    in
    sym (lt-ltb (lifted (a + b * 256)) (lifted (c + d * 256)) (omega (arith, e, p', q', r', ha, hb, hc, hd)))
signs a b c d k false false false ha hb hc hd e p q r = let p' = leb-false 128 b p in let q' = leb-false 128 d q in let r' = leb-false 128 (difference b d k)
    r in
    sym (le-ltb (lifted (a + b * 256)) (lifted (c + d * 256)) (omega (arith, e, p', q', r', ha, hb, hc, hd)))

-- the sign of a chain of two bytes
pub less_words : (a b c d : ℕ) → a < 256 → b < 256 → c < 256 → d < 256 →
    let n = nat_le 128 (difference b d (as_bit (nat_lt a (c + 0)))) in
    differ n (overflow (nat_le 128 b) (nat_le 128 d) n) ≡ nat_lt (lifted (a + b * 256)) (lifted (c + d * 256))
less_words a b c d ha hb hc hd =
    signs a b c d (as_bit (nat_lt a (c + 0))) _ _ _ ha hb hc hd (borrow_is a (c + 0) ha (omega (arith, hc))) refl refl refl
