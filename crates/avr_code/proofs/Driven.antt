-- The bits of a direction are those of the outputs.
use Rattle.std.proofs.Common.{◌≡◌, ◌≢◌, ◌⊎◌, inl, inr, ℕ, ◌^◌, ◌<◌, max, Bool, true, false, List, [], ◌∷◌, sym, ap, ◌∙◌, arith, eq-eqb}
use Rattle.std.proofs.lemmas.Bool.{cases_eq, ne_eqb}
use Rattle.std.proofs.lemmas.Nat.Bits.{bit_at-zero, bit_at-lt, bit_at_or, bit_at-pow_same, bit_at-pow_other}
use Rattle.std.specs.Int.{bit_at}
use Rattle.std.specs.List.{list_any}
use Rattle.std.specs.Prelude.{◌==◌, ◌&&◌, ◌||◌, if◌then◌else◌, bit_or}
use Rattle.chip_tables.specs.Bits.{bit_of}
use Rattle.chip_tables.specs.declared.pins.PortBit.{PortBit}
use Rattle.byte_code.specs.Store.{in_byte, with_bit}
use Rattle.avr_code.specs.Code.{direction}
use Rattle.avr_code.specs.Stands.{is_pin}

-- a bit that is set, and another
set_here : (n k b : ℕ) → b ≡ k → bit_of (bit_or n (2 ^ k)) b ≡ true
set_here n k b e =
    ap (bit_of (bit_or n (2 ^ k))) e
    ∙ eq-eqb (bit_at (bit_or n (2 ^ k)) k) 1 (let x = bit_at_or n (2 ^ k) k in let y = bit_at-pow_same k in let z = bit_at-lt n k in one _ _ _ x y z)
  where
    one : (r l m : ℕ) → r ≡ max l m → m ≡ 1 → l < 2 → r ≡ 1
    one r l m e f g = omega (arith, e, f, g)

set_other : (n k b : ℕ) → b ≢ k → bit_of (bit_or n (2 ^ k)) b ≡ bit_of n b
set_other n k b ne = ap (λ x. x == 1) (same _ _ _ (bit_at_or n (2 ^ k) b) (bit_at-pow_other k b ne))
  where
    same : (r l m : ℕ) → r ≡ max l m → m ≡ 0 → r ≡ l
    same r l m e f = omega (arith, e, f)

pub driven : (outputs : List PortBit) (port b : ℕ) → bit_of (direction outputs port) b ≡ list_any (is_pin port b) outputs
driven [] port b = ap (λ x. x == 1) (bit_at-zero b)
driven (p ∷ ps) port b = by (driven ps port b) (p.port == port) (cases_eq b (in_byte p.bit))
  where
    by : bit_of (direction ps port) b ≡ list_any (is_pin port b) ps → (t : Bool) → (b ≡ in_byte p.bit) ⊎ (b ≢ in_byte p.bit) →
        bit_of (if t then with_bit (direction ps port) (in_byte p.bit) true else direction ps port) b
        ≡ ((t && (in_byte p.bit == b)) || list_any (is_pin port b) ps)
    by rest true (inl e) =
        set_here (direction ps port) (in_byte p.bit) b e ∙ sym (ap (λ t. (true && t) || list_any (is_pin port b) ps) (eq-eqb (in_byte p.bit) b (sym e)))
    by rest true (inr ne) =
        set_other (direction ps port) (in_byte p.bit) b ne ∙ rest
        ∙ sym (ap (λ t. (true && t) || list_any (is_pin port b) ps) (ne_eqb (in_byte p.bit) b (λ q. ne (sym q))))
    by rest false e = rest
