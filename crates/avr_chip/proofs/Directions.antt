-- Which pins are driven where the outputs' bits of DDRx are set.
use Rattle.std.proofs.Common.{◌≡◌, ◌≢◌, ◌⊎◌, inl, inr, ℕ, zero, suc, ◌<◌, Bool, true, false, List, [], ◌∷◌, length, map, Some, refl, sym, ap, subst, ◌∙◌, arith, eq-eqb}
use Rattle.std.proofs.lemmas.Bool.{cases_eq, ne_eqb, true≢false}
use Rattle.std.specs.Prelude.{◌==◌, if◌then◌else◌, slice_index_or, Contains, ◌↔◌}
use Rattle.chip_tables.specs.Bits.{bit_of}
use Rattle.chip_tables.specs.declared.pins.PortBit.{PortBit}
use Rattle.byte_code.specs.Store.{with_bit, in_byte}
use Rattle.byte_lower.proofs.BitLemmas.{below_8, bit_put, bit_kept, in_byte_is}
use Rattle.avr_code.specs.Code.{direction}
use Rattle.avr_chip.specs.Layout.{AreBits}

no_bit : (b : ℕ) → b < 8 → bit_of 0 b ≡ false
no_bit = below_8 (λ b. bit_of 0 b ≡ false) refl refl refl refl refl refl refl refl

-- one more output: its own bit is set
own_set : (p : PortBit) (ps : List PortBit) → p.bit < 8 → bit_of (direction (p ∷ ps) p.port) p.bit ≡ true
own_set p ps low =
    let at : in_byte p.bit ≡ p.bit = in_byte_is p.bit low in
    ap (λ x. bit_of (if x then with_bit (direction ps p.port) (in_byte p.bit) true else direction ps p.port) p.bit) (eq-eqb p.port p.port refl)
    ∙ ap (λ k. bit_of (with_bit (direction ps p.port) k true) p.bit) at ∙ bit_put (direction ps p.port) p.bit true low

-- and the others are as without it
other_port : (p b : PortBit) (ps : List PortBit) → p.port ≢ b.port → bit_of (direction (p ∷ ps) b.port) b.bit ≡ bit_of (direction ps b.port) b.bit
other_port p b ps ne =
    ap (λ x. bit_of (if x then with_bit (direction ps b.port) (in_byte p.bit) true else direction ps b.port) b.bit) (ne_eqb p.port b.port ne)

other_bit : (p b : PortBit) (ps : List PortBit) → p.bit < 8 → b.bit < 8 → p.port ≡ b.port → b.bit ≢ p.bit →
    bit_of (direction (p ∷ ps) b.port) b.bit ≡ bit_of (direction ps b.port) b.bit
other_bit p b ps low small same ne =
    ap (λ x. bit_of (if x then with_bit (direction ps b.port) (in_byte p.bit) true else direction ps b.port) b.bit) (eq-eqb p.port b.port same)
    ∙ ap (λ k. bit_of (with_bit (direction ps b.port) k true) b.bit) (in_byte_is p.bit low) ∙ bit_kept (direction ps b.port) p.bit b.bit true low small ne

abbrev pin : ℕ → ℕ → PortBit
pin x y = record { port = x; bit = y }

same_pin : (p b : PortBit) → p.port ≡ b.port → b.bit ≡ p.bit → p ≡ b
same_pin p b e f = ap (λ x. pin x p.bit) e ∙ ap (pin b.port) (sym f)

-- an output is this one or another
data Whether (p b : PortBit) : Type 0 where
  here : p ≡ b → Whether p b
  bits : p.port ≡ b.port → b.bit ≢ p.bit → Whether p b
  ports : p.port ≢ b.port → Whether p b

whether : (p b : PortBit) → Whether p b
whether p b = by (cases_eq p.port b.port) (cases_eq b.bit p.bit)
  where
    by : (p.port ≡ b.port) ⊎ (p.port ≢ b.port) → (b.bit ≡ p.bit) ⊎ (b.bit ≢ p.bit) → Whether p b
    by (inr ne) other = ports ne
    by (inl e) (inr ne) = bits e ne
    by (inl e) (inl f) = here (same_pin p b e f)

module _ (b : PortBit) (small : b.bit < 8) where
  behind : (p : PortBit) (ps : List PortBit) → Contains (map Some ps) (Some b) → Contains (map Some (p ∷ ps)) (Some b)
  behind p ps c = (suc c.0, omega (arith, c.1), c.2)

  found : (ps : List PortBit) → AreBits ps → bit_of (direction ps b.port) b.bit ≡ true → Contains (map Some ps) (Some b)
  found [] h e = absurd (true≢false (sym e ∙ no_bit b.bit small))
  found (p ∷ ps) h e = by (whether p b) (found ps h.1)
    where
      by : Whether p b → (bit_of (direction ps b.port) b.bit ≡ true → Contains (map Some ps) (Some b)) → Contains (map Some (p ∷ ps)) (Some b)
      by (here is) rest = (zero, omega arith, ap Some is)
      by (bits same ne) rest = behind p ps (rest (sym (other_bit p b ps h.0 small same ne) ∙ e))
      by (ports ne) rest = behind p ps (rest (sym (other_port p b ps ne) ∙ e))

  set : (ps : List PortBit) → AreBits ps → (k : ℕ) → k < length (map Some ps) → slice_index_or (map Some ps) k (Some b) ≡ Some b →
      bit_of (direction ps b.port) b.bit ≡ true
  set [] h k lt e = absurd (omega arith)
  set (p ∷ ps) h zero lt e =
      let is : p ≡ b = cc in subst (λ (q : PortBit). bit_of (direction (p ∷ ps) q.port) q.bit ≡ true) is (own_set p ps h.0)
  set (p ∷ ps) h (suc k) lt e = by (whether p b) (set ps h.1 k (omega (arith, lt)) e)
    where
      by : Whether p b → bit_of (direction ps b.port) b.bit ≡ true → bit_of (direction (p ∷ ps) b.port) b.bit ≡ true
      by (here is) rest = subst (λ (q : PortBit). bit_of (direction (p ∷ ps) q.port) q.bit ≡ true) is (own_set p ps h.0)
      by (bits same ne) rest = other_bit p b ps h.0 small same ne ∙ rest
      by (ports ne) rest = other_port p b ps ne ∙ rest

  -- a pin's bit of DDRx is set just where the pin is an output's
  pub driven : (ps : List PortBit) → AreBits ps → (bit_of (direction ps b.port) b.bit ≡ true) ↔ Contains (map Some ps) (Some b)
  driven ps h = (found ps h, λ c. set ps h c.0 c.1 c.2)
