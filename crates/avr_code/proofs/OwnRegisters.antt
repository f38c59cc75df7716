-- Bytes and words that are worked out in their own registers.
use Rattle.std.proofs.Common.{◌≡◌, inl, inr, ℕ, suc, ◌+◌, ◌-◌, ◌%◌, ◌<◌, Bool, true, false, List, [], ◌∷◌, None, refl, sym, ap, ap₂, ◌∙◌, subst, arith, eq-eqb, lit<, lit≤}
use Rattle.std.proofs.lemmas.Bool.{and_parts, eqb-false, ltb-true, ne_eqb}
use Rattle.std.proofs.lemmas.Nat.{xor_of_8}
use Rattle.std.specs.Prelude.{◌==◌, ◌&&◌, not, nat_lt, if◌then◌else◌, slice_index, bit_xor}
use Rattle.chip_tables.specs.Bits.{bit_of, as_bit}
use Rattle.byte_code.specs.declared.prim.BytePrim.{BytePrim}
use Rattle.byte_code.specs.declared.prim.BytePrim.TheVariants.{Byte, Word}
use Rattle.byte_code.specs.declared.prim.ByteOp.TheVariants as bytes
use Rattle.byte_code.specs.declared.prim.WordOp.TheVariants as words
use Rattle.byte_code.specs.declared.state.Bytes.{Bytes}
use Rattle.byte_code.specs.Store.{cell, word_at, with_word}
use Rattle.byte_code.specs.Table.{plain}
use Rattle.avr_mach.specs.declared.insn.AvrInsn.TheVariants as insn
use Rattle.avr_mach.specs.declared.state.AvrState.{AvrState}
use Rattle.avr_mach.specs.Arithmetic.{with_sum, with_result, with_carry}
use Rattle.target_core.specs.Law.{Layout}
use Rattle.avr_code.specs.Code.{Board, Piece, Plain, Loads, Stores}
use Rattle.avr_code.specs.Stands.{is_work, IsCell, StandsAt}
use Rattle.avr_code.proofs.Effects.{keeping}
use Rattle.avr_code.proofs.Moves.{IsFull, changed_other, chosen, le_self, cell_free, put_cell, see_cell}
use Rattle.avr_code.proofs.Paths.{paths, AllGood}
use Rattle.avr_code.proofs.Primitives.{Ready, Ends, Goes, good_bump, is_false, load_size, store_size}
use Rattle.avr_code.proofs.Products.{negated_by, negated_in_place, negate_apart, negated_low, negated_high}
use Rattle.avr_code.proofs.Standing.{Has, Alike, ViewStands, alike, has_cell, has_cell_by, has_kept, has_word_by}
use Rattle.avr_code.proofs.View.{View, see, put, changed, moved}

-- a register that is a cell becomes its complement
abbrev complemented : View → ℕ → ℕ → View
complemented v d y = record v { core = keeping (λ c. with_carry (with_result c d (255 - y) false) true) v.core }

abbrev complement_of : ℕ → View → View
complement_of d v = moved (record (complemented v d (v.cells d)) { cells = changed v.cells d (255 - v.cells d) }) (v.core.place + 1) 1

complement_goes : (d : ℕ) (rest : List Piece) (E : View → Type 0) (n : ℕ) (v : View) → is_work d ≡ false →
    AllGood n E (paths rest 0 (complement_of d v)) → AllGood (1 + n) E (paths (Plain (insn.Com d) ∷ rest) 0 v)
complement_goes d rest E n v free good =
    good_bump 1 n E _
    (subst (λ y. AllGood n E (paths rest 0 (moved (put (complemented v d y) d (255 - y)) (v.core.place + 1) 1))) (sym (see_cell v d free))
    (subst (λ w. AllGood n E (paths rest 0 (moved w (v.core.place + 1) 1))) (sym (put_cell (complemented v d (v.cells d)) d (255 - v.cells d) free)) good))

-- the carry is added to it, with R1
abbrev carried : View → ℕ → ℕ → View
carried v d y = record v { core = keeping (λ c. with_sum c d y (v.work 1) (as_bit v.core.carry)) v.core }

abbrev carry_of : ℕ → View → View
carry_of d v =
    moved (record (carried v d (v.cells d)) { cells = changed v.cells d ((v.cells d + v.work 1 + as_bit v.core.carry) % 256) }) (v.core.place + 1) 1

carry_goes : (d : ℕ) (rest : List Piece) (E : View → Type 0) (n : ℕ) (v : View) → is_work d ≡ false →
    AllGood n E (paths rest 0 (carry_of d v)) → AllGood (1 + n) E (paths (Plain (insn.Adc d 1) ∷ rest) 0 v)
carry_goes d rest E n v free good =
    let x : ℕ → ℕ = λ y. (y + v.work 1 + as_bit v.core.carry) % 256 in
    good_bump 1 n E _
    (subst (λ y. AllGood n E (paths rest 0 (moved (put (carried v d y) d (x y)) (v.core.place + 1) 1))) (sym (see_cell v d free))
    (subst (λ w. AllGood n E (paths rest 0 (moved w (v.core.place + 1) 1))) (sym (put_cell (carried v d (v.cells d)) d (x (v.cells d)) free)) good))

-- it takes another cell
abbrev load_of : ℕ → ℕ → View → View
load_of d a v = moved (record v { cells = changed v.cells d (v.cells a) }) (v.core.place + load_size d a) (load_size d a)

load_goes : (d a : ℕ) (rest : List Piece) (E : View → Type 0) (n : ℕ) (v : View) → is_work d ≡ false →
    AllGood n E (paths rest 0 (load_of d a v)) →
    AllGood (load_size d a + n) E (paths (Loads d a ∷ rest) 0 v)
load_goes d a rest E n v free good =
    good_bump (load_size d a) n E _
    (subst (λ w. AllGood n E (paths rest 0 (moved w (v.core.place + load_size d a) (load_size d a)))) (sym (put_cell v d (v.cells a) free)) good)

-- it becomes the exclusive or with another one
abbrev differing : View → ℕ → ℕ → ℕ → View
differing v d y z = record v { core = keeping (λ c. with_result c d (bit_xor y z) false) v.core }

differ_goes : (d r : ℕ) (rest : List Piece) (E : View → Type 0) (n : ℕ) (v : View) → is_work d ≡ false → is_work r ≡ false →
    AllGood n E (paths rest 0 (moved (record (differing v d (v.cells d) (v.cells r)) { cells = changed v.cells d (bit_xor (v.cells d) (v.cells r)) })
    (v.core.place + 1) 1)) → AllGood (1 + n) E (paths (Plain (insn.Eor d r) ∷ rest) 0 v)
differ_goes d r rest E n v free free_r good =
    good_bump 1 n E _
    (subst (λ y. AllGood n E (paths rest 0 (moved (put (differing v d y (see v r)) d (bit_xor y (see v r))) (v.core.place + 1) 1))) (sym (see_cell v d free))
    (subst (λ z. AllGood n E (paths rest 0 (moved (put (differing v d (v.cells d) z) d (bit_xor (v.cells d) z)) (v.core.place + 1) 1)))
    (sym (see_cell v r free_r))
    (subst (λ w. AllGood n E (paths rest 0 (moved w (v.core.place + 1) 1)))
    (sym (put_cell (differing v d (v.cells d) (v.cells r)) d (bit_xor (v.cells d) (v.cells r)) free)) good)))

at_same : (f : ℕ → ℕ) (a x : ℕ) → changed f a x a ≡ x
at_same f a x = ap (λ t. if t then x else f a) (eq-eqb a a refl)

at_next : (f : ℕ → ℕ) (a x : ℕ) → changed f a x (a + 1) ≡ f (a + 1)
at_next f a x = ap (λ t. if t then x else f (a + 1)) (ne_eqb (a + 1) a (λ e. omega (arith, e)))

before_next : (f : ℕ → ℕ) (a x : ℕ) → changed f (a + 1) x a ≡ f a
before_next f a x = ap (λ t. if t then x else f a) (ne_eqb a (a + 1) (λ e. omega (arith, e)))

-- of two writes of a byte the later one stays
again : (f : ℕ → ℕ) (a x y b : ℕ) → changed (changed f a x) a y b ≡ changed f a y b
again f a x y b = by (b == a)
  where
    by : (i : Bool) → (if i then y else if i then x else f b) ≡ (if i then y else f b)
    by true = refl
    by false = refl

-- of two writes of each byte of a word the later ones stay
twice : (f : ℕ → ℕ) (a p q x y b : ℕ) →
    changed (changed (changed (changed f a p) (a + 1) q) a x) (a + 1) y b ≡ changed (changed f a x) (a + 1) y b
twice f a p q x y b = by (b == a + 1) (b == a)
  where
    by : (i j : Bool) → (if i then y else if j then x else if i then q else if j then p else f b) ≡ (if i then y else if j then x else f b)
    by true j = refl
    by false true = refl
    by false false = refl

six_on : (n p q : ℕ) → n ≡ p → q ≡ p + 6 → n + 1 + 1 + 1 + 1 + 1 + 1 ≡ q
six_on n p q e f = omega (arith, e, f)

over_four : (n p q : ℕ) → n ≡ p → q ≡ p + 6 → n + 1 + 1 + 4 ≡ q
over_four n p q e f = omega (arith, e, f)

two_on : (n a p q : ℕ) → n ≡ p → q ≡ p + (a + (1 + 0)) → n + a + 1 ≡ q
two_on n a p q e f = omega (arith, e, f)

four_on : (n a b c d p q : ℕ) → n ≡ p → q ≡ p + (a + (b + (c + (d + 0)))) → n + a + b + c + d ≡ q
four_on n a b c d p q e f = omega (arith, e, f)

pub negate_full : (to sign : ℕ) → IsFull (negated_by to sign (nat_lt to 32 && nat_lt sign 32))
negate_full to sign = by (nat_lt to 32 && nat_lt sign 32)
  where
    by : (b : Bool) → IsFull (negated_by to sign b)
    by true = tt
    by false = tt

abbrev xor_in_place : ℕ → ℕ → ℕ → List Piece
xor_in_place to a b = Loads to a ∷ Plain (insn.Eor to b) ∷ []

abbrev xor_apart : ℕ → ℕ → ℕ → List Piece
xor_apart to a b = Loads 16 a ∷ Loads 17 b ∷ Plain (insn.Eor 16 17) ∷ Stores to 16 ∷ []

abbrev xor_by : ℕ → ℕ → ℕ → Bool → List Piece
xor_by to a b t = if t then xor_in_place to a b else xor_apart to a b

pub xor_full : (to a b : ℕ) → IsFull (xor_by to a b (nat_lt to 32 && (nat_lt b 32 && not (b == to))))
xor_full to a b = by (nat_lt to 32 && (nat_lt b 32 && not (b == to)))
  where
    by : (t : Bool) → IsFull (xor_by to a b t)
    by true = tt
    by false = tt

module _ (board : Board) (lay : Layout) (m : AvrState) (s : Bytes) where
  abbrev Ready' : BytePrim → Type 0
  Ready' p = Ready board lay m s p

  abbrev Goes' : BytePrim → Type 0
  Goes' p = Goes board lay m s p

  negate_here : (to sign : ℕ) → (nat_lt to 32 && nat_lt sign 32) ≡ true → Ready' (Word (words.NegateIf to sign)) →
      slice_index lay.places (suc s.place) < 8192 → StandsAt board lay.places m s → Goes' (Word (words.NegateIf to sign))
  negate_here to sign both ready low st =
      chosen board lay m s p (negated_in_place to sign) tt ready (ap (negated_by to sign) both) (ap (negated_by to sign) both) refl refl
      ((near_sign, lit< tt), (lit< tt, (near, (near_next, ((near, lit< tt), ((near_next, lit< tt), tt)))))) st
      (λ next v h. (
        λ t.
            let E = Ends board lay m s p in
            let v1 = moved v (v.core.place + 1 + 1) 2 in
            let v2 = complement_of to v1 in
            let v3 = complement_of (to + 1) v2 in
            let v4 = carry_of to v3 in
            good_bump 2 4 E (paths (Plain (insn.Com to) ∷ Plain (insn.Com (to + 1)) ∷ Plain (insn.Adc to 1) ∷ Plain (insn.Adc (to + 1) 1) ∷ []) 0 v1)
            (complement_goes to (Plain (insn.Com (to + 1)) ∷ Plain (insn.Adc to 1) ∷ Plain (insn.Adc (to + 1) 1) ∷ []) E 3 v1 free
            (complement_goes (to + 1) (Plain (insn.Adc to 1) ∷ Plain (insn.Adc (to + 1) 1) ∷ []) E 2 v2 free_next
            (carry_goes to (Plain (insn.Adc (to + 1) 1) ∷ []) E 1 v3 free (carry_goes (to + 1) [] E 0 v4 free_next (
              lit≤ tt,
              record { has = negated v _ h (alike v _ refl refl refl (λ port. refl) refl refl refl refl) t refl; at = six_on v.core.place _ _ h.at next },
            ))))),
        λ t. (
          subst (λ n. n < 8192) (sym (over_four v.core.place _ _ h.at next)) low,
          (
            lit≤ tt,
            record { has = left v _ h (alike v _ refl refl refl (λ port. refl) refl refl refl refl) t refl; at = over_four v.core.place _ _ h.at next },
          ),
        ),
      ))
    where
      p : BytePrim
      p = Word (words.NegateIf to sign)

      near : to < 32
      near = ltb-true to 32 (and_parts (nat_lt to 32) (nat_lt sign 32) both).0

      near_sign : sign < 32
      near_sign = ltb-true sign 32 (and_parts (nat_lt to 32) (nat_lt sign 32) both).1

      in_low : IsCell to
      in_low = ready.admitted.0.0

      in_high : IsCell (to + 1)
      in_high = ready.admitted.0.1

      near_next : to + 1 < 32
      near_next = by in_high
        where
          by : IsCell (to + 1) → to + 1 < 32
          by (inl low) = low.0
          by (inr high) = let far = high.0 in let e = near in omega (arith, far, e)

      free : is_work to ≡ false
      free = cell_free to in_low

      free_next : is_work (to + 1) ≡ false
      free_next = cell_free (to + 1) in_high

      Next : Bool → Bytes
      Next b = record s { place = suc s.place; store = plain (if b then with_word s.store to ((65536 - word_at s.store to) % 65536) else s.store) }

      test : (v : View) → ViewStands board lay.places v s → (b : Bool) → bit_of (if is_work sign then v.work sign else v.cells sign) 7 ≡ b →
          bit_of (cell s.store sign) 7 ≡ b
      test v h b t = sym (ap (λ x. bit_of x 7) (see_cell v sign (cell_free sign ready.admitted.1) ∙ h.has.holds.cells sign ready.admitted.1)) ∙ t

      left : (v w : View) → ViewStands board lay.places v s → Alike v w → bit_of (if is_work sign then v.work sign else v.cells sign) 7 ≡ false →
          w.cells ≡ v.cells → Has board lay.places w (Next (bit_of (cell s.store sign) 7))
      left v w h k t same = subst (λ b. Has board lay.places w (Next b)) (sym (test v h false t))
          (has_kept board lay.places v w s k h.has None (suc s.place) (λ b. ap (λ f. f b) same) tt)

      flipped : (ℕ → ℕ) → ℕ → ℕ
      flipped f = changed (changed f to (255 - f to)) (to + 1) (255 - changed f to (255 - f to) (to + 1))

      raised : (ℕ → ℕ) → ℕ → ℕ → ℕ
      raised f z =
          changed (changed f to ((f to + z + 1) % 256)) (to + 1)
          ((changed f to ((f to + z + 1) % 256) (to + 1) + z + as_bit (nat_lt 255 (f to + z + 1))) % 256)

      low_byte : (f : ℕ → ℕ) → flipped f to ≡ 255 - f to
      low_byte f = before_next (changed f to (255 - f to)) to _ ∙ at_same f to (255 - f to)

      high_byte : (f : ℕ → ℕ) (x : ℕ) → changed (flipped f) to x (to + 1) ≡ 255 - f (to + 1)
      high_byte f x =
          at_next (flipped f) to x ∙ at_same (changed f to (255 - f to)) (to + 1) _ ∙ ap (λ y. 255 - y) (at_next f to (255 - f to))

      negated : (v w : View) → ViewStands board lay.places v s → Alike v w → bit_of (if is_work sign then v.work sign else v.cells sign) 7 ≡ true →
          w.cells ≡ raised (flipped v.cells) (v.work 1) → Has board lay.places w (Next (bit_of (cell s.store sign) 7))
      negated v w h k t same =
          let f = v.cells in
          let z = v.work 1 in
          let is_zero = (h.has.started ready.begins).zero in
          let e1 = h.has.holds.cells to in_low in
          let e2 = h.has.holds.cells (to + 1) in_high in
          let x = (flipped f to + z + 1) % 256 in
          subst (λ b. Has board lay.places w (Next b)) (sym (test v h true t))
          (has_word_by board lay.places v w s k h.has to x _ ((65536 - word_at s.store to) % 65536) in_low in_high
          (λ b. ap (λ g. g b) same ∙ twice f to (255 - f to) _ x _ b)
          (ap (λ y. (y + z + 1) % 256) (low_byte f)
          ∙ negated_low (cell s.store to) (cell s.store (to + 1)) _ _ e1 is_zero (h.has.holds.bytes to) (h.has.holds.bytes (to + 1)))
          (ap₂ (λ y u. (y + z + as_bit (nat_lt 255 (u + z + 1))) % 256) (high_byte f x) (low_byte f)
          ∙ negated_high (cell s.store to) (cell s.store (to + 1)) _ _ _ e1 e2 is_zero (h.has.holds.bytes to) (h.has.holds.bytes (to + 1))))

  pub negate_if : (to sign : ℕ) → Ready' (Word (words.NegateIf to sign)) → slice_index lay.places (suc s.place) < 8192 → StandsAt board lay.places m s →
      Goes' (Word (words.NegateIf to sign))
  negate_if to sign ready low st = by (nat_lt to 32 && nat_lt sign 32) refl
    where
      by : (b : Bool) → (nat_lt to 32 && nat_lt sign 32) ≡ b → Goes' (Word (words.NegateIf to sign))
      by true e = negate_here to sign e ready low st
      by false e = negate_apart board lay m s to sign e ready st

  pub exclusive_or : (to a b : ℕ) → Ready' (Byte (bytes.Xor to a b)) → StandsAt board lay.places m s → Goes' (Byte (bytes.Xor to a b))
  exclusive_or to a b ready st = by (nat_lt to 32 && (nat_lt b 32 && not (b == to))) refl
    where
      p : BytePrim
      p = Byte (bytes.Xor to a b)

      small : bit_xor (cell s.store a) (cell s.store b) < 256
      small = xor_of_8 (cell s.store a) (cell s.store b) (st.shows.bytes a) (st.shows.bytes b)

      to_cell : IsCell to
      to_cell = ready.admitted.0

      by : (t : Bool) → (nat_lt to 32 && (nat_lt b 32 && not (b == to))) ≡ t → Goes' p
      by true e =
          let parts = and_parts (nat_lt to 32) (nat_lt b 32 && not (b == to)) e in
          let rest = and_parts (nat_lt b 32) (not (b == to)) parts.1 in
          let near = ltb-true to 32 parts.0 in
          chosen board lay m s p (xor_in_place to a b) tt ready (ap (xor_by to a b) e) (ap (xor_by to a b) e) refl refl
          ((near, ready.admitted.1), ((near, ltb-true b 32 rest.0), tt)) st
          (λ next v h.
          let g = changed v.cells to (v.cells a) in
          load_goes to a (Plain (insn.Eor to b) ∷ []) (Ends board lay m s p) 1 v (cell_free to to_cell)
          (differ_goes to b [] (Ends board lay m s p) 0 (load_of to a v) (cell_free to to_cell) (cell_free b ready.admitted.2) (
            lit≤ tt,
            record {
              has = has_cell_by board lay.places v _ s (alike v _ refl refl refl (λ port. refl) refl refl refl refl) h.has to (bit_xor (g to) (g b))
                  (bit_xor (cell s.store a) (cell s.store b)) to_cell (again v.cells to (v.cells a) (bit_xor (g to) (g b)))
                  (ap₂ bit_xor (at_same v.cells to (v.cells a) ∙ h.has.holds.cells a ready.admitted.1)
                  (changed_other v.cells to (v.cells a) b (eqb-false b to (is_false _ rest.1)) ∙ h.has.holds.cells b ready.admitted.2)) small;
              at = two_on v.core.place (load_size to a) _ _ h.at next;
            },
          )))
      by false e = chosen board lay m s p (xor_apart to a b) tt ready (ap (xor_by to a b) e) (ap (xor_by to a b) e) refl refl
          ((lit< tt, ready.admitted.1), ((lit< tt, ready.admitted.2), ((lit< tt, lit< tt), ((lit< tt, to_cell), tt)))) st
          (λ next v h. (
            le_self _,
            record {
              has = has_cell board lay.places v _ s (alike v _ refl refl refl (λ port. refl) refl refl refl refl) h.has to (bit_xor (v.cells a) (v.cells b))
                  (bit_xor (cell s.store a) (cell s.store b)) to_cell refl
                  (ap₂ bit_xor (h.has.holds.cells a ready.admitted.1) (h.has.holds.cells b ready.admitted.2)) small;
              at = four_on v.core.place (load_size 16 a) (load_size 17 b) 1 (store_size to 16) _ _ h.at next;
            },
          ))
