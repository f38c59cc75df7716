-- Words that are compared, and to which a number is added.
use Rattle.std.proofs.Common.{◌≡◌, ◌≢◌, ◌⊎◌, inl, inr, ℕ, suc, ◌+◌, ◌*◌, ◌%◌, ◌<◌, Bool, true, false, List, [], ◌∷◌, Some, refl, sym, ap, ap₂, ◌∙◌, arith, eq-eqb, lit<, lit≤}
use Rattle.std.proofs.lemmas.Bool.{and_parts, cases_eq, eqb-true, ne_eqb, lt-ltb, le-ltb, ltb-true, ltb-false}
use Rattle.std.proofs.lemmas.Nat.{le_or_l, le_or_r}
use Rattle.std.specs.Prelude.{◌==◌, ◌&&◌, ◌++◌, nat_lt, if◌then◌else◌, bit_or}
use Rattle.byte_code.specs.declared.prim.BytePrim.{BytePrim}
use Rattle.byte_code.specs.declared.prim.BytePrim.TheVariants.{Word, Compare}
use Rattle.byte_code.specs.declared.prim.WordOp.TheVariants as words
use Rattle.byte_code.specs.declared.prim.WordSource.{WordSource}
use Rattle.byte_code.specs.declared.prim.WordSource.TheVariants as source
use Rattle.byte_code.specs.declared.prim.CompareOp.TheVariants as compares
use Rattle.byte_code.specs.declared.prim.FlagKind.TheVariants as kind
use Rattle.byte_code.specs.declared.store.Flag.{Flag}
use Rattle.byte_code.specs.declared.state.Bytes.{Bytes}
use Rattle.byte_code.specs.Store.{cell, word_at, lifted}
use Rattle.avr_mach.specs.declared.insn.AvrInsn.TheVariants as insn
use Rattle.avr_mach.specs.declared.state.AvrState.{AvrState}
use Rattle.target_core.specs.Law.{Layout}
use Rattle.avr_code.specs.Code.{Board, Piece, Plain, Loads, compared, is_nothing, word_stored}
use Rattle.avr_code.specs.Stands.{IsCell, StandsAt}
use Rattle.avr_code.proofs.Moves.{IsFull, chosen, le_self, cell_free, see_cell}
use Rattle.avr_code.proofs.Primitives.{Ready, Goes, less_flag, equal_flag, sign_of, load_size, store_size}
use Rattle.avr_code.proofs.Standing.{alike, has_same, has_word}
use Rattle.avr_code.proofs.Sums.{added_low, added_high}
use Rattle.avr_code.proofs.View.{View, changed}

below_zero : (a b : ℕ) → a < 256 → b < 256 → nat_lt (lifted (0 + b * 256)) (lifted 0) ≡ nat_lt (lifted (a + b * 256)) (lifted 0)
below_zero a b ha hb = by (nat_lt (lifted (0 + b * 256)) (lifted 0)) refl
  where
    by : (t : Bool) → nat_lt (lifted (0 + b * 256)) (lifted 0) ≡ t → nat_lt (lifted (0 + b * 256)) (lifted 0) ≡ nat_lt (lifted (a + b * 256)) (lifted 0)
    by true e = let low = ltb-true (lifted (0 + b * 256)) (lifted 0) e in
        e ∙ sym (lt-ltb (lifted (a + b * 256)) (lifted 0) (omega (arith, low, ha, hb)))
    by false e = let high = ltb-false (lifted (0 + b * 256)) (lifted 0) e in
        e ∙ sym (le-ltb (lifted (a + b * 256)) (lifted 0) (omega (arith, high, ha, hb)))

-- the sign of a high byte that is compared with 0
sign_flag : (a b z w low high : ℕ) → z ≡ b → w ≡ 0 → low ≡ 0 → high ≡ 0 → a < 256 → b < 256 →
    sign_of 0 z 0 w ≡ nat_lt (lifted (a + b * 256)) (lifted (low + high * 256))
sign_flag a b z w low high e f g h ha hb =
    less_flag 0 b 0 0 0 z 0 w refl e refl f (lit< tt) hb (lit< tt) (lit< tt) ∙ below_zero a b ha hb
    ∙ sym (ap₂ (λ x y. nat_lt (lifted (a + b * 256)) (lifted (x + y * 256))) g h)

no_bits : (a b : ℕ) → (bit_or a b == 0) ≡ (a + b * 256 == 0)
no_bits a b = by (cases_eq (a + b * 256) 0)
  where
    by : (a + b * 256 ≡ 0) ⊎ (a + b * 256 ≢ 0) → (bit_or a b == 0) ≡ (a + b * 256 == 0)
    by (inl e) =
        eq-eqb (bit_or a b) 0 (ap₂ bit_or (let x : a ≡ 0 = omega (arith, e) in x) (let y : b ≡ 0 = omega (arith, e) in y))
        ∙ sym (eq-eqb (a + b * 256) 0 e)
    by (inr ne) =
        let l = le_or_l a b in
        let r = le_or_r a b in
        ne_eqb (bit_or a b) 0 (λ q. ne (omega (arith, q, l, r))) ∙ sym (ne_eqb (a + b * 256) 0 ne)

zero_flag : (a b x z low high : ℕ) → x ≡ a → z ≡ b → low ≡ 0 → high ≡ 0 → (bit_or x z == 0) ≡ (a + b * 256 == low + high * 256)
zero_flag a b x z low high e f g h =
    ap₂ (λ x z. bit_or x z == 0) e f ∙ no_bits a b ∙ sym (ap₂ (λ x y. a + b * 256 == x + y * 256) g h)

compared_full : (a : ℕ) (b : WordSource) → IsFull (compared a b)
compared_full a (source.Cells b) = tt
compared_full a (source.Number low high) = tt

pub less_full : (a : ℕ) (b : WordSource) → IsFull (if is_nothing b then Loads 17 (a + 1) ∷ Plain (insn.Cp 17 1) ∷ [] else compared a b)
less_full a b = by (is_nothing b)
  where
    by : (t : Bool) → IsFull (if t then Loads 17 (a + 1) ∷ Plain (insn.Cp 17 1) ∷ [] else compared a b)
    by true = tt
    by false = compared_full a b

pub equal_full : (a : ℕ) (b : WordSource) → IsFull (if is_nothing b then Loads 16 a ∷ Loads 17 (a + 1) ∷ Plain (insn.Or 16 17) ∷ [] else compared a b)
equal_full a b = by (is_nothing b)
  where
    by : (t : Bool) → IsFull (if t then Loads 16 a ∷ Loads 17 (a + 1) ∷ Plain (insn.Or 16 17) ∷ [] else compared a b)
    by true = tt
    by false = compared_full a b

two_on : (n a b p q : ℕ) → n ≡ p → q ≡ p + (a + (b + 0)) → n + a + b ≡ q
two_on n a b p q e f = omega (arith, e, f)

three_on : (n a b c p q : ℕ) → n ≡ p → q ≡ p + (a + (b + (c + 0))) → n + a + b + c ≡ q
three_on n a b c p q e f = omega (arith, e, f)

four_on : (n a b c d p q : ℕ) → n ≡ p → q ≡ p + (a + (b + (c + (d + 0)))) → n + a + b + c + d ≡ q
four_on n a b c d p q e f = omega (arith, e, f)

five_on : (n a b c d p q : ℕ) → n ≡ p → q ≡ p + (a + (b + (1 + (c + (d + 0))))) → n + a + b + 1 + c + d ≡ q
five_on n a b c d p q e f = omega (arith, e, f)

seven_on : (n a b x y p q : ℕ) → n ≡ p → q ≡ p + (a + (b + (1 + (1 + (1 + (x + (y + 0))))))) → n + a + b + 1 + 1 + 1 + x + y ≡ q
seven_on n a b x y p q e f = omega (arith, e, f)

eight_on : (n a b x y p q : ℕ) → n ≡ p → q ≡ p + (a + (b + (1 + (1 + (1 + (1 + (x + (y + 0)))))))) → n + a + b + 1 + 1 + 1 + 1 + x + y ≡ q
eight_on n a b x y p q e f = omega (arith, e, f)

-- the pieces that compare with a number
abbrev short_form : ℕ → ℕ → List Piece
short_form a low = Loads 16 a ∷ Loads 17 (a + 1) ∷ Plain (insn.Cpi 16 low) ∷ Plain (insn.Cpc 17 1) ∷ []

abbrev long_form : ℕ → ℕ → ℕ → List Piece
long_form a low high = Loads 16 a ∷ Loads 17 (a + 1) ∷ Plain (insn.Ldi 18 high) ∷ Plain (insn.Cpi 16 low) ∷ Plain (insn.Cpc 17 18) ∷ []

abbrev any_form : ℕ → ℕ → ℕ → Bool → List Piece
any_form a low high t = Loads 16 a ∷ Loads 17 (a + 1) ∷ (if t then Plain (insn.Cpi 16 low) ∷ Plain (insn.Cpc 17 1) ∷ []
    else Plain (insn.Ldi 18 high) ∷ Plain (insn.Cpi 16 low) ∷ Plain (insn.Cpc 17 18) ∷ [])

abbrev register_form : ℕ → ℕ → List Piece
register_form a b = Loads 16 a ∷ Loads 17 (a + 1) ∷ Plain (insn.Cp 16 b) ∷ Plain (insn.Cpc 17 (b + 1)) ∷ []

abbrev loaded_form : ℕ → ℕ → List Piece
loaded_form a b = Loads 16 a ∷ Loads 17 (a + 1) ∷ Loads 18 b ∷ Loads 19 (b + 1) ∷ Plain (insn.Cp 16 18) ∷ Plain (insn.Cpc 17 19) ∷ []

abbrev cells_form : ℕ → ℕ → Bool → List Piece
cells_form a b t = Loads 16 a ∷ Loads 17 (a + 1) ∷ (if t then Plain (insn.Cp 16 b) ∷ Plain (insn.Cpc 17 (b + 1)) ∷ []
    else Loads 18 b ∷ Loads 19 (b + 1) ∷ Plain (insn.Cp 16 18) ∷ Plain (insn.Cpc 17 19) ∷ [])

-- R16 and R17 have a word
abbrev with_words : View → ℕ → View
with_words v a = record v { work = changed (changed v.work 16 (v.cells a)) 17 (v.cells (a + 1)) }

-- the register behind one that begins a word
next_near : (b : ℕ) → b < 32 → IsCell (b + 1) → b + 1 < 32
next_near b near (inl low) = low.0
next_near b near (inr high) = let far = high.0 in omega (arith, far, near)

six_on : (n a b c d p q : ℕ) → n ≡ p → q ≡ p + (a + (b + (c + (d + (1 + (1 + 0)))))) → n + a + b + c + d + 1 + 1 ≡ q
six_on n a b c d p q e f = omega (arith, e, f)

module _ (board : Board) (lay : Layout) (m : AvrState) (s : Bytes) (st : StandsAt board lay.places m s) where
  abbrev Ready' : BytePrim → Type 0
  Ready' p = Ready board lay m s p

  abbrev Goes' : BytePrim → Type 0
  Goes' p = Goes board lay m s p

  pub less_cells : (a b : ℕ) → Ready' (Compare (compares.Less a (source.Cells b))) → Goes' (Compare (compares.Less a (source.Cells b)))
  less_cells a b ready = by (nat_lt b 32) refl
    where
      p : BytePrim
      p = Compare (compares.Less a (source.Cells b))

      in1 : IsCell a
      in1 = ready.admitted.0.0

      in2 : IsCell (a + 1)
      in2 = ready.admitted.0.1

      other1 : IsCell b
      other1 = ready.admitted.1.0

      other2 : IsCell (b + 1)
      other2 = ready.admitted.1.1

      flag : Flag
      flag = record { kind = kind.Less; value = nat_lt (lifted (word_at s.store a)) (lifted (word_at s.store b)) }

      by : (t : Bool) → nat_lt b 32 ≡ t → Goes' p
      by true e =
          let is = ap (cells_form a b) e in
          let near = ltb-true b 32 e in
          chosen board lay m s p (register_form a b) tt ready is is refl refl
          ((lit< tt, in1), ((lit< tt, in2), ((lit< tt, near), ((lit< tt, next_near b near other2), tt)))) st
          (λ next v h. (
            le_self _,
            record {
              has = has_same board lay.places v _ s (alike v _ refl refl refl (λ port. refl) refl refl refl refl) h.has (Some flag) (suc s.place) refl
                  (less_flag (cell s.store a) (cell s.store (a + 1)) (cell s.store b) (cell s.store (b + 1)) _ _ _ _ (h.has.holds.cells a in1)
                  (h.has.holds.cells (a + 1) in2) (see_cell (with_words v a) b (cell_free b other1) ∙ h.has.holds.cells b other1)
                  (see_cell (with_words v a) (b + 1) (cell_free (b + 1) other2) ∙ h.has.holds.cells (b + 1) other2) (h.has.holds.bytes a)
                  (h.has.holds.bytes (a + 1)) (h.has.holds.bytes b) (h.has.holds.bytes (b + 1)));
              at = four_on v.core.place (load_size 16 a) (load_size 17 (a + 1)) 1 1 _ _ h.at next;
            },
          ))
      by false e =
          let is = ap (cells_form a b) e in
          chosen board lay m s p (loaded_form a b) tt ready is is refl refl
          ((lit< tt, in1), ((lit< tt, in2), ((lit< tt, other1), ((lit< tt, other2), ((lit< tt, lit< tt), ((lit< tt, lit< tt), tt)))))) st
          (λ next v h. (
            le_self _,
            record {
              has = has_same board lay.places v _ s (alike v _ refl refl refl (λ port. refl) refl refl refl refl) h.has (Some flag) (suc s.place) refl
                  (less_flag (cell s.store a) (cell s.store (a + 1)) (cell s.store b) (cell s.store (b + 1)) _ _ _ _ (h.has.holds.cells a in1)
                  (h.has.holds.cells (a + 1) in2) (h.has.holds.cells b other1) (h.has.holds.cells (b + 1) other2) (h.has.holds.bytes a)
                  (h.has.holds.bytes (a + 1)) (h.has.holds.bytes b) (h.has.holds.bytes (b + 1)));
              at = six_on v.core.place (load_size 16 a) (load_size 17 (a + 1)) (load_size 18 b) (load_size 19 (b + 1)) _ _ h.at next;
            },
          ))

  pub equal_cells : (a b : ℕ) → Ready' (Compare (compares.Equal a (source.Cells b))) → Goes' (Compare (compares.Equal a (source.Cells b)))
  equal_cells a b ready = by (nat_lt b 32) refl
    where
      p : BytePrim
      p = Compare (compares.Equal a (source.Cells b))

      in1 : IsCell a
      in1 = ready.admitted.0.0

      in2 : IsCell (a + 1)
      in2 = ready.admitted.0.1

      other1 : IsCell b
      other1 = ready.admitted.1.0

      other2 : IsCell (b + 1)
      other2 = ready.admitted.1.1

      flag : Flag
      flag = record { kind = kind.Equal; value = word_at s.store a == word_at s.store b }

      by : (t : Bool) → nat_lt b 32 ≡ t → Goes' p
      by true e =
          let is = ap (cells_form a b) e in
          let near = ltb-true b 32 e in
          chosen board lay m s p (register_form a b) tt ready is is refl refl
          ((lit< tt, in1), ((lit< tt, in2), ((lit< tt, near), ((lit< tt, next_near b near other2), tt)))) st
          (λ next v h. (
            le_self _,
            record {
              has = has_same board lay.places v _ s (alike v _ refl refl refl (λ port. refl) refl refl refl refl) h.has (Some flag) (suc s.place) refl
                  (equal_flag (cell s.store a) (cell s.store (a + 1)) (cell s.store b) (cell s.store (b + 1)) _ _ _ _ (h.has.holds.cells a in1)
                  (h.has.holds.cells (a + 1) in2) (see_cell (with_words v a) b (cell_free b other1) ∙ h.has.holds.cells b other1)
                  (see_cell (with_words v a) (b + 1) (cell_free (b + 1) other2) ∙ h.has.holds.cells (b + 1) other2) (h.has.holds.bytes a)
                  (h.has.holds.bytes (a + 1)) (h.has.holds.bytes b) (h.has.holds.bytes (b + 1)));
              at = four_on v.core.place (load_size 16 a) (load_size 17 (a + 1)) 1 1 _ _ h.at next;
            },
          ))
      by false e =
          let is = ap (cells_form a b) e in
          chosen board lay m s p (loaded_form a b) tt ready is is refl refl
          ((lit< tt, in1), ((lit< tt, in2), ((lit< tt, other1), ((lit< tt, other2), ((lit< tt, lit< tt), ((lit< tt, lit< tt), tt)))))) st
          (λ next v h. (
            le_self _,
            record {
              has = has_same board lay.places v _ s (alike v _ refl refl refl (λ port. refl) refl refl refl refl) h.has (Some flag) (suc s.place) refl
                  (equal_flag (cell s.store a) (cell s.store (a + 1)) (cell s.store b) (cell s.store (b + 1)) _ _ _ _ (h.has.holds.cells a in1)
                  (h.has.holds.cells (a + 1) in2) (h.has.holds.cells b other1) (h.has.holds.cells (b + 1) other2) (h.has.holds.bytes a)
                  (h.has.holds.bytes (a + 1)) (h.has.holds.bytes b) (h.has.holds.bytes (b + 1)));
              at = six_on v.core.place (load_size 16 a) (load_size 17 (a + 1)) (load_size 18 b) (load_size 19 (b + 1)) _ _ h.at next;
            },
          ))

  pub less_number : (a low high : ℕ) → Ready' (Compare (compares.Less a (source.Number low high))) →
      Goes' (Compare (compares.Less a (source.Number low high)))
  less_number a low high ready = by (low == 0 && high == 0) (high == 0) refl refl
    where
      p : BytePrim
      p = Compare (compares.Less a (source.Number low high))

      in1 : IsCell a
      in1 = ready.admitted.0.0

      in2 : IsCell (a + 1)
      in2 = ready.admitted.0.1

      sign : List Piece
      sign = Loads 17 (a + 1) ∷ Plain (insn.Cp 17 1) ∷ []

      form : Bool → Bool → List Piece
      form b c = if b then sign else any_form a low high c

      flag : Flag
      flag = record { kind = kind.Less; value = nat_lt (lifted (word_at s.store a)) (lifted (low + high * 256)) }

      by : (b c : Bool) → (low == 0 && high == 0) ≡ b → (high == 0) ≡ c → Goes' p
      by true c e f =
          let zero = and_parts (low == 0) (high == 0) e in
          let is = ap (λ b. form b (high == 0)) e in
          chosen board lay m s p sign tt ready is is refl refl ((lit< tt, in2), ((lit< tt, lit< tt), tt)) st
          (λ next v h. (
            le_self _,
            record {
              has = has_same board lay.places v _ s (alike v _ refl refl refl (λ port. refl) refl refl refl refl) h.has (Some flag) (suc s.place) refl
                  (sign_flag (cell s.store a) (cell s.store (a + 1)) _ _ low high (h.has.holds.cells (a + 1) in2) (h.has.started ready.begins).zero
                  (eqb-true low 0 zero.0) (eqb-true high 0 zero.1) (h.has.holds.bytes a) (h.has.holds.bytes (a + 1)));
              at = two_on v.core.place (load_size 17 (a + 1)) 1 _ _ h.at next;
            },
          ))
      by false true e f =
          let is = ap₂ form e f in
          chosen board lay m s p (short_form a low) tt ready is is refl refl
          ((lit< tt, in1), ((lit< tt, in2), ((lit≤ tt, lit< tt, ready.admitted.1.0), ((lit< tt, lit< tt), tt)))) st
          (λ next v h. (
            le_self _,
            record {
              has = has_same board lay.places v _ s (alike v _ refl refl refl (λ port. refl) refl refl refl refl) h.has (Some flag) (suc s.place) refl
                  (less_flag (cell s.store a) (cell s.store (a + 1)) low high _ _ _ _ (h.has.holds.cells a in1) (h.has.holds.cells (a + 1) in2) refl
                  ((h.has.started ready.begins).zero ∙ sym (eqb-true high 0 f)) (h.has.holds.bytes a) (h.has.holds.bytes (a + 1)) ready.admitted.1.0
                  ready.admitted.1.1);
              at = four_on v.core.place (load_size 16 a) (load_size 17 (a + 1)) 1 1 _ _ h.at next;
            },
          ))
      by false false e f =
          let is = ap₂ form e f in
          chosen board lay m s p (long_form a low high) tt ready is is refl refl
          ((lit< tt, in1), ((lit< tt, in2), ((lit≤ tt, lit< tt, ready.admitted.1.1), ((lit≤ tt, lit< tt, ready.admitted.1.0), ((lit< tt, lit< tt), tt))))) st
          (λ next v h. (
            le_self _,
            record {
              has = has_same board lay.places v _ s (alike v _ refl refl refl (λ port. refl) refl refl refl refl) h.has (Some flag) (suc s.place) refl
                  (less_flag (cell s.store a) (cell s.store (a + 1)) low high _ _ _ _ (h.has.holds.cells a in1) (h.has.holds.cells (a + 1) in2) refl
                  refl (h.has.holds.bytes a) (h.has.holds.bytes (a + 1)) ready.admitted.1.0 ready.admitted.1.1);
              at = five_on v.core.place (load_size 16 a) (load_size 17 (a + 1)) 1 1 _ _ h.at next;
            },
          ))

  pub equal_number : (a low high : ℕ) → Ready' (Compare (compares.Equal a (source.Number low high))) →
      Goes' (Compare (compares.Equal a (source.Number low high)))
  equal_number a low high ready = by (low == 0 && high == 0) (high == 0) refl refl
    where
      p : BytePrim
      p = Compare (compares.Equal a (source.Number low high))

      in1 : IsCell a
      in1 = ready.admitted.0.0

      in2 : IsCell (a + 1)
      in2 = ready.admitted.0.1

      bits : List Piece
      bits = Loads 16 a ∷ Loads 17 (a + 1) ∷ Plain (insn.Or 16 17) ∷ []

      form : Bool → Bool → List Piece
      form b c = if b then bits else any_form a low high c

      flag : Flag
      flag = record { kind = kind.Equal; value = word_at s.store a == low + high * 256 }

      by : (b c : Bool) → (low == 0 && high == 0) ≡ b → (high == 0) ≡ c → Goes' p
      by true c e f =
          let zero = and_parts (low == 0) (high == 0) e in
          let is = ap (λ b. form b (high == 0)) e in
          chosen board lay m s p bits tt ready is is refl refl ((lit< tt, in1), ((lit< tt, in2), ((lit< tt, lit< tt), tt))) st
          (λ next v h. (
            le_self _,
            record {
              has = has_same board lay.places v _ s (alike v _ refl refl refl (λ port. refl) refl refl refl refl) h.has (Some flag) (suc s.place) refl
                  (zero_flag (cell s.store a) (cell s.store (a + 1)) _ _ low high (h.has.holds.cells a in1) (h.has.holds.cells (a + 1) in2)
                  (eqb-true low 0 zero.0) (eqb-true high 0 zero.1));
              at = three_on v.core.place (load_size 16 a) (load_size 17 (a + 1)) 1 _ _ h.at next;
            },
          ))
      by false true e f =
          let is = ap₂ form e f in
          chosen board lay m s p (short_form a low) tt ready is is refl refl
          ((lit< tt, in1), ((lit< tt, in2), ((lit≤ tt, lit< tt, ready.admitted.1.0), ((lit< tt, lit< tt), tt)))) st
          (λ next v h. (
            le_self _,
            record {
              has = has_same board lay.places v _ s (alike v _ refl refl refl (λ port. refl) refl refl refl refl) h.has (Some flag) (suc s.place) refl
                  (equal_flag (cell s.store a) (cell s.store (a + 1)) low high _ _ _ _ (h.has.holds.cells a in1) (h.has.holds.cells (a + 1) in2) refl
                  ((h.has.started ready.begins).zero ∙ sym (eqb-true high 0 f)) (h.has.holds.bytes a) (h.has.holds.bytes (a + 1)) ready.admitted.1.0
                  ready.admitted.1.1);
              at = four_on v.core.place (load_size 16 a) (load_size 17 (a + 1)) 1 1 _ _ h.at next;
            },
          ))
      by false false e f =
          let is = ap₂ form e f in
          chosen board lay m s p (long_form a low high) tt ready is is refl refl
          ((lit< tt, in1), ((lit< tt, in2), ((lit≤ tt, lit< tt, ready.admitted.1.1), ((lit≤ tt, lit< tt, ready.admitted.1.0), ((lit< tt, lit< tt), tt))))) st
          (λ next v h. (
            le_self _,
            record {
              has = has_same board lay.places v _ s (alike v _ refl refl refl (λ port. refl) refl refl refl refl) h.has (Some flag) (suc s.place) refl
                  (equal_flag (cell s.store a) (cell s.store (a + 1)) low high _ _ _ _ (h.has.holds.cells a in1) (h.has.holds.cells (a + 1) in2) refl
                  refl (h.has.holds.bytes a) (h.has.holds.bytes (a + 1)) ready.admitted.1.0 ready.admitted.1.1);
              at = five_on v.core.place (load_size 16 a) (load_size 17 (a + 1)) 1 1 _ _ h.at next;
            },
          ))

  pub add_number : (to a low high : ℕ) → Ready' (Word (words.Add to a (source.Number low high))) → Goes' (Word (words.Add to a (source.Number low high)))
  add_number to a low high ready = by (high == 0) refl
    where
      p : BytePrim
      p = Word (words.Add to a (source.Number low high))

      short : List Piece
      short = Loads 16 a ∷ Loads 17 (a + 1) ∷ Plain (insn.Ldi 18 low) ∷ Plain (insn.Add 16 18) ∷ Plain (insn.Adc 17 1) ∷ word_stored to

      long : List Piece
      long = Loads 16 a ∷ Loads 17 (a + 1) ∷ Plain (insn.Ldi 18 low) ∷ Plain (insn.Ldi 19 high) ∷ Plain (insn.Add 16 18) ∷ Plain (insn.Adc 17 19)
          ∷ word_stored to

      form : Bool → List Piece
      form b = Loads 16 a ∷ Loads 17 (a + 1) ∷ ((if b then Plain (insn.Ldi 18 low) ∷ Plain (insn.Add 16 18) ∷ Plain (insn.Adc 17 1) ∷ []
          else Plain (insn.Ldi 18 low) ∷ Plain (insn.Ldi 19 high) ∷ Plain (insn.Add 16 18) ∷ Plain (insn.Adc 17 19) ∷ []) ++ word_stored to)

      by : (b : Bool) → (high == 0) ≡ b → Goes' p
      by true e =
          let is = ap form e in
          chosen board lay m s p short tt ready is is refl refl (
            (lit< tt, ready.admitted.1.0),
            (
              (lit< tt, ready.admitted.1.1),
              (
                (lit≤ tt, lit< tt, ready.admitted.2.0),
                ((lit< tt, lit< tt), ((lit< tt, lit< tt), ((lit< tt, ready.admitted.0.0), ((lit< tt, ready.admitted.0.1), tt)))),
              ),
            ),
          ) st
          (λ next v h. (
            le_self _,
            record {
              has = has_word board lay.places v _ s (alike v _ refl refl refl (λ port. refl) refl refl refl refl) h.has to _ _
                  ((word_at s.store a + (low + high * 256)) % 65536) ready.admitted.0.0 ready.admitted.0.1 refl
                  (added_low (cell s.store a) (cell s.store (a + 1)) low high _ _ (h.has.holds.cells a ready.admitted.1.0) refl)
                  (added_high (cell s.store a) (cell s.store (a + 1)) low high _ _ _ _ (h.has.holds.cells a ready.admitted.1.0)
                  (h.has.holds.cells (a + 1) ready.admitted.1.1) refl ((h.has.started ready.begins).zero ∙ sym (eqb-true high 0 e)) (h.has.holds.bytes a)
                  ready.admitted.2.0);
              at = seven_on v.core.place (load_size 16 a) (load_size 17 (a + 1)) (store_size to 16) (store_size (to + 1) 17) _ _ h.at next;
            },
          ))
      by false e =
          let is = ap form e in
          chosen board lay m s p long tt ready is is refl refl (
            (lit< tt, ready.admitted.1.0),
            (
              (lit< tt, ready.admitted.1.1),
              (
                (lit≤ tt, lit< tt, ready.admitted.2.0),
                (
                  (lit≤ tt, lit< tt, ready.admitted.2.1),
                  ((lit< tt, lit< tt), ((lit< tt, lit< tt), ((lit< tt, ready.admitted.0.0), ((lit< tt, ready.admitted.0.1), tt)))),
                ),
              ),
            ),
          ) st
          (λ next v h. (
            le_self _,
            record {
              has = has_word board lay.places v _ s (alike v _ refl refl refl (λ port. refl) refl refl refl refl) h.has to _ _
                  ((word_at s.store a + (low + high * 256)) % 65536) ready.admitted.0.0 ready.admitted.0.1 refl
                  (added_low (cell s.store a) (cell s.store (a + 1)) low high _ _ (h.has.holds.cells a ready.admitted.1.0) refl)
                  (added_high (cell s.store a) (cell s.store (a + 1)) low high _ _ _ _ (h.has.holds.cells a ready.admitted.1.0)
                  (h.has.holds.cells (a + 1) ready.admitted.1.1) refl refl (h.has.holds.bytes a) ready.admitted.2.0);
              at = eight_on v.core.place (load_size 16 a) (load_size 17 (a + 1)) (store_size to 16) (store_size (to + 1) 17) _ _ h.at next;
            },
          ))
