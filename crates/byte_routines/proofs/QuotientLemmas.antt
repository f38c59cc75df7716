-- The routine of quotients.
use Rattle.std.proofs.Common.{◌≡◌, ℕ, zero, suc, ◌+◌, ◌*◌, ◌-◌, ◌/◌, ◌%◌, ◌<◌, ◌≤◌, Bool, true, false, not, List, [], ◌∷◌, ◌++◌, drop, Some, None, refl, sym, ap, ◌∙◌, subst, arith}
use Rattle.std.specs.Prelude.{slice_get, if◌then◌else◌, ◌==◌, nat_le, bit_xor}
use Rattle.std.proofs.lemmas.Bool.Decides.{nat_tests}
use Rattle.chip_tables.specs.Bits.{bit_of}
use Rattle.chip_tables.specs.declared.scratch.Scratch.{Scratch}
use Rattle.byte_code.specs.declared.prim.BytePrim.TheVariants.{Label, JumpWhere, Return, Byte, Word, Compare}
use Rattle.byte_code.specs.declared.prim.ByteOp.TheVariants as bytes
use Rattle.byte_code.specs.declared.prim.CompareOp.TheVariants as compares
use Rattle.byte_code.specs.declared.prim.FlagKind.TheVariants as kind
use Rattle.byte_code.specs.declared.prim.WordOp.TheVariants as words
use Rattle.byte_code.specs.declared.prim.Paced.{Paced}
use Rattle.byte_code.specs.declared.prim.Test.TheVariants as test
use Rattle.byte_code.specs.declared.store.Store.{Store}
use Rattle.byte_code.specs.declared.state.Bytes.{Bytes}
use Rattle.byte_code.specs.Counts.{TestFits}
use Rattle.byte_code.specs.Machine.{label_place, next_with, goes_to, returned}
use Rattle.byte_code.specs.Store.{cell, with_cell, word_at, with_word}
use Rattle.byte_code.specs.Table.{plain, divided, says, same, tested, compare_effect}
use Rattle.byte_code.proofs.Ways.{Way}
use Rattle.byte_routines.proofs.GoLemmas.{up, via, place_of}
use Rattle.byte_routines.proofs.ProductLemmas.{rounds, fits_return, closed_return, store_return, counted_down, loops_on}
use Rattle.byte_routines.proofs.WorkLemmas.{IsApart, word_is, Works, put_left, put_right, put_outcome, put_count, put_sign, put_flag}
use Rattle.byte_routines.proofs.WordSteps.{Divides, divide_step, divide_first, divide_last, high_bit, signs_differ, size_small, size_some}
use Rattle.byte_routines.specs.Routines.{begun, zero_word, divide}
use Rattle.byte_routines.specs.Words.{is_negative, negative, size, differ, quotient}
use Rattle.byte_routines.specs.declared.routines.TheConstants.{DIVIDE, DIVIDE_LOOP, DIVIDE_BY_ZERO}

-- the numbers of a step
abbrev rest_on : ℕ → ℕ → ℕ
rest_on a r = (r * 2 + a / 32768) % 65536

abbrev step_left : ℕ → ℕ → ℕ → ℕ
step_left a b r = if nat_le b (rest_on a r) then a * 2 % 65536 + 1 else a * 2 % 65536

abbrev step_rest : ℕ → ℕ → ℕ → ℕ
step_rest a b r = if nat_le b (rest_on a r) then rest_on a r - b else rest_on a r

-- a step of a quotient, by the compiler's cells and its numbers
abbrev divided_by : Scratch → Store → ℕ → ℕ → ℕ → Store
divided_by s d a b r =
    if nat_le b (rest_on a r) then with_word (with_word d s.outcome (rest_on a r - b)) s.left (a * 2 % 65536 + 1)
    else with_word (with_word d s.outcome (rest_on a r)) s.left (a * 2 % 65536)

divided_is : (s : Scratch) (d : Store) (a b r : ℕ) → d.scratch ≡ s → word_at d s.left ≡ a → word_at d s.right ≡ b → word_at d s.outcome ≡ r →
    divided d ≡ divided_by s d a b r
divided_is s d a b r e f g h =
    ap (λ x. divided_by x d (word_at d x.left) (word_at d x.right) (word_at d x.outcome)) e ∙ ap (λ x. divided_by s d x (word_at d s.right) (word_at d s.outcome)) f
    ∙ ap (λ x. divided_by s d a x (word_at d s.outcome)) g ∙ ap (divided_by s d a b) h

step_works : (s : Scratch) (apart : IsApart s) (d e : Store) (a b r n g : ℕ) → r < 65536 → Works s d e a b r n g →
    Works s d (plain (divided e)) (step_left a b r) b (step_rest a b r) n g
step_works s apart d e a b r n g few w =
    let same = divided_is s e a b r w.scratch (word_is e s.left a w.left) (word_is e s.right b w.right) (word_is e s.outcome r (w.outcome few)) in
    put_flag s apart d (divided e) _ _ _ n g (subst (λ x. Works s d x (step_left a b r) b (step_rest a b r) n g) (sym same) (by (nat_le b (rest_on a r)))) None
  where
    by : (c : Bool) → Works s d (if c then with_word (with_word e s.outcome (rest_on a r - b)) s.left (a * 2 % 65536 + 1)
        else with_word (with_word e s.outcome (rest_on a r)) s.left (a * 2 % 65536))
        (if c then a * 2 % 65536 + 1 else a * 2 % 65536) b (if c then rest_on a r - b else rest_on a r) n g
    by true = put_left s apart d _ a b _ n g (put_outcome s apart d e a b r n g w (rest_on a r - b) (omega arith)) (a * 2 % 65536 + 1) (omega arith)
    by false = put_left s apart d _ a b _ n g (put_outcome s apart d e a b r n g w (rest_on a r) (omega arith)) (a * 2 % 65536) (omega arith)

step_divides : (x by a r m : ℕ) → by ≤ 32768 → Divides x by a r (suc m) → Divides x by (step_left a by r) (step_rest a by r) m
step_divides x by a r m few d =
    let on = divide_step x by a r m few d in
    at (nat_le by (rest_on a r)) refl on.goes on.stays
  where
    at : (c : Bool) → nat_le by (rest_on a r) ≡ c → (by ≤ rest_on a r → Divides x by (a * 2 % 65536 + 1) (rest_on a r - by) m) →
        (rest_on a r < by → Divides x by (a * 2 % 65536) (rest_on a r) m) →
        Divides x by (if c then a * 2 % 65536 + 1 else a * 2 % 65536) (if c then rest_on a r - by else rest_on a r) m
    at true e f g = f (grind (arith, nat_tests, e))
    at false e f g = g (grind (arith, nat_tests, e))

-- a word that takes its negative where a number is below 0
abbrev negated : Store → ℕ → ℕ → Store
negated d at sign = if bit_of (cell d sign) 7 then with_word d at ((65536 - word_at d at) % 65536) else d

negate_left : (s : Scratch) (apart : IsApart s) (d e : Store) (a b r n g c : ℕ) (x : Bool) → Works s d e a b r n g → bit_of (cell e c) 7 ≡ x →
    Works s d (negated e s.left c) (if x then negative a else a) b r n g
negate_left s apart d e a b r n g c x w is =
    subst (λ y. Works s d (if y then with_word e s.left ((65536 - word_at e s.left) % 65536) else e) (if x then negative a else a) b r n g) (sym is) (by x)
  where
    by : (y : Bool) → Works s d (if y then with_word e s.left ((65536 - word_at e s.left) % 65536) else e) (if y then negative a else a) b r n g
    by true = subst (λ k. Works s d (with_word e s.left ((65536 - k) % 65536)) (negative a) b r n g) (sym (word_is e s.left a w.left))
        (put_left s apart d e a b r n g w (negative a) (omega arith))
    by false = w

negate_right : (s : Scratch) (apart : IsApart s) (d e : Store) (a b r n g c : ℕ) (x : Bool) → Works s d e a b r n g → bit_of (cell e c) 7 ≡ x →
    Works s d (negated e s.right c) a (if x then negative b else b) r n g
negate_right s apart d e a b r n g c x w is =
    subst (λ y. Works s d (if y then with_word e s.right ((65536 - word_at e s.right) % 65536) else e) a (if x then negative b else b) r n g) (sym is) (by x)
  where
    by : (y : Bool) → Works s d (if y then with_word e s.right ((65536 - word_at e s.right) % 65536) else e) a (if y then negative b else b) r n g
    by true = subst (λ k. Works s d (with_word e s.right ((65536 - k) % 65536)) a (negative b) r n g) (sym (word_is e s.right b w.right))
        (put_right s apart d e a b r n g w (negative b) (omega arith))
    by false = w

module _ (code : List Paced) (T : Bytes → Type 0) (s : Scratch) (apart : IsApart s) (d : Store) (calls at back : ℕ) (rest : List Paced)
    (ahead : drop at code ≡ divide s calls ++ rest) (loop_is : label_place code DIVIDE_LOOP ≡ up 8 at) (zero_is : label_place code DIVIDE_BY_ZERO ≡ up 13 at) where
  -- the quotient is the left word, behind the call
  pub record Divided (n : ℕ) (e : Bytes) : Type 0 where
    pub place : e.place ≡ back
    pub closed : e.open_call ≡ None
    pub right : ℕ
    pub outcome : ℕ
    pub count : ℕ
    pub sign : ℕ
    pub works : Works s d e.store n right outcome count sign

  at_prim : (k : ℕ) (p : Paced) (e : Bytes) → e.place ≡ up k at → slice_get (divide s calls) k ≡ Some p → slice_get code e.place ≡ Some p
  at_prim k p e is_at h = ap (slice_get code) is_at ∙ place_of code at k (divide s calls) rest p ahead h

  -- the return
  ends : (k a b r n g : ℕ) (e : Bytes) → slice_get (divide s calls) k ≡ Some (begun calls Return) → e.place ≡ up k at → e.open_call ≡ Some back →
      Works s d e.store a b r n g → ((e' : Bytes) → Divided a e' → Way code T e' [] []) → Way code T e (back ∷ []) []
  ends k a b r n g e is is_at opened w next =
      via code T e (begun calls Return) back [] (at_prim k (begun calls Return) e is_at is) refl (fits_return e.open_call back opened, tt) refl
      (ap (λ o. (returned e (plain e.store) o).place) opened)
      (next _ (record {
        place = ap (λ o. (returned e (plain e.store) o).place) opened;
        closed = closed_return e back e.open_call opened;
        right = b;
        outcome = r;
        count = n;
        sign = g;
        works = subst (λ x. Works s d x a b r n g) (sym (store_return e e.open_call)) (put_flag s apart d e.store a b r n g w None);
      }))

  -- at the head of the loop, with m + 1 turns to go
  record AtLoop (x y m : ℕ) (e : Bytes) (a r g : ℕ) : Type 0 where
    place : e.place ≡ up 8 at
    opened : e.open_call ≡ Some back
    works : Works s d e.store a y r (suc m) g
    few : suc m < 256
    low : y ≤ 32768
    is : Divides x y a r (suc m)

  record AtJump (x y m : ℕ) (e : Bytes) (a r g : ℕ) : Type 0 where
    place : e.place ≡ suc (suc (up 8 at))
    opened : e.open_call ≡ Some back
    works : Works s d e.store a y r (suc m) g
    few : suc m < 256
    low : y ≤ 32768
    is : Divides x y a r m

  to_jump : (m x y a r g : ℕ) (e : Bytes) (L : List ℕ) → AtLoop x y m e a r g →
      ((e2 : Bytes) (a2 r2 : ℕ) → AtJump x y m e2 a2 r2 g → Way code T e2 L []) → Way code T e (suc (up 8 at) ∷ suc (suc (up 8 at)) ∷ L) []
  to_jump m x y a r g e L h next =
      let e1 = next_with e (plain e.store) in
      let e2 = next_with e1 (plain (divided e1.store)) in
      via code T e (begun (calls * 16) (Label DIVIDE_LOOP)) (suc (up 8 at)) _ (at_prim 8 (begun (calls * 16) (Label DIVIDE_LOOP)) e h.place refl) refl
      (tt, tt) refl (ap suc h.place)
      (via code T e1 (begun (calls * 16) (Word words.DivideStep)) (suc (suc (up 8 at))) L
      (at_prim 9 (begun (calls * 16) (Word words.DivideStep)) e1 (ap suc h.place) refl) refl (tt, tt) refl (ap (λ x. suc (suc x)) h.place)
      (next e2 (step_left a y r) (step_rest a y r) (record {
        place = ap (λ x. suc (suc x)) h.place;
        opened = h.opened;
        works = step_works s apart d e1.store a y r (suc m) g (let low = h.is.rest in omega (arith, low, h.low)) (put_flag s apart d e.store a y r (suc m) g h.works None);
        few = h.few;
        low = h.low;
        is = step_divides x y a r m h.low h.is;
      })))

  abbrev onward : Bytes → Bool → ℕ
  onward e c = if c then label_place code DIVIDE_LOOP else suc e.place

  abbrev After : ℕ → ℕ → List ℕ → Type 0
  After n g more = (e : Bytes) (a b r : ℕ) → e.place ≡ up 11 at → e.open_call ≡ Some back → Works s d e.store a b r 0 g → a ≡ n → Way code T e more []

  jump_last : (x y a r g : ℕ) (e : Bytes) (more : List ℕ) → AtJump x y zero e a r g → After (x / y) g more → Way code T e (up 11 at ∷ more) []
  jump_last x y a r g e more h after =
      let w = counted_down s apart d e.store a y r zero g h.few h.works in
      let none = loops_on s apart d (tested test.LoopsOn e.store) a y r zero g w in
      let falls : onward e (says test.LoopsOn (tested test.LoopsOn e.store)) ≡ up 11 at = ap (onward e) none ∙ ap suc h.place in
      via code T e (begun (calls * 16) (JumpWhere test.LoopsOn DIVIDE_LOOP)) (up 11 at) more
      (at_prim 10 (begun (calls * 16) (JumpWhere test.LoopsOn DIVIDE_LOOP)) e h.place refl) refl (tt, tt) refl falls
      (after _ a y r falls h.opened w (divide_last x y a r h.is))

  jump_back : (n x y a r g : ℕ) (e : Bytes) (L : List ℕ) → AtJump x y (suc n) e a r g →
      ((e3 : Bytes) → AtLoop x y n e3 a r g → Way code T e3 L []) → Way code T e (up 8 at ∷ L) []
  jump_back n x y a r g e L h next =
      let w = counted_down s apart d e.store a y r (suc n) g h.few h.works in
      let far : (suc n == 0) ≡ false = grind (arith, nat_tests) in
      let some = loops_on s apart d (tested test.LoopsOn e.store) a y r (suc n) g w ∙ ap not far in
      let jumps : onward e (says test.LoopsOn (tested test.LoopsOn e.store)) ≡ up 8 at = ap (onward e) some ∙ loop_is in
      via code T e (begun (calls * 16) (JumpWhere test.LoopsOn DIVIDE_LOOP)) (up 8 at) L
      (at_prim 10 (begun (calls * 16) (JumpWhere test.LoopsOn DIVIDE_LOOP)) e h.place refl) refl (tt, tt) refl jumps
      (next _ (record { place = jumps; opened = h.opened; works = w; few = omega (arith, h.few); low = h.low; is = h.is }))

  turn : (m x y a r g : ℕ) (e : Bytes) (more : List ℕ) → AtLoop x y m e a r g → After (x / y) g more → Way code T e (rounds (up 8 at) m more) []
  turn zero x y a r g e more h after =
      to_jump zero x y a r g e (up 11 at ∷ more) h (λ e2 a2 r2 h2. jump_last x y a2 r2 g e2 more h2 after)
  turn (suc n) x y a r g e more h after =
      to_jump (suc n) x y a r g e (up 8 at ∷ rounds (up 8 at) n more) h
      (λ e2 a2 r2 h2. jump_back n x y a2 r2 g e2 (rounds (up 8 at) n more) h2 (λ e3 h3. turn n x y a2 r2 g e3 more h3 after))

  abbrev front : List ℕ → List ℕ
  front L = suc at ∷ suc (suc at) ∷ up 3 at ∷ up 4 at ∷ up 5 at ∷ up 6 at ∷ up 7 at ∷ L

  -- the places that a call begins behind the label, and the place behind the call
  abbrev pub divide_places : Bool → List ℕ
  divide_places true = front (up 13 at ∷ up 14 at ∷ up 15 at ∷ back ∷ [])
  divide_places false = front (up 8 at ∷ rounds (up 8 at) 15 (up 12 at ∷ back ∷ []))

  -- in front of the jump of a quotient by 0
  record AtTest (a b : ℕ) (e : Bytes) : Type 0 where
    place : e.place ≡ up 7 at
    opened : e.open_call ≡ Some back
    works : Works s d e.store (size a) (size b) 0 16 (bit_xor (a / 256) (b / 256))
    fits : TestFits (test.Flag kind.Equal true) e.store
    said : says (test.Flag kind.Equal true) e.store ≡ (b == 0)

  same_true : (x : Bool) → same x true ≡ x
  same_true true = refl
  same_true false = refl

  to_test : (a b r n g : ℕ) (e : Bytes) (L : List ℕ) → e.place ≡ at → e.open_call ≡ Some back → Works s d e.store a b r n g →
      ((e7 : Bytes) → AtTest a b e7 → Way code T e7 L []) → Way code T e (front L) []
  to_test a b r n g e L is_at opened w next =
      let e1 = next_with e (plain e.store) in
      let w1 = put_flag s apart d e.store a b r n g w None in
      let x = bit_xor (cell e1.store (s.left + 1)) (cell e1.store (s.right + 1)) in
      let x_is : x ≡ bit_xor (a / 256) (b / 256) = ap (λ k. bit_xor k (cell e1.store (s.right + 1))) w1.left.high ∙ ap (bit_xor (a / 256)) w1.right.high in
      let e2 = next_with e1 (plain (with_cell e1.store s.sign x)) in
      let w2 = put_flag s apart d (with_cell e1.store s.sign x) a b r n (bit_xor (a / 256) (b / 256))
      (subst (λ k. Works s d (with_cell e1.store s.sign x) a b r n k) x_is (put_sign s apart d e1.store a b r n g w1 x)) None in
      let g2 = bit_xor (a / 256) (b / 256) in
      let e3 = next_with e2 (plain (negated e2.store s.left (s.left + 1))) in
      let w3 = put_flag s apart d (negated e2.store s.left (s.left + 1)) (size a) b r n g2 (negate_left s apart d e2.store a b r n g2 (s.left + 1) (is_negative a) w2
      (ap (λ k. bit_of k 7) w2.left.high ∙ high_bit a w2.left.small)) None in
      let e4 = next_with e3 (plain (negated e3.store s.right (s.right + 1))) in
      let w4 = put_flag s apart d (negated e3.store s.right (s.right + 1)) (size a) (size b) r n g2 (negate_right s apart d e3.store (size a) b r n g2 (s.right + 1)
      (is_negative b) w3 (ap (λ k. bit_of k 7) w3.right.high ∙ high_bit b w3.right.small)) None in
      let e5 = next_with e4 (plain (with_word e4.store s.outcome 0)) in
      let w5 = put_flag s apart d (with_word e4.store s.outcome 0) (size a) (size b) 0 n g2 (put_outcome s apart d e4.store (size a) (size b) r n g2 w4 0
      (omega arith)) None in
      let e6 = next_with e5 (plain (with_cell e5.store s.count 16)) in
      let w6 = put_flag s apart d (with_cell e5.store s.count 16) (size a) (size b) 0 16 g2 (put_count s apart d e5.store (size a) (size b) 0 n g2 w5 16) None in
      let e7 = next_with e6 (compare_effect (compares.Equal s.right zero_word) e6.store) in
      via code T e (begun calls (Label DIVIDE)) (suc at) _ (at_prim 0 (begun calls (Label DIVIDE)) e is_at refl) refl (tt, tt) refl (ap suc is_at)
      (via code T e1 (begun calls (Byte (bytes.Xor s.sign (s.left + 1) (s.right + 1)))) (suc (suc at)) _
      (at_prim 1 (begun calls (Byte (bytes.Xor s.sign (s.left + 1) (s.right + 1)))) e1 (ap suc is_at) refl) refl (tt, tt) refl (ap (up 2) is_at)
      (via code T e2 (begun calls (Word (words.NegateIf s.left (s.left + 1)))) (up 3 at) _
      (at_prim 2 (begun calls (Word (words.NegateIf s.left (s.left + 1)))) e2 (ap (up 2) is_at) refl) refl (tt, tt) refl (ap (up 3) is_at)
      (via code T e3 (begun calls (Word (words.NegateIf s.right (s.right + 1)))) (up 4 at) _
      (at_prim 3 (begun calls (Word (words.NegateIf s.right (s.right + 1)))) e3 (ap (up 3) is_at) refl) refl (tt, tt) refl (ap (up 4) is_at)
      (via code T e4 (begun calls (Word (words.Move s.outcome zero_word))) (up 5 at) _
      (at_prim 4 (begun calls (Word (words.Move s.outcome zero_word))) e4 (ap (up 4) is_at) refl) refl (tt, tt) refl (ap (up 5) is_at)
      (via code T e5 (begun calls (Byte (bytes.Put s.count 16))) (up 6 at) _
      (at_prim 5 (begun calls (Byte (bytes.Put s.count 16))) e5 (ap (up 5) is_at) refl) refl (tt, tt) refl (ap (up 6) is_at)
      (via code T e6 (begun calls (Compare (compares.Equal s.right zero_word))) (up 7 at) L
      (at_prim 6 (begun calls (Compare (compares.Equal s.right zero_word))) e6 (ap (up 6) is_at) refl) refl (tt, tt) refl (ap (up 7) is_at)
      (next e7 (record {
        place = ap (up 7) is_at;
        opened = opened;
        works = put_flag s apart d e6.store (size a) (size b) 0 16 g2 w6 _;
        fits = refl;
        said = same_true _ ∙ ap (λ k. k == 0) (word_is e6.store s.right (size b) w6.right) ∙ size_some b w.right.small;
      }))))))))

  by_zero : (a b : ℕ) (e : Bytes) → AtTest a b e → (b == 0) ≡ true → ((e' : Bytes) → Divided 0 e' → Way code T e' [] []) →
      Way code T e (up 13 at ∷ up 14 at ∷ up 15 at ∷ back ∷ []) []
  by_zero a b e h none next =
      let jumps : (if says (test.Flag kind.Equal true) e.store then label_place code DIVIDE_BY_ZERO else suc e.place) ≡ up 13 at =
      ap (λ c. if c then label_place code DIVIDE_BY_ZERO else suc e.place) (h.said ∙ none) ∙ zero_is in
      let e1 = goes_to e e.store (if says (test.Flag kind.Equal true) e.store then label_place code DIVIDE_BY_ZERO else suc e.place) in
      let e2 = next_with e1 (plain e1.store) in
      let w2 = put_flag s apart d e.store _ _ _ _ _ h.works None in
      let e3 = next_with e2 (plain (with_word e2.store s.left 0)) in
      let w3 = put_flag s apart d (with_word e2.store s.left 0) 0 _ _ _ _ (put_left s apart d e2.store _ _ _ _ _ w2 0 (omega arith)) None in
      via code T e (begun calls (JumpWhere (test.Flag kind.Equal true) DIVIDE_BY_ZERO)) (up 13 at) _
      (at_prim 7 (begun calls (JumpWhere (test.Flag kind.Equal true) DIVIDE_BY_ZERO)) e h.place refl) refl (tt, h.fits) refl jumps
      (via code T e1 (begun calls (Label DIVIDE_BY_ZERO)) (up 14 at) _ (at_prim 13 (begun calls (Label DIVIDE_BY_ZERO)) e1 jumps refl) refl (tt, tt) refl (ap suc jumps)
      (via code T e2 (begun calls (Word (words.Move s.left zero_word))) (up 15 at) _ (at_prim 14 (begun calls (Word (words.Move s.left zero_word))) e2 (ap suc jumps) refl)
      refl (tt, tt) refl (ap (up 2) jumps)
      (ends 15 0 _ _ _ _ e3 refl (ap (up 2) jumps) h.opened w3 next)))

  by_some : (a b : ℕ) (e : Bytes) → a < 65536 → b < 65536 → AtTest a b e → (b == 0) ≡ false →
      ((e' : Bytes) → Divided (if differ (is_negative a) (is_negative b) then negative (size a / size b) else size a / size b) e' → Way code T e' [] []) →
      Way code T e (up 8 at ∷ rounds (up 8 at) 15 (up 12 at ∷ back ∷ [])) []
  by_some a b e fa fb h some next =
      let falls : (if says (test.Flag kind.Equal true) e.store then label_place code DIVIDE_BY_ZERO else suc e.place) ≡ up 8 at =
      ap (λ c. if c then label_place code DIVIDE_BY_ZERO else suc e.place) (h.said ∙ some) ∙ ap suc h.place in
      let e1 = goes_to e e.store (if says (test.Flag kind.Equal true) e.store then label_place code DIVIDE_BY_ZERO else suc e.place) in
      let size_is : (size b == 0) ≡ false = size_some b fb ∙ some in
      let least : 1 ≤ size b = grind (arith, nat_tests, size_is) in
      let x = differ (is_negative a) (is_negative b) in
      let g = bit_xor (a / 256) (b / 256) in
      let sign_is : bit_of g 7 ≡ x = signs_differ (a / 256) (b / 256) ∙ ap (λ c. differ c (bit_of (b / 256) 7)) (high_bit a fa) ∙ ap (differ (is_negative a)) (high_bit b fb) in
      via code T e (begun calls (JumpWhere (test.Flag kind.Equal true) DIVIDE_BY_ZERO)) (up 8 at) _
      (at_prim 7 (begun calls (JumpWhere (test.Flag kind.Equal true) DIVIDE_BY_ZERO)) e h.place refl) refl (tt, h.fits) refl falls
      (turn 15 (size a) (size b) (size a) 0 g e1 (up 12 at ∷ back ∷ []) (record {
        place = falls;
        opened = h.opened;
        works = h.works;
        few = omega arith;
        low = size_small b fb;
        is = divide_first (size a) (size b) h.works.left.small least;
      })
      (λ e2 q b2 r2 is_at opened w is.
      let e3 = next_with e2 (plain (negated e2.store s.left s.sign)) in
      let w3 = put_flag s apart d (negated e2.store s.left s.sign) _ _ _ _ _
      (negate_left s apart d e2.store q b2 r2 0 g s.sign x w (ap (λ k. bit_of k 7) w.sign ∙ sign_is)) None in
      via code T e2 (begun calls (Word (words.NegateIf s.left s.sign))) (up 12 at) _
      (at_prim 11 (begun calls (Word (words.NegateIf s.left s.sign))) e2 is_at refl) refl (tt, tt) refl (ap suc is_at)
      (ends 12 _ _ _ _ _ e3 refl (ap suc is_at) opened (subst (λ k. Works s d e3.store (if x then negative k else k) b2 r2 0 g) is w3) next)))

  pub divides : (a b r n g : ℕ) (e : Bytes) → e.place ≡ at → e.open_call ≡ Some back → Works s d e.store a b r n g →
      ((e' : Bytes) → Divided (quotient a b) e' → Way code T e' [] []) → Way code T e (divide_places (b == 0)) []
  divides a b r n g e is_at opened w next = by (b == 0) refl next
    where
      by : (c : Bool) → (b == 0) ≡ c →
          ((e' : Bytes) → Divided (if c then 0 else if differ (is_negative a) (is_negative b) then negative (size a / size b) else size a / size b) e' →
          Way code T e' [] []) → Way code T e (divide_places c) []
      by true f k = to_test a b r n g e _ is_at opened w (λ e7 h. by_zero a b e7 h f k)
      by false f k = to_test a b r n g e _ is_at opened w (λ e7 h. by_some a b e7 w.left.small w.right.small h f k)
