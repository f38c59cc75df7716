-- The routine of products.
use Rattle.std.proofs.Common.{◌≡◌, ℕ, zero, suc, ◌+◌, ◌*◌, ◌/◌, ◌%◌, ◌<◌, Bool, false, not, List, [], ◌∷◌, ◌++◌, drop, Option, Some, None, refl, sym, ap, ◌∙◌, subst, arith}
use Rattle.std.specs.Prelude.{IsSome, slice_get, if◌then◌else◌, ◌==◌}
use Rattle.std.proofs.lemmas.Bool.Decides.{nat_tests}
use Rattle.chip_tables.specs.Bits.{bit_of}
use Rattle.chip_tables.specs.declared.scratch.Scratch.{Scratch}
use Rattle.byte_code.specs.declared.prim.BytePrim.TheVariants.{Label, JumpWhere, Return, Byte, Word}
use Rattle.byte_code.specs.declared.prim.ByteOp.TheVariants as bytes
use Rattle.byte_code.specs.declared.prim.WordOp.TheVariants as words
use Rattle.byte_code.specs.declared.prim.Paced.{Paced}
use Rattle.byte_code.specs.declared.prim.Test.TheVariants as test
use Rattle.byte_code.specs.declared.store.Store.{Store}
use Rattle.byte_code.specs.declared.state.Bytes.{Bytes}
use Rattle.byte_code.specs.Counts.{CallFits}
use Rattle.byte_code.specs.declared.prim.Shape.TheVariants.{Returns}
use Rattle.byte_code.specs.Machine.{label_place, next_with, returned}
use Rattle.byte_code.specs.Store.{cell, with_cell, word_at, with_word}
use Rattle.byte_code.specs.Table.{plain, if_set, multiplied, says, tested}
use Rattle.byte_code.proofs.Ways.{Way}
use Rattle.byte_routines.proofs.GoLemmas.{up, via, place_of}
use Rattle.byte_routines.proofs.WorkLemmas.{IsApart, word_is, Works, put_left, put_right, put_outcome, put_count, put_flag}
use Rattle.byte_routines.proofs.WordSteps.{doubled, half_below, product_step}
use Rattle.byte_routines.specs.Routines.{begun, zero_word, multiply}
use Rattle.byte_routines.specs.Words.{product}
use Rattle.byte_routines.specs.declared.routines.TheConstants.{MULTIPLY, MULTIPLY_LOOP}

-- a step of a product, by the compiler's cells
abbrev multiplied_by : Scratch → Store → Store
multiplied_by s d =
    let a = word_at d s.left in
    let low = cell d s.right in
    let high = cell d (s.right + 1) in
    let r = ((word_at d s.outcome + if_set (bit_of low 0) a) % 65536 + if_set (bit_of high 0) (a * 256 % 65536)) % 65536 in
    with_word (with_word (with_word d s.outcome r) s.right (low / 2 + high / 2 * 256)) s.left (a * 2 % 65536)

-- and by its numbers
abbrev step_outcome : ℕ → ℕ → ℕ → ℕ → ℕ
step_outcome a low high r = ((r + if_set (bit_of low 0) a) % 65536 + if_set (bit_of high 0) (a * 256 % 65536)) % 65536

multiplied_is : (s : Scratch) (d : Store) (a b r : ℕ) → d.scratch ≡ s → word_at d s.left ≡ a → word_at d s.outcome ≡ r → cell d s.right ≡ b % 256 →
    cell d (s.right + 1) ≡ b / 256 →
    multiplied d ≡ with_word (with_word (with_word d s.outcome (step_outcome a (b % 256) (b / 256) r)) s.right (b % 256 / 2 + b / 256 / 2 * 256)) s.left (a * 2 % 65536)
multiplied_is s d a b r e f g h k =
    ap (λ x. multiplied_by x d) e
    ∙ ap (λ x. with_word (with_word (with_word d s.outcome (step_outcome x (cell d s.right) (cell d (s.right + 1)) (word_at d s.outcome))) s.right
    (cell d s.right / 2 + cell d (s.right + 1) / 2 * 256)) s.left (x * 2 % 65536)) f
    ∙ ap (λ x. with_word (with_word (with_word d s.outcome (step_outcome a (cell d s.right) (cell d (s.right + 1)) x)) s.right
    (cell d s.right / 2 + cell d (s.right + 1) / 2 * 256)) s.left (a * 2 % 65536)) g
    ∙ ap (λ x. with_word (with_word (with_word d s.outcome (step_outcome a x (cell d (s.right + 1)) r)) s.right
    (x / 2 + cell d (s.right + 1) / 2 * 256)) s.left (a * 2 % 65536)) h
    ∙ ap (λ x. with_word (with_word (with_word d s.outcome (step_outcome a (b % 256) x r)) s.right
    (b % 256 / 2 + x / 2 * 256)) s.left (a * 2 % 65536)) k

step_works : (s : Scratch) (apart : IsApart s) (d e : Store) (a b r n g : ℕ) → r < 65536 → Works s d e a b r n g →
    Works s d (plain (multiplied e)) (a * 2 % 65536) (b % 256 / 2 + b / 256 / 2 * 256) (step_outcome a (b % 256) (b / 256) r) n g
step_works s apart d e a b r n g few w =
    let small : b % 256 / 2 + b / 256 / 2 * 256 < 65536 = omega (arith, w.right.small) in
    let one = put_outcome s apart d e a b r n g w (step_outcome a (b % 256) (b / 256) r) (omega arith) in
    let two = put_right s apart d _ a b _ n g one (b % 256 / 2 + b / 256 / 2 * 256) small in
    let three = put_left s apart d _ a _ _ n g two (a * 2 % 65536) (omega arith) in
    let same = multiplied_is s e a b r w.scratch (word_is e s.left a w.left) (word_is e s.outcome r (w.outcome few)) w.right.low w.right.high in
    put_flag s apart d (multiplied e) _ _ _ n g (subst (λ x. Works s d x (a * 2 % 65536) (b % 256 / 2 + b / 256 / 2 * 256)
    (step_outcome a (b % 256) (b / 256) r) n g) (sym same) three) None

-- a turn of the loop, from its label to the jump
abbrev pub rounds : ℕ → ℕ → List ℕ → List ℕ
rounds at zero more = suc at ∷ suc (suc at) ∷ suc (suc (suc at)) ∷ more
rounds at (suc m) more = suc at ∷ suc (suc at) ∷ at ∷ rounds at m more

pub fits_return : (o : Option ℕ) (back : ℕ) → o ≡ Some back → CallFits Returns o
fits_return o back e = subst (λ x. IsSome x) (sym e) refl

pub closed_return : (e : Bytes) (back : ℕ) (o : Option ℕ) → o ≡ Some back → (returned e (plain e.store) o).open_call ≡ None
closed_return e back None f = absurd (cc)
closed_return e back (Some x) f = refl

pub store_return : (e : Bytes) (o : Option ℕ) → (returned e (plain e.store) o).store ≡ plain e.store
store_return e None = refl
store_return e (Some x) = refl

-- the count goes down
pub counted_down : (s : Scratch) (apart : IsApart s) (d e : Store) (a b r m g : ℕ) → suc m < 256 → Works s d e a b r (suc m) g →
    Works s d (tested test.LoopsOn e) a b r m g
counted_down s apart d e a b r m g few w =
    let less : (cell e s.count + 255) % 256 ≡ m = ap (λ x. (x + 255) % 256) w.count ∙ omega (arith, few) in
    let put = put_count s apart d e a b r (suc m) g w ((cell e s.count + 255) % 256) in
    let same : with_cell e e.scratch.count ((cell e e.scratch.count + 255) % 256) ≡ with_cell e s.count ((cell e s.count + 255) % 256) =
    ap (λ x. with_cell e x.count ((cell e x.count + 255) % 256)) w.scratch in
    put_flag s apart d (with_cell e e.scratch.count ((cell e e.scratch.count + 255) % 256)) a b r m g
    (subst (λ x. Works s d x a b r m g) (sym same) (subst (λ x. Works s d (with_cell e s.count ((cell e s.count + 255) % 256)) a b r x g) less put)) None

pub loops_on : (s : Scratch) (apart : IsApart s) (d e : Store) (a b r m g : ℕ) → Works s d e a b r m g → says test.LoopsOn e ≡ not (m == 0)
loops_on s apart d e a b r m g w = ap (λ x. not (cell e x.count == 0)) w.scratch ∙ ap (λ x. not (x == 0)) w.count

module _ (code : List Paced) (T : Bytes → Type 0) (s : Scratch) (apart : IsApart s) (d : Store) (calls at back : ℕ) (rest : List Paced)
    (ahead : drop at code ≡ multiply s calls ++ rest) (loop_is : label_place code MULTIPLY_LOOP ≡ up 3 at) where
  -- the product is the outcome, behind the call
  pub record Multiplied (n : ℕ) (e : Bytes) : Type 0 where
    pub place : e.place ≡ back
    pub closed : e.open_call ≡ None
    pub a : ℕ
    pub b : ℕ
    pub count : ℕ
    pub sign : ℕ
    pub works : Works s d e.store a b n count sign

  -- at the head of the loop, with m + 1 turns to go
  record AtLoop (p m : ℕ) (e : Bytes) (a b r g : ℕ) : Type 0 where
    place : e.place ≡ up 3 at
    opened : e.open_call ≡ Some back
    works : Works s d e.store a b r (suc m) g
    few : suc m < 256
    small : r < 65536
    low : b % 256 < doubled (suc m)
    high : b / 256 < doubled (suc m)
    is : (r + a * b) % 65536 ≡ p

  at_end : (p a b r : ℕ) → b % 256 < 1 → b / 256 < 1 → r < 65536 → (r + a * b) % 65536 ≡ p → r ≡ p
  at_end p a b r low high small is =
      let none : b ≡ 0 = omega (arith, low, high) in
      let zero_is : a * b ≡ 0 = ap (λ x. a * x) none ∙ omega arith in
      omega (arith, zero_is, small, is)

  ends : (p a b r n g : ℕ) (e : Bytes) → e.place ≡ up 6 at → e.open_call ≡ Some back → Works s d e.store a b r n g → r ≡ p →
      ((e' : Bytes) → Multiplied p e' → Way code T e' [] []) → Way code T e (back ∷ []) []
  ends p a b r n g e is_at opened w is next =
      via code T e (begun calls Return) back []
      (ap (slice_get code) is_at ∙ place_of code at 6 (multiply s calls) rest (begun calls Return) ahead refl) refl (fits_return e.open_call back opened, tt) refl
      (ap (λ o. (returned e (plain e.store) o).place) opened)
      (next _ (record {
        place = ap (λ o. (returned e (plain e.store) o).place) opened;
        closed = closed_return e back e.open_call opened;
        a = a;
        b = b;
        count = n;
        sign = g;
        works = subst (λ x. Works s d x a b p n g) (sym (store_return e e.open_call)) (subst (λ x. Works s d (plain e.store) a b x n g) is
            (put_flag s apart d e.store a b r n g w None));
      }))

  abbrev After : ℕ → List ℕ → Type 0
  After p more = (e : Bytes) (a b r g : ℕ) → e.place ≡ up 6 at → e.open_call ≡ Some back → Works s d e.store a b r 0 g → r ≡ p → Way code T e more []

  at_word : (k : ℕ) (p : Paced) (e : Bytes) → e.place ≡ up k at → slice_get (multiply s calls) k ≡ Some p → slice_get code e.place ≡ Some p
  at_word k p e is_at h = ap (slice_get code) is_at ∙ place_of code at k (multiply s calls) rest p ahead h

  -- at the jump of the loop, with m turns to go behind it
  record AtJump (p m : ℕ) (e : Bytes) (a b r g : ℕ) : Type 0 where
    place : e.place ≡ suc (suc (up 3 at))
    opened : e.open_call ≡ Some back
    works : Works s d e.store a b r (suc m) g
    few : suc m < 256
    small : r < 65536
    low : b % 256 < doubled m
    high : b / 256 < doubled m
    is : (r + a * b) % 65536 ≡ p

  to_jump : (m p a b r g : ℕ) (e : Bytes) (L : List ℕ) → AtLoop p m e a b r g →
      ((e2 : Bytes) (a2 b2 r2 : ℕ) → AtJump p m e2 a2 b2 r2 g → Way code T e2 L []) → Way code T e (suc (up 3 at) ∷ suc (suc (up 3 at)) ∷ L) []
  to_jump m p a b r g e L h next =
      let e1 = next_with e (plain e.store) in
      let e2 = next_with e1 (plain (multiplied e1.store)) in
      let b2 = b % 256 / 2 + b / 256 / 2 * 256 in
      let low_half : b2 % 256 ≡ b % 256 / 2 = omega arith in
      let high_half : b2 / 256 ≡ b / 256 / 2 = omega arith in
      let same : b % 256 + b / 256 * 256 ≡ b = omega arith in
      via code T e (begun (calls * 8) (Label MULTIPLY_LOOP)) (suc (up 3 at)) _ (at_word 3 (begun (calls * 8) (Label MULTIPLY_LOOP)) e h.place refl) refl
      (tt, tt) refl (ap suc h.place)
      (via code T e1 (begun (calls * 8) (Word words.MultiplyStep)) (suc (suc (up 3 at))) L
      (at_word 4 (begun (calls * 8) (Word words.MultiplyStep)) e1 (ap suc h.place) refl) refl (tt, tt) refl (ap (λ x. suc (suc x)) h.place)
      (next e2 (a * 2 % 65536) b2 (step_outcome a (b % 256) (b / 256) r) (record {
        place = ap (λ x. suc (suc x)) h.place;
        opened = h.opened;
        works = step_works s apart d e1.store a b r (suc m) g h.small (put_flag s apart d e.store a b r (suc m) g h.works None);
        few = h.few;
        small = omega arith;
        low = subst (λ x. x < doubled m) (sym low_half) (half_below (b % 256) m h.low);
        high = subst (λ x. x < doubled m) (sym high_half) (half_below (b / 256) m h.high);
        is = product_step a (b % 256) (b / 256) r ∙ ap (λ x. (r + a * x) % 65536) same ∙ h.is;
      })))

  abbrev onward : Bytes → Bool → ℕ
  onward e c = if c then label_place code MULTIPLY_LOOP else suc e.place

  jump_said : (m a b r g : ℕ) (e : Bytes) → suc m < 256 → Works s d e.store a b r (suc m) g → says test.LoopsOn (tested test.LoopsOn e.store) ≡ not (m == 0)
  jump_said m a b r g e few w = loops_on s apart d (tested test.LoopsOn e.store) a b r m g (counted_down s apart d e.store a b r m g few w)

  jump_last : (p a b r g : ℕ) (e : Bytes) (more : List ℕ) → AtJump p zero e a b r g → After p more → Way code T e (suc (suc (suc (up 3 at))) ∷ more) []
  jump_last p a b r g e more h after =
      let w = counted_down s apart d e.store a b r zero g h.few h.works in
      let none = jump_said zero a b r g e h.few h.works in
      let falls : onward e (says test.LoopsOn (tested test.LoopsOn e.store)) ≡ suc (suc (suc (up 3 at))) = ap (onward e) none ∙ ap suc h.place in
      via code T e (begun (calls * 8) (JumpWhere test.LoopsOn MULTIPLY_LOOP)) (suc (suc (suc (up 3 at)))) more
      (at_word 5 (begun (calls * 8) (JumpWhere test.LoopsOn MULTIPLY_LOOP)) e h.place refl) refl (tt, tt) refl falls
      (after _ a b r g falls h.opened w (at_end p a b r h.low h.high h.small h.is))

  jump_back : (n p a b r g : ℕ) (e : Bytes) (L : List ℕ) → AtJump p (suc n) e a b r g →
      ((e3 : Bytes) → AtLoop p n e3 a b r g → Way code T e3 L []) → Way code T e (up 3 at ∷ L) []
  jump_back n p a b r g e L h next =
      let w = counted_down s apart d e.store a b r (suc n) g h.few h.works in
      let far : (suc n == 0) ≡ false = grind (arith, nat_tests) in
      let some = jump_said (suc n) a b r g e h.few h.works ∙ ap not far in
      let jumps : onward e (says test.LoopsOn (tested test.LoopsOn e.store)) ≡ up 3 at = ap (onward e) some ∙ loop_is in
      via code T e (begun (calls * 8) (JumpWhere test.LoopsOn MULTIPLY_LOOP)) (up 3 at) L
      (at_word 5 (begun (calls * 8) (JumpWhere test.LoopsOn MULTIPLY_LOOP)) e h.place refl) refl (tt, tt) refl jumps
      (next _ (record {
        place = jumps;
        opened = h.opened;
        works = w;
        few = omega (arith, h.few);
        small = h.small;
        low = h.low;
        high = h.high;
        is = h.is;
      }))

  turn : (m p a b r g : ℕ) (e : Bytes) (more : List ℕ) → AtLoop p m e a b r g → After p more → Way code T e (rounds (up 3 at) m more) []
  turn zero p a b r g e more h after =
      to_jump zero p a b r g e (suc (suc (suc (up 3 at))) ∷ more) h (λ e2 a2 b2 r2 h2. jump_last p a2 b2 r2 g e2 more h2 after)
  turn (suc n) p a b r g e more h after =
      to_jump (suc n) p a b r g e (up 3 at ∷ rounds (up 3 at) n more) h
      (λ e2 a2 b2 r2 h2. jump_back n p a2 b2 r2 g e2 (rounds (up 3 at) n more) h2 (λ e3 h3. turn n p a2 b2 r2 g e3 more h3 after))

  -- the places that a call begins behind the label, and the place behind the call
  abbrev pub multiply_places : List ℕ
  multiply_places = suc at ∷ suc (suc at) ∷ up 3 at ∷ rounds (up 3 at) 7 (back ∷ [])

  pub multiplies : (a b r n g : ℕ) (e : Bytes) → e.place ≡ at → e.open_call ≡ Some back → Works s d e.store a b r n g →
      ((e' : Bytes) → Multiplied (product a b) e' → Way code T e' [] []) → Way code T e multiply_places []
  multiplies a b r n g e is_at opened w next =
      let e1 = next_with e (plain e.store) in
      let e2 = next_with e1 (plain (with_word e1.store s.outcome 0)) in
      let e3 = next_with e2 (plain (with_cell e2.store s.count 8)) in
      let w1 = put_flag s apart d e.store a b r n g w None in
      let w2 = put_flag s apart d (with_word e1.store s.outcome 0) a b 0 n g (put_outcome s apart d e1.store a b r n g w1 0 (omega arith)) None in
      let w3 = put_flag s apart d (with_cell e2.store s.count 8) a b 0 8 g (put_count s apart d e2.store a b 0 n g w2 8) None in
      let is : (0 + a * b) % 65536 ≡ a * b % 65536 = omega arith in
      via code T e (begun calls (Label MULTIPLY)) (suc at) _ (at_word 0 (begun calls (Label MULTIPLY)) e is_at refl) refl (tt, tt) refl (ap suc is_at)
      (via code T e1 (begun calls (Word (words.Move s.outcome zero_word))) (suc (suc at)) _
      (at_word 1 (begun calls (Word (words.Move s.outcome zero_word))) e1 (ap suc is_at) refl) refl (tt, tt) refl (ap (λ x. suc (suc x)) is_at)
      (via code T e2 (begun calls (Byte (bytes.Put s.count 8))) (up 3 at) _
      (at_word 2 (begun calls (Byte (bytes.Put s.count 8))) e2 (ap (λ x. suc (suc x)) is_at) refl) refl (tt, tt) refl (ap (λ x. suc (suc (suc x))) is_at)
      (turn 7 (a * b % 65536) a b 0 g e3 (back ∷ []) (record {
        place = ap (λ x. suc (suc (suc x))) is_at;
        opened = opened;
        works = w3;
        few = omega arith;
        small = omega arith;
        low = omega arith;
        high = omega (arith, w.right.small);
        is = is;
      })
      (λ e' a' b' r' g' is_at' opened' w' is'. ends (a * b % 65536) a' b' r' 0 g' e' is_at' opened' w' is' next))))
