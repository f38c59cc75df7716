-- Negations, and the steps of products and quotients.
use Rattle.std.proofs.Common.{◌⊎◌, inr, ◌≡◌, ◌≢◌, ⊎_elim, eq-eqb, ℕ, suc, ◌+◌, ◌-◌, ◌*◌, ◌/◌, ◌%◌, ◌<◌, ◌≤◌, inl, Bool, true, false, List, [], ◌∷◌, None, refl, sym, ap, ◌∙◌, subst, arith, lit<, lit≤}
use Rattle.std.proofs.lemmas.Bool.{cases_eq, ne_eqb, le-leb, lt-leb, leb-true, ltb-true, ltb-false}
use Rattle.std.specs.Prelude.{◌==◌, ◌&&◌, not, nat_le, nat_lt, if◌then◌else◌, slice_index}
use Rattle.chip_tables.specs.Bits.{bit_of, as_bit}
use Rattle.chip_tables.specs.Outside.{no_reading}
use Rattle.chip_tables.specs.declared.scratch.Scratch.{Scratch}
use Rattle.runs.specs.Chip.{steps_over}
use Rattle.byte_code.specs.declared.prim.BytePrim.{BytePrim}
use Rattle.byte_code.specs.declared.prim.BytePrim.TheVariants.{Word}
use Rattle.byte_code.specs.declared.prim.WordOp.TheVariants as words
use Rattle.byte_code.specs.declared.store.Store.{Store}
use Rattle.byte_code.specs.declared.state.Bytes.{Bytes}
use Rattle.byte_code.specs.Machine.{act}
use Rattle.byte_code.specs.Store.{cell, word_at, with_word}
use Rattle.byte_code.specs.Table.{plain, if_set}
use Rattle.avr_mach.specs.declared.insn.AvrInsn.TheVariants as insn
use Rattle.avr_mach.specs.declared.state.AvrState.{AvrState}
use Rattle.avr_mach.specs.Arithmetic.{difference}
use Rattle.avr_mach.specs.Step.{avr_step}
use Rattle.avr_mach.specs.Words.{size_of}
use Rattle.avr_devices.specs.Part.{mega16}
use Rattle.target_core.specs.Law.{Moves, IsReady, Layout}
use Rattle.avr_code.specs.Code.{Board, Piece, Plain, Loads, Stores, cycle_count}
use Rattle.avr_code.specs.Stands.{IsCell, StandsAt}
use Rattle.avr_code.specs.Target.{avr_target}
use Rattle.avr_code.proofs.Moves.{chosen}
use Rattle.avr_code.proofs.Primitives.{coded, is_false, is_true, elsewhere, load_size, store_size}
use Rattle.avr_code.proofs.Standing.{Has, Alike, alike, alike_cells, has_kept, has_word, has_word_by, ViewStands}
use Rattle.avr_code.proofs.Sums.{carry_is, borrow_is}
use Rattle.avr_code.proofs.View.{View, changed}

pub negated_low : (a b x z : ℕ) → x ≡ a → z ≡ 0 → a < 256 → b < 256 → (255 - x + z + 1) % 256 ≡ (65536 - (a + b * 256)) % 65536 % 256
negated_low a b x z e f ha hb = omega (arith, e, f, ha, hb)

pub negated_high : (a b x y z : ℕ) → x ≡ a → y ≡ b → z ≡ 0 → a < 256 → b < 256 →
    (255 - y + z + as_bit (nat_lt 255 (255 - x + z + 1))) % 256 ≡ (65536 - (a + b * 256)) % 65536 / 256 % 256
negated_high a b x y z e f g ha hb = high (as_bit (nat_lt 255 (255 - x + z + 1))) (carry_is (255 - x + z + 1) (omega (arith, e, g, ha)))
  where
    high : (k : ℕ) → k ≡ (255 - x + z + 1) / 256 → (255 - y + z + k) % 256 ≡ (65536 - (a + b * 256)) % 65536 / 256 % 256
    high k q = omega (arith, q, e, f, g, ha, hb)

pub written_back : (f : ℕ → ℕ) (a b : ℕ) → changed f a (f a) b ≡ f b
written_back f a b = ⊎_elim (λ (same : b ≡ a). ap (λ t. if t then f a else f b) (eq-eqb b a same) ∙ ap f (sym same))
    (λ (other : b ≢ a). ap (λ t. if t then f a else f b) (ne_eqb b a other)) (cases_eq b a)

pub word_back : (f : ℕ → ℕ) (a b : ℕ) → changed (changed f a (f a)) (a + 1) (f (a + 1)) b ≡ f b
word_back f a b = ap (λ y. if b == (a + 1) then f (a + 1) else y) (written_back f a b) ∙ written_back f (a + 1) b

-- the opposite of a word, where R1 is z
abbrev opposed : (ℕ → ℕ) → ℕ → ℕ → ℕ → ℕ
opposed f a z =
    changed (changed f a ((255 - f a + z + 1) % 256)) (a + 1) ((255 - f (a + 1) + z + as_bit (nat_lt 255 (255 - f a + z + 1))) % 256)

negated_on : (n a b c x y p q : ℕ) → n ≡ p → q ≡ p + (a + (b + (c + (1 + (1 + (1 + (1 + (1 + (1 + (x + (y + 0))))))))))) →
    n + a + b + c + 1 + 1 + 1 + 1 + 1 + 1 + x + y ≡ q
negated_on n a b c x y p q e f = omega (arith, e, f)

left_on : (n a b c x y p q : ℕ) → n ≡ p → q ≡ p + (a + (b + (c + (1 + (1 + (1 + (1 + (1 + (1 + (x + (y + 0))))))))))) →
    n + a + b + c + 1 + 1 + 4 + x + y ≡ q
left_on n a b c x y p q e f = omega (arith, e, f)

left_inside : (n a b c x y p q : ℕ) → n ≡ p → q ≡ p + (a + (b + (c + (1 + (1 + (1 + (1 + (1 + (1 + (x + (y + 0))))))))))) → q ≤ 8192 → 1 ≤ x →
    n + a + b + c + 1 + 1 + 4 < 8192
left_inside n a b c x y p q e f g one = omega (arith, e, f, g, one)

negated_cost : (a b c x y : ℕ) → a + (b + (c + (2 + (1 + (1 + (1 + (1 + (x + (y + 0))))))))) ≤ a +
    (b + (c + (1 + (1 + (1 + (1 + (1 + (1 + (x + (y + 0))))))))))
negated_cost a b c x y = omega arith

left_cost : (a b c x y : ℕ) → a + (b + (c + (1 + (2 + (x + (y + 0)))))) ≤ a + (b + (c + (1 + (1 + (1 + (1 + (1 + (1 + (x + (y + 0))))))))))
left_cost a b c x y = omega arith

abbrev pub negated_apart : ℕ → ℕ → List Piece
negated_apart to sign =
    Loads 18 sign ∷ Loads 16 to ∷ Loads 17 (to + 1) ∷ Plain (insn.Sbrs 18 7) ∷ Plain (insn.Rjmp 4) ∷ Plain (insn.Com 16) ∷ Plain (insn.Com 17)
    ∷ Plain (insn.Adc 16 1) ∷ Plain (insn.Adc 17 1) ∷ Stores to 16 ∷ Stores (to + 1) 17 ∷ []

abbrev pub negated_in_place : ℕ → ℕ → List Piece
negated_in_place to sign =
    Plain (insn.Sbrs sign 7) ∷ Plain (insn.Rjmp 4) ∷ Plain (insn.Com to) ∷ Plain (insn.Com (to + 1)) ∷ Plain (insn.Adc to 1) ∷ Plain (insn.Adc (to + 1) 1) ∷
    []

abbrev pub negated_by : ℕ → ℕ → Bool → List Piece
negated_by to sign b = if b then negated_in_place to sign else negated_apart to sign

either : (P : ℕ → Type 0) (k n : ℕ) → P k → ((n == k) ≡ false → P n) → P n
either P k n at off = by (cases_eq n k)
  where
    by : (n ≡ k) ⊎ (n ≢ k) → P n
    by (inl e) = subst P (sym e) at
    by (inr ne) = off (ne_eqb n k ne)

-- A, B and R apart from each other
six : (P : ℕ → Type 0) → P 22 → P 23 → P 24 → P 25 → P 30 → P 31 →
    ((n : ℕ) → (n == 22) ≡ false → (n == 23) ≡ false → (n == 24) ≡ false → (n == 25) ≡ false → (n == 30) ≡ false → (n == 31) ≡ false → P n) →
    (n : ℕ) → P n
six P a b c d e f off n =
    either P 22 n a (λ na. either P 23 n b (λ nb. either P 24 n c (λ nc. either P 25 n d (λ nd. either P 30 n e (λ ne. either P 31 n f (λ nf.
    off n na nb nc nd ne nf))))))

-- A is doubled; a byte is halved; A is added to R, and its low byte to R's high byte
abbrev doubled : (ℕ → ℕ) → ℕ → ℕ
doubled f =
    changed (changed f 24 ((f 24 + f 24 + 0) % 256)) 25 ((f 25 + f 25 + as_bit (nat_lt 255 (f 24 + f 24 + 0))) % 256)

abbrev halved : (ℕ → ℕ) → ℕ → ℕ → ℕ
halved f r = changed f r (f r / 2)

abbrev added : (ℕ → ℕ) → ℕ → ℕ
added f = changed (changed f 30 ((f 30 + f 24 + 0) % 256)) 31 ((f 31 + f 25 + as_bit (nat_lt 255 (f 30 + f 24 + 0))) % 256)

abbrev added_high : (ℕ → ℕ) → ℕ → ℕ
added_high f = changed f 31 ((f 31 + f 24 + 0) % 256)

-- R and A are doubled in one; B is taken from R, and the lowest bit of A is set
abbrev rolled : (ℕ → ℕ) → ℕ → ℕ
rolled f =
    let g = changed (doubled f) 30 ((f 30 + f 30 + as_bit (nat_lt 255 (f 25 + f 25 + as_bit (nat_lt 255 (f 24 + f 24 + 0))))) % 256) in
    changed g 31
    ((f 31 + f 31 + as_bit (nat_lt 255 (f 30 + f 30 + as_bit (nat_lt 255 (f 25 + f 25 + as_bit (nat_lt 255 (f 24 + f 24 + 0))))))) % 256)

abbrev lessened : (ℕ → ℕ) → ℕ → ℕ
lessened f =
    changed (changed (changed f 30 (difference (f 30) (f 22) 0)) 31 (difference (f 31) (f 23) (as_bit (nat_lt (f 30) (f 22 + 0))))) 24 ((f 24 + 1) % 256)

-- no register but those of A, B and R changes
abbrev Spares : (ℕ → ℕ) → (ℕ → ℕ) → Type 0
Spares f g = (n : ℕ) → (n == 22) ≡ false → (n == 23) ≡ false → (n == 24) ≡ false → (n == 25) ≡ false → (n == 30) ≡ false → (n == 31) ≡ false → g n ≡ f n

pub a_low : IsCell 24
a_low = inl (lit< tt, refl, refl)

pub a_high : IsCell 25
a_high = inl (lit< tt, refl, refl)

pub b_low : IsCell 22
b_low = inl (lit< tt, refl, refl)

pub b_high : IsCell 23
b_high = inl (lit< tt, refl, refl)

pub r_low : IsCell 30
r_low = inl (lit< tt, refl, refl)

pub r_high : IsCell 31
r_high = inl (lit< tt, refl, refl)

abbrev pub taking : (ℕ → ℕ) → ℕ → ℕ → ℕ → ℕ
taking f a n = changed (changed f a (n % 256)) (a + 1) (n / 256 % 256)

-- R and A take words
has_four : (board : Board) (places : List ℕ) (v w : View) (s : Bytes) → Alike v w → Has board places v s → (r a : ℕ) → Spares v.cells w.cells →
    w.cells 22 ≡ v.cells 22 →
    w.cells 23 ≡ v.cells 23 → w.cells 24 ≡ a % 256 → w.cells 25 ≡ a / 256 % 256 → w.cells 30 ≡ r % 256 → w.cells 31 ≡ r / 256 % 256 →
    Has board places w (record s { place = suc s.place; store = plain (with_word (with_word s.store 30 r) 24 a) })
has_four board places v w s k has r a spares e22 e23 e24 e25 e30 e31 =
    let v1 : View = record v { cells = taking v.cells 30 r } in
    let has1 = has_word board places v v1 s (alike v v1 refl refl refl (λ port. refl) refl refl refl refl) has 30 _ _ r r_low r_high refl refl refl in
    elsewhere board places w _ (suc s.place) (has_word_by board places v1 w _ (alike_cells v w v1.cells k) has1 24 _ _ a a_low a_high
    (six (λ n. w.cells n ≡ taking v1.cells 24 a n) e22 e23 e24 e25 e30 e31
    (λ n na nb nc nd ne nf. spares n na nb nc nd ne nf ∙ sym (off v.cells n na nb nc nd ne nf))) refl refl)
  where
    off : (f : ℕ → ℕ) → Spares f (taking (taking f 30 r) 24 a)
    off f n na nb nc nd ne nf = rw (nc, nd, ne, nf) refl

-- R, B and A take words
has_six : (board : Board) (places : List ℕ) (v w : View) (s : Bytes) → Alike v w → Has board places v s → (r b a : ℕ) → Spares v.cells w.cells →
    w.cells 22 ≡ b % 256 →
    w.cells 23 ≡ b / 256 % 256 → w.cells 24 ≡ a % 256 → w.cells 25 ≡ a / 256 % 256 → w.cells 30 ≡ r % 256 → w.cells 31 ≡ r / 256 % 256 →
    Has board places w (record s { place = suc s.place; store = plain (with_word (with_word (with_word s.store 30 r) 22 b) 24 a) })
has_six board places v w s k has r b a spares e22 e23 e24 e25 e30 e31 =
    let v1 : View = record v { cells = taking v.cells 30 r } in
    let has1 = has_word board places v v1 s (alike v v1 refl refl refl (λ port. refl) refl refl refl refl) has 30 _ _ r r_low r_high refl refl refl in
    let v2 : View = record v { cells = taking v1.cells 22 b } in
    let has2 = has_word board places v1 v2 _ (alike v1 v2 refl refl refl (λ port. refl) refl refl refl refl) has1 22 _ _ b b_low b_high refl refl refl in
    elsewhere board places w _ (suc s.place) (has_word_by board places v2 w _ (alike_cells v w v2.cells k) has2 24 _ _ a a_low a_high
    (six (λ n. w.cells n ≡ taking v2.cells 24 a n) e22 e23 e24 e25 e30 e31
    (λ n na nb nc nd ne nf. spares n na nb nc nd ne nf ∙ sym (off v.cells n na nb nc nd ne nf))) refl refl)
  where
    off : (f : ℕ → ℕ) → Spares f (taking (taking (taking f 30 r) 22 b) 24 a)
    off f n na nb nc nd ne nf = rw (na, nb, nc, nd, ne, nf) refl

abbrev word : ℕ → ℕ → ℕ
word low high = low + high * 256

abbrev product : Bool → Bool → ℕ → ℕ → ℕ
product low high r a = ((r + if_set low a) % 65536 + if_set high (a * 256 % 65536)) % 65536

neither_low : (x r0 r1 a : ℕ) → x ≡ r0 → r0 < 256 → r1 < 256 → x ≡ product false false (word r0 r1) a % 256
neither_low x r0 r1 a e h0 h1 = omega (arith, e, h0, h1)

neither_high : (x r0 r1 a : ℕ) → x ≡ r1 → r0 < 256 → r1 < 256 → x ≡ product false false (word r0 r1) a / 256 % 256
neither_high x r0 r1 a e h0 h1 = omega (arith, e, h0, h1)

first_low : (x y r0 r1 a0 a1 : ℕ) → x ≡ r0 → y ≡ a0 → (x + y + 0) % 256 ≡ product true false (word r0 r1) (word a0 a1) % 256
first_low x y r0 r1 a0 a1 e f = omega (arith, e, f)

first_high : (x y z w r0 r1 a0 a1 : ℕ) → x ≡ r0 → y ≡ a0 → z ≡ r1 → w ≡ a1 → r0 < 256 → a0 < 256 →
    (z + w + as_bit (nat_lt 255 (x + y + 0))) % 256 ≡ product true false (word r0 r1) (word a0 a1) / 256 % 256
first_high x y z w r0 r1 a0 a1 e f g h hr ha = by (as_bit (nat_lt 255 (x + y + 0))) (carry_is (x + y + 0) (omega (arith, e, f, hr, ha)))
  where
    by : (k : ℕ) → k ≡ (x + y + 0) / 256 → (z + w + k) % 256 ≡ product true false (word r0 r1) (word a0 a1) / 256 % 256
    by k q = omega (arith, q, e, f, g, h, hr, ha)

second_low : (x r0 r1 a0 a1 : ℕ) → x ≡ r0 → r0 < 256 → r1 < 256 → x ≡ product false true (word r0 r1) (word a0 a1) % 256
second_low x r0 r1 a0 a1 e h0 h1 = omega (arith, e, h0, h1)

second_high : (y z r0 r1 a0 a1 : ℕ) → y ≡ a0 → z ≡ r1 → r0 < 256 → r1 < 256 → (z + y + 0) % 256 ≡ product false true (word r0 r1) (word a0 a1) / 256 % 256
second_high y z r0 r1 a0 a1 f g h0 h1 = omega (arith, f, g, h0, h1)

both_low : (x y r0 r1 a0 a1 : ℕ) → x ≡ r0 → y ≡ a0 → (x + y + 0) % 256 ≡ product true true (word r0 r1) (word a0 a1) % 256
both_low x y r0 r1 a0 a1 e f = omega (arith, e, f)

both_high : (x y z w r0 r1 a0 a1 : ℕ) → x ≡ r0 → y ≡ a0 → z ≡ r1 → w ≡ a1 → r0 < 256 → a0 < 256 →
    ((z + w + as_bit (nat_lt 255 (x + y + 0))) % 256 + y + 0) % 256 ≡ product true true (word r0 r1) (word a0 a1) / 256 % 256
both_high x y z w r0 r1 a0 a1 e f g h hr ha = by (as_bit (nat_lt 255 (x + y + 0))) (carry_is (x + y + 0) (omega (arith, e, f, hr, ha)))
  where
    by : (k : ℕ) → k ≡ (x + y + 0) / 256 → ((z + w + k) % 256 + y + 0) % 256 ≡ product true true (word r0 r1) (word a0 a1) / 256 % 256
    by k q = omega (arith, q, e, f, g, h, hr, ha)

halved_low : (x b0 b1 : ℕ) → x ≡ b0 → b0 < 256 → x / 2 ≡ (b0 / 2 + b1 / 2 * 256) % 256
halved_low x b0 b1 e h = omega (arith, e, h)

halved_high : (x b0 b1 : ℕ) → x ≡ b1 → b0 < 256 → b1 < 256 → x / 2 ≡ (b0 / 2 + b1 / 2 * 256) / 256 % 256
halved_high x b0 b1 e h0 h1 = omega (arith, e, h0, h1)

doubled_low : (x a0 a1 : ℕ) → x ≡ a0 → (x + x + 0) % 256 ≡ word a0 a1 * 2 % 65536 % 256
doubled_low x a0 a1 e = omega (arith, e)

doubled_high : (x y a0 a1 : ℕ) → x ≡ a0 → y ≡ a1 → a0 < 256 → (y + y + as_bit (nat_lt 255 (x + x + 0))) % 256 ≡ word a0 a1 * 2 % 65536 / 256 % 256
doubled_high x y a0 a1 e f h = by (as_bit (nat_lt 255 (x + x + 0))) (carry_is (x + x + 0) (omega (arith, e, h)))
  where
    by : (k : ℕ) → k ≡ (x + x + 0) / 256 → (y + y + k) % 256 ≡ word a0 a1 * 2 % 65536 / 256 % 256
    by k q = omega (arith, q, e, f, h)

over_two : (n p q : ℕ) → n ≡ p → q ≡ p + 9 → q ≤ 8192 → n + 1 + 1 + 2 < 8192
over_two n p q e f g = omega (arith, e, f, g)

over_both : (n p q : ℕ) → n ≡ p → q ≡ p + 9 → q ≤ 8192 → n + 1 + 1 + 2 + 1 + 1 + 1 < 8192
over_both n p q e f g = omega (arith, e, f, g)

over_one : (n p q : ℕ) → n ≡ p → q ≡ p + 9 → q ≤ 8192 → n + 1 + 1 + 1 + 1 + 1 + 1 + 1 < 8192
over_one n p q e f g = omega (arith, e, f, g)

short_on : (n p q : ℕ) → n ≡ p → q ≡ p + 9 → n + 1 + 1 + 2 + 1 + 1 + 1 + 1 + 1 ≡ q
short_on n p q e f = omega (arith, e, f)

long_on : (n p q : ℕ) → n ≡ p → q ≡ p + 9 → n + 1 + 1 + 1 + 1 + 1 + 1 + 1 + 1 + 1 ≡ q
long_on n p q e f = omega (arith, e, f)

-- the next bit of a doubled word: the carries go from byte to byte
abbrev carry_of : ℕ → ℕ → ℕ
carry_of x k = as_bit (nat_lt 255 (x + x + k))

carry_of_is : (x k : ℕ) → x < 256 → k < 2 → carry_of x k ≡ (x + x + k) / 256
carry_of_is x k hx hk = carry_is (x + x + k) (omega (arith, hx, hk))

carry_small : (x k : ℕ) → carry_of x k < 2
carry_small x k = by (nat_lt 255 (x + x + k))
  where
    by : (b : Bool) → as_bit b < 2
    by true = lit< tt
    by false = lit< tt

abbrev shifted : ℕ → ℕ → ℕ
shifted r a = (r * 2 + a / 32768) % 65536

rest_low : (x0 x1 y0 a0 a1 r0 r1 : ℕ) → x0 ≡ a0 → x1 ≡ a1 → y0 ≡ r0 → a0 < 256 → a1 < 256 → r0 < 256 →
    (y0 + y0 + carry_of x1 (carry_of x0 0)) % 256 ≡ shifted (word r0 r1) (word a0 a1) % 256
rest_low x0 x1 y0 a0 a1 r0 r1 e f g ha0 ha1 hr0 =
    by (carry_of x0 0) (carry_of x1 (carry_of x0 0)) (carry_of_is x0 0 (omega (arith, e, ha0)) (lit< tt))
    (carry_of_is x1 (carry_of x0 0) (omega (arith, f, ha1)) (carry_small x0 0))
  where
    by : (j k : ℕ) → j ≡ (x0 + x0 + 0) / 256 → k ≡ (x1 + x1 + j) / 256 → (y0 + y0 + k) % 256 ≡ shifted (word r0 r1) (word a0 a1) % 256
    by j k p q = omega (arith, p, q, e, f, g, ha0, ha1)

rest_high : (x0 x1 y0 y1 a0 a1 r0 r1 : ℕ) → x0 ≡ a0 → x1 ≡ a1 → y0 ≡ r0 → y1 ≡ r1 → a0 < 256 → a1 < 256 → r0 < 256 → r1 < 256 →
    (y1 + y1 + carry_of y0 (carry_of x1 (carry_of x0 0))) % 256 ≡ shifted (word r0 r1) (word a0 a1) / 256 % 256
rest_high x0 x1 y0 y1 a0 a1 r0 r1 e f g h ha0 ha1 hr0 hr1 =
    by (carry_of x0 0) (carry_of x1 (carry_of x0 0)) (carry_of y0 (carry_of x1 (carry_of x0 0))) (carry_of_is x0 0 (omega (arith, e, ha0)) (lit< tt))
    (carry_of_is x1 (carry_of x0 0) (omega (arith, f, ha1)) (carry_small x0 0))
    (carry_of_is y0 (carry_of x1 (carry_of x0 0)) (omega (arith, g, hr0)) (carry_small x1 (carry_of x0 0)))
  where
    by : (i j k : ℕ) → i ≡ (x0 + x0 + 0) / 256 → j ≡ (x1 + x1 + i) / 256 → k ≡ (y0 + y0 + j) / 256 →
        (y1 + y1 + k) % 256 ≡ shifted (word r0 r1) (word a0 a1) / 256 % 256
    by i j k p q r = omega (arith, p, q, r, e, f, g, h, ha0, ha1, hr0)

-- the carry of the comparison
enough : (p q y w b0 b1 r : ℕ) → p ≡ r % 256 → q ≡ r / 256 % 256 → y ≡ b0 → w ≡ b1 → r < 65536 → b0 < 256 → b1 < 256 → (t : Bool) →
    nat_lt q (w + as_bit (nat_lt p (y + 0))) ≡ t → nat_le (word b0 b1) r ≡ not t
enough p q y w b0 b1 r e f g h hr h0 h1 t e2 =
    by (as_bit (nat_lt p (y + 0))) (borrow_is p (y + 0) (omega (arith, e)) (omega (arith, g, h0))) t e2
  where
    by : (k : ℕ) → k ≡ (255 + (y + 0) - p) / 256 → (t : Bool) → nat_lt q (w + k) ≡ t → nat_le (word b0 b1) r ≡ not t
    by k x true e2 = let low = ltb-true q (w + k) e2 in lt-leb (word b0 b1) r (omega (arith, low, x, e, f, g, h, hr, h0, h1))
    by k x false e2 = let high = ltb-false q (w + k) e2 in le-leb (word b0 b1) r (omega (arith, high, x, e, f, g, h, hr, h0, h1))

left_low : (p y b0 b1 r : ℕ) → p ≡ r % 256 → y ≡ b0 → b0 < 256 → b1 < 256 → nat_le (word b0 b1) r ≡ true → difference p y 0 ≡ (r - word b0 b1) % 256
left_low p y b0 b1 r e g h0 h1 t = let le = leb-true (word b0 b1) r t in omega (arith, le, e, g, h0, h1)

left_high : (p q y w b0 b1 r : ℕ) → p ≡ r % 256 → q ≡ r / 256 % 256 → y ≡ b0 → w ≡ b1 → r < 65536 → b0 < 256 → b1 < 256 →
    nat_le (word b0 b1) r ≡ true → difference q w (as_bit (nat_lt p (y + 0))) ≡ (r - word b0 b1) / 256 % 256
left_high p q y w b0 b1 r e f g h hr h0 h1 t =
    let le = leb-true (word b0 b1) r t in
    by (as_bit (nat_lt p (y + 0))) (borrow_is p (y + 0) (omega (arith, e)) (omega (arith, g, h0))) le
  where
    by : (k : ℕ) → k ≡ (255 + (y + 0) - p) / 256 → word b0 b1 ≤ r → difference q w k ≡ (r - word b0 b1) / 256 % 256
    by k x le = omega (arith, le, x, e, f, g, h, hr, h0, h1)

bit_low : (x a0 a1 : ℕ) → x ≡ a0 → a0 < 256 → a1 < 256 → ((x + x + 0) % 256 + 1) % 256 ≡ (word a0 a1 * 2 % 65536 + 1) % 256
bit_low x a0 a1 e h0 h1 = omega (arith, e, h0, h1)

bit_high : (x y a0 a1 : ℕ) → x ≡ a0 → y ≡ a1 → a0 < 256 → a1 < 256 →
    (y + y + as_bit (nat_lt 255 (x + x + 0))) % 256 ≡ (word a0 a1 * 2 % 65536 + 1) / 256 % 256
bit_high x y a0 a1 e f h0 h1 = by (as_bit (nat_lt 255 (x + x + 0))) (carry_is (x + x + 0) (omega (arith, e, h0)))
  where
    by : (k : ℕ) → k ≡ (x + x + 0) / 256 → (y + y + k) % 256 ≡ (word a0 a1 * 2 % 65536 + 1) / 256 % 256
    by k q = omega (arith, q, e, f, h0, h1)

over_three : (n p q : ℕ) → n ≡ p → q ≡ p + 10 → n + 1 + 1 + 1 + 1 + 1 + 1 + 1 + 3 ≡ q
over_three n p q e f = omega (arith, e, f)

ten_on : (n p q : ℕ) → n ≡ p → q ≡ p + 10 → n + 1 + 1 + 1 + 1 + 1 + 1 + 1 + 1 + 1 + 1 ≡ q
ten_on n p q e f = omega (arith, e, f)

module _ (board : Board) (lay : Layout) (m : AvrState) (s : Bytes) where
  abbrev Ready : BytePrim → Type 0
  Ready p = IsReady (avr_target board) lay s p

  abbrev Goes : BytePrim → Type 0
  Goes p = Moves (steps_over (avr_step mega16) lay.flash) (StandsAt board lay.places) m (cycle_count board p) s (act lay.code p s false no_reading)

  one_or_two : (a r : ℕ) → 1 ≤ store_size a r
  one_or_two a r = by (nat_lt a 32)
    where
      by : (b : Bool) → 1 ≤ size_of (if b then insn.Mov a r else insn.Sts a r)
      by true = lit≤ tt
      by false = lit≤ tt

  -- where it is worked out in R16 and R17
  pub negate_apart : (to sign : ℕ) → (nat_lt to 32 && nat_lt sign 32) ≡ false → Ready (Word (words.NegateIf to sign)) → StandsAt board lay.places m s →
      Goes (Word (words.NegateIf to sign))
  negate_apart to sign none ready st = chosen board lay m s (Word (words.NegateIf to sign)) (negated_apart to sign) tt ready (ap (negated_by to sign) none)
      (ap (negated_by to sign) none) refl refl (
        (lit< tt, ready.admitted.1),
        (
          (lit< tt, ready.admitted.0.0),
          (
            (lit< tt, ready.admitted.0.1),
            (
              (lit< tt, lit< tt),
              (
                lit< tt,
                (
                  lit< tt,
                  (
                    lit< tt,
                    ((lit< tt, lit< tt), ((lit< tt, lit< tt), ((lit< tt, ready.admitted.0.0), ((lit< tt, ready.admitted.0.1), tt)))),
                  ),
                ),
              ),
            ),
          ),
        ),
      ) st
      (λ next v h. (
        λ t. let z = negated v h t in (
          negated_cost _ _ _ _ _,
          record {
            has = record {
              holds = record {
                all = z.holds.all;
                scratch = z.holds.scratch;
                target = z.holds.target;
                ports = z.holds.ports;
                wires = z.holds.wires;
                cells =
                    z.holds.cells;
                bytes = z.holds.bytes;
                latches = z.holds.latches;
                reading = z.holds.reading;
                eeprom = z.holds.eeprom;
              };
              settings = z.settings;
              started = λ e. record {
                zero = (z.started e).zero;
                directions = (z.started e).directions;
                timing = (z.started e).timing;
                quiet =
                    (z.started e).quiet;
              };
              flag = tt;
              back = z.back;
              closed = z.closed;
            };
            at = negated_on v.core.place (load_size 18 sign) (load_size 16 to) (load_size 17 (to + 1)) (store_size to 16)
                (store_size (to + 1) 17) _ _ h.at next;
          },
        ),
        λ t. (
          left_inside v.core.place (load_size 18 sign) (load_size 16 to) (load_size 17 (to + 1)) (store_size to 16) (store_size (to + 1) 17) _ _ h.at next
              ready.inside (one_or_two to 16),
          let z = left v h t in (
            left_cost _ _ _ _ _,
            record {
              has = record {
                holds = record {
                  all = z.holds.all;
                  scratch = z.holds.scratch;
                  target = z.holds.target;
                  ports = z.holds.ports;
                  wires = z.holds.wires;
                  cells = z.holds.cells;
                  bytes = z.holds.bytes;
                  latches = z.holds.latches;
                  reading = z.holds.reading;
                  eeprom = z.holds.eeprom;
                };
                settings = z.settings;
                started = λ e. record {
                  zero = (z.started e).zero;
                  directions = (z.started e).directions;
                  timing = (z.started e).timing;
                  quiet =
                      (z.started e).quiet;
                };
                flag = tt;
                back = z.back;
                closed = z.closed;
              };
              at = left_on v.core.place (load_size 18 sign) (load_size 16 to) (load_size 17 (to + 1)) (store_size to 16)
                  (store_size (to + 1) 17) _ _ h.at next;
            },
          ),
        ),
      ))
    where
      Next : Bool → Bytes
      Next b = record s { place = suc s.place; store = plain (if b then with_word s.store to ((65536 - word_at s.store to) % 65536) else s.store) }

      in_low : IsCell to
      in_low = ready.admitted.0.0

      in_high : IsCell (to + 1)
      in_high = ready.admitted.0.1

      test : (v : View) → ViewStands board lay.places v s → (b : Bool) → bit_of (v.cells sign) 7 ≡ b → bit_of (cell s.store sign) 7 ≡ b
      test v h b t = sym (ap (λ x. bit_of x 7) (h.has.holds.cells sign ready.admitted.1)) ∙ t

      same : (v : View) (f : ℕ → ℕ) → Alike v (record v { cells = f })
      same v f = alike v _ refl refl refl (λ port. refl) refl refl refl refl

      negated : (v : View) → ViewStands board lay.places v s → bit_of (v.cells sign) 7 ≡ true →
          Has board lay.places (record v { cells = opposed v.cells to (v.work 1) }) (Next (bit_of (cell s.store sign) 7))
      negated v h t = subst (λ b. Has board lay.places (record v { cells = opposed v.cells to (v.work 1) }) (Next b)) (sym (test v h true t))
          (has_word board lay.places v _ s (same v _) h.has to _ _ ((65536 - word_at s.store to) % 65536) in_low in_high refl
          (negated_low (cell s.store to) (cell s.store (to + 1)) _ _ (h.has.holds.cells to in_low) (h.has.started ready.begins).zero (h.has.holds.bytes to)
          (h.has.holds.bytes (to + 1)))
          (negated_high (cell s.store to) (cell s.store (to + 1)) _ _ _ (h.has.holds.cells to in_low) (h.has.holds.cells (to + 1) in_high)
          (h.has.started ready.begins).zero (h.has.holds.bytes to) (h.has.holds.bytes (to + 1))))

      left : (v : View) → ViewStands board lay.places v s → bit_of (v.cells sign) 7 ≡ false →
          Has board lay.places (record v { cells = changed (changed v.cells to (v.cells to)) (to + 1) (v.cells (to + 1)) })
          (Next (bit_of (cell s.store sign) 7))
      left v h t = subst (λ b. Has board lay.places (record v { cells = changed (changed v.cells to (v.cells to)) (to + 1) (v.cells (to + 1)) }) (Next b))
          (sym (test v h false t)) (has_kept board lay.places v _ s (same v _) h.has None (suc s.place) (word_back v.cells to) tt)

  abbrev multiplied_by : Scratch → Store → Bytes
  multiplied_by c d = record s {
    place = suc s.place;
    store = plain (with_word
        (with_word (with_word d c.outcome (product (bit_of (cell d c.right) 0) (bit_of (cell d (c.right + 1)) 0) (word_at d c.outcome) (word_at d c.left)))
        c.right (cell d c.right / 2 + cell d (c.right + 1) / 2 * 256)) c.left (word_at d c.left * 2 % 65536));
  }

  abbrev Multiplied : Bool → Bool → Bytes
  Multiplied low high = record s {
    place = suc s.place;
    store = plain (with_word
        (with_word (with_word s.store 30 (product low high (word_at s.store 30) (word_at s.store 24)))
        22 (cell s.store 22 / 2 + cell s.store 23 / 2 * 256)) 24 (word_at s.store 24 * 2 % 65536));
  }

  multiplied_so : (v : View) → ViewStands board lay.places v s → (low high : Bool) → bit_of (v.cells 22) 0 ≡ low → bit_of (v.cells 23) 0 ≡ high →
      (f : ℕ → ℕ) → Has board lay.places (record v { cells = f }) (Multiplied low high) →
      Has board lay.places (record v { cells = f }) (multiplied_by s.store.scratch s.store)
  multiplied_so v h low high e g f has =
      let w : View = record v { cells = f } in
      subst (λ c. Has board lay.places w (multiplied_by c s.store)) (sym h.has.holds.scratch)
      (subst (λ b. Has board lay.places w (Multiplied b (bit_of (cell s.store 23) 0))) (sym (sym (ap (λ x. bit_of x 0) (h.has.holds.cells 22 b_low)) ∙ e))
      (subst (λ b. Has board lay.places w (Multiplied low b)) (sym (sym (ap (λ x. bit_of x 0) (h.has.holds.cells 23 b_high)) ∙ g)) has))

  abbrev StepMade : View → (ℕ → ℕ) → Type 0
  StepMade v f = Has board lay.places (record v { cells = f }) (multiplied_by s.store.scratch s.store)

  module _ (v : View) (h : ViewStands board lay.places v s) where
    same : (f : ℕ → ℕ) → Alike v (record v { cells = f })
    same f = alike v _ refl refl refl (λ port. refl) refl refl refl refl

    r0 : v.cells 30 ≡ cell s.store 30
    r0 = h.has.holds.cells 30 r_low

    r1 : v.cells 31 ≡ cell s.store 31
    r1 = h.has.holds.cells 31 r_high

    a0 : v.cells 24 ≡ cell s.store 24
    a0 = h.has.holds.cells 24 a_low

    a1 : v.cells 25 ≡ cell s.store 25
    a1 = h.has.holds.cells 25 a_high

    b0 : v.cells 22 ≡ cell s.store 22
    b0 = h.has.holds.cells 22 b_low

    b1 : v.cells 23 ≡ cell s.store 23
    b1 = h.has.holds.cells 23 b_high

    byte : (a : ℕ) → cell s.store a < 256
    byte = h.has.holds.bytes

    neither : bit_of (v.cells 22) 0 ≡ false → bit_of (v.cells 23) 0 ≡ false → StepMade v (doubled (halved (halved v.cells 22) 23))
    neither e g = multiplied_so v h false false e g _ (has_six board lay.places v _ s (same _) h.has _ _ _ (λ n na nb nc nd ne nf. rw (na, nb, nc, nd) refl)
        (halved_low _ _ (cell s.store 23) b0 (byte 22)) (halved_high _ (cell s.store 22) _ b1 (byte 22) (byte 23))
        (doubled_low _ _ (cell s.store 25) a0) (doubled_high _ _ _ _ a0 a1 (byte 24))
        (neither_low _ _ (cell s.store 31) (word_at s.store 24) r0 (byte 30) (byte 31))
        (neither_high _ (cell s.store 30) _ (word_at s.store 24) r1 (byte 30) (byte 31)))

    first : bit_of (v.cells 22) 0 ≡ true → bit_of (v.cells 23) 0 ≡ false → StepMade v (doubled (halved (added (halved v.cells 22)) 23))
    first e g = multiplied_so v h true false e g _ (has_six board lay.places v _ s (same _) h.has _ _ _
        (λ n na nb nc nd ne nf. rw (na, nb, nc, nd, ne, nf) refl)
        (halved_low _ _ (cell s.store 23) b0 (byte 22)) (halved_high _ (cell s.store 22) _ b1 (byte 22) (byte 23))
        (doubled_low _ _ (cell s.store 25) a0) (doubled_high _ _ _ _ a0 a1 (byte 24))
        (first_low _ _ _ (cell s.store 31) _ (cell s.store 25) r0 a0) (first_high _ _ _ _ _ _ _ _ r0 a0 r1 a1 (byte 30) (byte 24)))

    second : bit_of (v.cells 22) 0 ≡ false → bit_of (v.cells 23) 0 ≡ true → StepMade v (doubled (added_high (halved (halved v.cells 22) 23)))
    second e g = multiplied_so v h false true e g _ (has_six board lay.places v _ s (same _) h.has _ _ _ (λ n na nb nc nd ne nf. rw (na, nb, nc, nd, nf) refl)
        (halved_low _ _ (cell s.store 23) b0 (byte 22)) (halved_high _ (cell s.store 22) _ b1 (byte 22) (byte 23))
        (doubled_low _ _ (cell s.store 25) a0) (doubled_high _ _ _ _ a0 a1 (byte 24))
        (second_low _ _ (cell s.store 31) (cell s.store 24) (cell s.store 25) r0 (byte 30) (byte 31))
        (second_high _ _ (cell s.store 30) _ _ (cell s.store 25) a0 r1 (byte 30) (byte 31)))

    both : bit_of (v.cells 22) 0 ≡ true → bit_of (v.cells 23) 0 ≡ true → StepMade v (doubled (added_high (halved (added (halved v.cells 22)) 23)))
    both e g = multiplied_so v h true true e g _ (has_six board lay.places v _ s (same _) h.has _ _ _ (λ n na nb nc nd ne nf. rw (na, nb, nc, nd, ne, nf) refl)
        (halved_low _ _ (cell s.store 23) b0 (byte 22)) (halved_high _ (cell s.store 22) _ b1 (byte 22) (byte 23))
        (doubled_low _ _ (cell s.store 25) a0) (doubled_high _ _ _ _ a0 a1 (byte 24))
        (both_low _ _ _ (cell s.store 31) _ (cell s.store 25) r0 a0) (both_high _ _ _ _ _ _ _ _ r0 a0 r1 a1 (byte 30) (byte 24)))

  pub multiply_step : Ready (Word words.MultiplyStep) → StandsAt board lay.places m s → Goes (Word words.MultiplyStep)
  multiply_step ready st = coded board lay m s (Word words.MultiplyStep) (Plain (insn.Lsr 22)) (Plain (insn.Brbc 0 2) ∷ Plain (insn.Add 30 24) ∷ Plain
      (insn.Adc 31 25) ∷ Plain (insn.Lsr 23) ∷ Plain (insn.Brbc 0 1) ∷ Plain (insn.Add 31 24) ∷ Plain (insn.Add 24 24) ∷ Plain (insn.Adc 25 25) ∷ []) ready
      refl refl refl (
        lit< tt,
        (
          (lit< tt, lit< tt),
          (
            (lit< tt, lit< tt),
            (
              (lit< tt, lit< tt),
              (
                lit< tt,
                (
                  (lit< tt, lit< tt),
                  (
                    (lit< tt, lit< tt),
                    (
                      (lit< tt, lit< tt),
                      ((lit< tt, lit< tt), tt),
                    ),
                  ),
                ),
              ),
            ),
          ),
        ),
      ) st
      (λ v h. (
        λ t. (
          over_two v.core.place _ _ h.at ready.next ready.inside,
          (
            λ t2. (
              over_both v.core.place _ _ h.at ready.next ready.inside,
              let z = neither v h (is_false _ t) (is_false _ t2) in (
                lit≤ tt,
                record {
                  has = record {
                    holds = record {
                      all = z.holds.all;
                      scratch = z.holds.scratch;
                      target = z.holds.target;
                      ports = z.holds.ports;
                      wires = z.holds.wires;
                      cells = z.holds.cells;
                      bytes = z.holds.bytes;
                      latches = z.holds.latches;
                      reading = z.holds.reading;
                      eeprom = z.holds.eeprom;
                    };
                    settings = z.settings;
                    started = λ e. record {
                      zero = (z.started e).zero;
                      directions = (z.started e).directions;
                      timing = (z.started e).timing;
                      quiet =
                          (z.started e).quiet;
                    };
                    flag = tt;
                    back = z.back;
                    closed = z.closed;
                  };
                  at = short_on v.core.place _ _ h.at ready.next;
                },
              ),
            ),
            λ t2. let z = second v h (is_false _ t) (is_true _ t2) in (
              lit≤ tt,
              record {
                has = record {
                  holds = record {
                    all = z.holds.all;
                    scratch = z.holds.scratch;
                    target = z.holds.target;
                    ports = z.holds.ports;
                    wires = z.holds.wires;
                    cells = z.holds.cells;
                    bytes = z.holds.bytes;
                    latches = z.holds.latches;
                    reading = z.holds.reading;
                    eeprom = z.holds.eeprom;
                  };
                  settings = z.settings;
                  started = λ e. record {
                    zero = (z.started e).zero;
                    directions = (z.started e).directions;
                    timing = (z.started e).timing;
                    quiet =
                        (z.started e).quiet;
                  };
                  flag = tt;
                  back = z.back;
                  closed = z.closed;
                };
                at = short_on v.core.place _ _ h.at ready.next;
              },
            ),
          ),
        ),
        λ t. (
          λ t2. (
            over_one v.core.place _ _ h.at ready.next ready.inside,
            let z = first v h (is_true _ t) (is_false _ t2) in (
              lit≤ tt,
              record {
                has = record {
                  holds = record {
                    all = z.holds.all;
                    scratch = z.holds.scratch;
                    target = z.holds.target;
                    ports = z.holds.ports;
                    wires = z.holds.wires;
                    cells = z.holds.cells;
                    bytes = z.holds.bytes;
                    latches = z.holds.latches;
                    reading = z.holds.reading;
                    eeprom = z.holds.eeprom;
                  };
                  settings = z.settings;
                  started = λ e. record {
                    zero = (z.started e).zero;
                    directions = (z.started e).directions;
                    timing = (z.started e).timing;
                    quiet =
                        (z.started e).quiet;
                  };
                  flag = tt;
                  back = z.back;
                  closed = z.closed;
                };
                at = long_on v.core.place _ _ h.at ready.next;
              },
            ),
          ),
          λ t2. let z = both v h (is_true _ t) (is_true _ t2) in (
            lit≤ tt,
            record {
              has = record {
                holds = record {
                  all = z.holds.all;
                  scratch = z.holds.scratch;
                  target = z.holds.target;
                  ports = z.holds.ports;
                  wires = z.holds.wires;
                  cells = z.holds.cells;
                  bytes = z.holds.bytes;
                  latches = z.holds.latches;
                  reading = z.holds.reading;
                  eeprom = z.holds.eeprom;
                };
                settings = z.settings;
                started = λ e. record {
                  zero = (z.started e).zero;
                  directions = (z.started e).directions;
                  timing = (z.started e).timing;
                  quiet =
                      (z.started e).quiet;
                };
                flag = tt;
                back = z.back;
                closed = z.closed;
              };
              at = long_on v.core.place _ _ h.at ready.next;
            },
          ),
        ),
      ))

  abbrev divided_by : Scratch → Store → Bytes
  divided_by c d =
      let r = shifted (word_at d c.outcome) (word_at d c.left) in
      record s {
        place = suc s.place;
        store = plain (if nat_le (word_at d c.right) r then
            with_word (with_word d c.outcome (r - word_at d c.right)) c.left (word_at d c.left * 2 % 65536 + 1)
            else with_word (with_word d c.outcome r) c.left (word_at d c.left * 2 % 65536));
      }

  abbrev Rest : ℕ
  Rest = shifted (word_at s.store 30) (word_at s.store 24)

  abbrev Divided : Bool → Bytes
  Divided b = record s {
    place = suc s.place;
    store = plain (if b then with_word (with_word s.store 30 (Rest - word_at s.store 22)) 24 (word_at s.store 24 * 2 % 65536 + 1)
        else with_word (with_word s.store 30 Rest) 24 (word_at s.store 24 * 2 % 65536));
  }

  small_rest : Rest < 65536
  small_rest = by (word_at s.store 30 * 2 + word_at s.store 24 / 32768)
    where
      by : (n : ℕ) → n % 65536 < 65536
      by n = omega arith

  module _ (v : View) (h : ViewStands board lay.places v s) where
    abbrev RestMade : (ℕ → ℕ) → Type 0
    RestMade f = Has board lay.places (record v { cells = f }) (divided_by s.store.scratch s.store)

    divided_so : (b : Bool) → nat_le (word_at s.store 22) Rest ≡ b → (f : ℕ → ℕ) → Has board lay.places (record v { cells = f }) (Divided b) → RestMade f
    divided_so b e f has =
        subst (λ c. Has board lay.places (record v { cells = f }) (divided_by c s.store)) (sym h.has.holds.scratch)
        (subst (λ b. Has board lay.places (record v { cells = f }) (Divided b)) (sym e) has)

    rest_byte : rolled v.cells 30 ≡ Rest % 256
    rest_byte = rest_low _ _ _ (cell s.store 24) (cell s.store 25) (cell s.store 30) (cell s.store 31) (a0 v h) (a1 v h) (r0 v h) (byte v h 24) (byte v h 25)
        (byte v h 30)

    rest_top : rolled v.cells 31 ≡ Rest / 256 % 256
    rest_top = rest_high _ _ _ _ (cell s.store 24) (cell s.store 25) (cell s.store 30) (cell s.store 31) (a0 v h) (a1 v h) (r0 v h) (r1 v h) (byte v h 24)
        (byte v h 25) (byte v h 30) (byte v h 31)

    is_enough : (t : Bool) → nat_lt (rolled v.cells 31) (v.cells 23 + as_bit (nat_lt (rolled v.cells 30) (v.cells 22 + 0))) ≡ t →
        nat_le (word_at s.store 22) Rest ≡ not t
    is_enough t e = enough _ _ _ _ (cell s.store 22) (cell s.store 23) Rest rest_byte rest_top (b0 v h) (b1 v h) small_rest (byte v h 22) (byte v h 23) t e

    too_little : nat_lt (rolled v.cells 31) (v.cells 23 + as_bit (nat_lt (rolled v.cells 30) (v.cells 22 + 0))) ≡ true → RestMade (rolled v.cells)
    too_little t = divided_so false (is_enough true t) _ (has_four board lay.places v _ s (same v h _) h.has _ _
        (λ n na nb nc nd ne nf. rw (nc, nd, ne, nf) refl)
        refl refl (doubled_low _ _ (cell s.store 25) (a0 v h)) (doubled_high _ _ _ _ (a0 v h) (a1 v h) (byte v h 24)) rest_byte rest_top)

    taken_away : nat_lt (rolled v.cells 31) (v.cells 23 + as_bit (nat_lt (rolled v.cells 30) (v.cells 22 + 0))) ≡ false → RestMade (lessened (rolled v.cells))
    taken_away t = divided_so true (is_enough false t) _ (has_four board lay.places v _ s (same v h _) h.has _ _
        (λ n na nb nc nd ne nf. rw (nc, nd, ne, nf) refl)
        refl refl (bit_low _ _ (cell s.store 25) (a0 v h) (byte v h 24) (byte v h 25)) (bit_high _ _ _ _ (a0 v h) (a1 v h) (byte v h 24) (byte v h 25))
        (left_low _ _ (cell s.store 22) (cell s.store 23) Rest rest_byte (b0 v h) (byte v h 22) (byte v h 23) (is_enough false t))
        (left_high _ _ _ _ (cell s.store 22) (cell s.store 23) Rest rest_byte rest_top (b0 v h) (b1 v h) small_rest (byte v h 22) (byte v h 23)
        (is_enough false t)))

  pub divide_step : Ready (Word words.DivideStep) → slice_index lay.places (suc s.place) < 8192 → StandsAt board lay.places m s → Goes (Word words.DivideStep)
  divide_step ready low st = coded board lay m s (Word words.DivideStep) (Plain (insn.Add 24 24)) (Plain (insn.Adc 25 25) ∷ Plain (insn.Adc 30 30) ∷ Plain
      (insn.Adc 31 31) ∷ Plain (insn.Cp 30 22) ∷ Plain (insn.Cpc 31 23) ∷ Plain (insn.Brbs 0 3) ∷ Plain (insn.Sub 30 22) ∷ Plain (insn.Sbc 31 23) ∷ Plain
      (insn.Inc 24) ∷ []) ready refl refl refl (
        (lit< tt, lit< tt),
        (
          (lit< tt, lit< tt),
          (
            (lit< tt, lit< tt),
            (
              (lit< tt, lit< tt),
              (
                (lit< tt, lit< tt),
                (
                  (lit< tt, lit< tt),
                  (
                    (lit< tt, lit< tt),
                    ((lit< tt, lit< tt), ((lit< tt, lit< tt), (lit< tt, tt))),
                  ),
                ),
              ),
            ),
          ),
        ),
      ) st
      (λ v h. (
        λ t. (
          subst (λ n. n < 8192) (sym (over_three v.core.place _ _ h.at ready.next)) low,
          let z = too_little v h t in (
            lit≤ tt,
            record {
              has = record {
                holds = record {
                  all = z.holds.all;
                  scratch = z.holds.scratch;
                  target = z.holds.target;
                  ports = z.holds.ports;
                  wires = z.holds.wires;
                  cells = z.holds.cells;
                  bytes = z.holds.bytes;
                  latches = z.holds.latches;
                  reading = z.holds.reading;
                  eeprom = z.holds.eeprom;
                };
                settings = z.settings;
                started = λ e. record {
                  zero = (z.started e).zero;
                  directions = (z.started e).directions;
                  timing = (z.started e).timing;
                  quiet =
                      (z.started e).quiet;
                };
                flag = tt;
                back = z.back;
                closed = z.closed;
              };
              at = over_three v.core.place _ _ h.at ready.next;
            },
          ),
        ),
        λ t. let z = taken_away v h t in (
          lit≤ tt,
          record {
            has = record {
              holds = record {
                all = z.holds.all;
                scratch = z.holds.scratch;
                target = z.holds.target;
                ports = z.holds.ports;
                wires = z.holds.wires;
                cells =
                    z.holds.cells;
                bytes = z.holds.bytes;
                latches = z.holds.latches;
                reading = z.holds.reading;
                eeprom = z.holds.eeprom;
              };
              settings = z.settings;
              started = λ e. record {
                zero = (z.started e).zero;
                directions = (z.started e).directions;
                timing = (z.started e).timing;
                quiet =
                    (z.started e).quiet;
              };
              flag = tt;
              back = z.back;
              closed = z.closed;
            };
            at = ten_on v.core.place _ _ h.at ready.next;
          },
        ),
      ))
