-- Tables: A goes from value to value as far as the index.
use Rattle.std.proofs.Common.{◌≡◌, ◌≢◌, ◌⊎◌, inl, inr, ℕ, zero, suc, ◌+◌, ◌/◌, ◌%◌, ◌<◌, ◌≤◌, Bool, true, false, List, [], ◌∷◌, length, refl, sym, ap, ap₂, ◌∙◌, subst, arith, lit<, lit≤}
use Rattle.std.proofs.lemmas.Bool.{cases_eq, eqb-true, ne_eqb, lt-ltb, le-ltb, ltb-false}
use Rattle.std.proofs.lemmas.List.{take_all}
use Rattle.std.specs.Prelude.{◌==◌, nat_lt, if◌then◌else◌, take, slice_index, slice_index_or}
use Rattle.chip_tables.specs.Outside.{no_reading}
use Rattle.chip_tables.specs.declared.scratch.Scratch.{Scratch}
use Rattle.runs.specs.Chip.{steps_over}
use Rattle.byte_code.specs.declared.prim.BytePrim.{BytePrim}
use Rattle.byte_code.specs.declared.prim.BytePrim.TheVariants.{Table}
use Rattle.byte_code.specs.declared.store.Store.{Store}
use Rattle.byte_code.specs.declared.state.Bytes.{Bytes}
use Rattle.byte_code.specs.Machine.{act}
use Rattle.byte_code.specs.Store.{cell, with_word}
use Rattle.byte_code.specs.Table.{plain}
use Rattle.avr_mach.specs.declared.insn.AvrInsn.TheVariants as insn
use Rattle.avr_mach.specs.declared.state.AvrState.{AvrState}
use Rattle.avr_mach.specs.Step.{avr_step}
use Rattle.avr_devices.specs.Part.{mega16}
use Rattle.target_core.specs.Law.{Moves, IsReady, Layout}
use Rattle.avr_code.specs.Code.{Board, Piece, Plain, size_in, cycle_count, values_from, table_code}
use Rattle.avr_code.specs.Stands.{StandsAt}
use Rattle.avr_code.specs.Target.{avr_target}
use Rattle.avr_code.proofs.Paths.{Paths, At, Fork, Near, Ahead, Lost, AllGood, AllPiecesFit, paths}
use Rattle.avr_code.proofs.Moves.{chosen, alike_then}
use Rattle.avr_code.proofs.Primitives.{Ends, good_bump}
use Rattle.avr_code.proofs.Products.{taking, a_low, a_high, r_low}
use Rattle.avr_code.proofs.Standing.{Has, Alike, alike, has_word_by, ViewStands}
use Rattle.avr_code.proofs.View.{View, changed, moved}

-- what A is behind the values from i on, where the index is k
abbrev final : ℕ → List ℕ → ℕ → ℕ → ℕ
final i [] k a = a
final i (x ∷ xs) k a = final (i + 1) xs k (if nat_lt k i then a else x)

passed : (xs : List ℕ) (i k a : ℕ) → k < i → final i xs k a ≡ a
passed [] i k a low = refl
passed (x ∷ xs) i k a low =
    ap (λ b. final (i + 1) xs k (if b then a else x)) (lt-ltb k i low) ∙ passed xs (i + 1) k a (omega (arith, low))

found : (xs : List ℕ) (i j k a : ℕ) → k ≡ i + j → j < length xs → final i xs k a ≡ slice_index_or xs j 0
found [] i j k a e low = absurd (omega (arith, low))
found (x ∷ xs) i zero k a e low =
    ap (λ b. final (i + 1) xs k (if b then a else x)) (le-ltb k i (omega (arith, e))) ∙ passed xs (i + 1) k x (omega (arith, e))
found (x ∷ xs) i (suc j) k a e low =
    ap (λ b. final (i + 1) xs k (if b then a else x)) (le-ltb k i (omega (arith, e))) ∙ found xs (i + 1) j k x (omega (arith, e)) (omega (arith, low))

-- the first value, and those behind it
chosen_value : (x : ℕ) (xs : List ℕ) (k : ℕ) → k < suc (length xs) → final 1 xs k x ≡ slice_index_or (x ∷ xs) k 0
chosen_value x xs zero low = passed xs 1 0 x (lit< tt)
chosen_value x xs (suc j) low = found xs 1 j (suc j) x (omega arith) (omega (arith, low))

-- as at the beginning, but that A is a
record Looks (u v : View) (a : ℕ) : Type 0 where
  pub alike : Alike u v
  pub cells : (n : ℕ) → v.cells n ≡ taking u.cells 24 a n

replaced : (f g : ℕ → ℕ) (a b x y n : ℕ) → g n ≡ changed (changed f 24 a) 25 b n → changed (changed g 24 x) 25 y n ≡ changed (changed f 24 x) 25 y n
replaced f g a b x y n = by (n == 25) (n == 24)
  where
    by : (i j : Bool) → g n ≡ (if i then b else if j then a else f n) → (if i then y else if j then x else g n) ≡ (if i then y else if j then x else f n)
    by true j e = refl
    by false true e = refl
    by false false e = e

pub good_more : (n k : ℕ) (E : View → Type 0) (w : Paths) → n ≤ k → AllGood n E w → AllGood k E w
good_more n k E (At v d) le g = (let e = g.0 in omega (arith, e, le), g.1)
good_more n k E (Fork t a b) le g = (λ e. good_more n k E a le (g.0 e), λ e. good_more n k E b le (g.1 e))
good_more n k E (Near t p a b) le g = (λ e. ((g.0 e).0, good_more n k E a le (g.0 e).1), λ e. good_more n k E b le (g.1 e))
good_more n k E (Ahead p a) le g = (g.0, good_more n k E a le g.1)
good_more n k E Lost le g = g

-- only one of the two bytes is replaced, where the other one is the same
low_replaced : (f g : ℕ → ℕ) (a x y n : ℕ) → g n ≡ changed (changed f 24 a) 25 y n → changed g 24 x n ≡ changed (changed f 24 x) 25 y n
low_replaced f g a x y n e = by (cases_eq n 24)
  where
    by : (n ≡ 24) ⊎ (n ≢ 24) → changed g 24 x n ≡ changed (changed f 24 x) 25 y n
    by (inl q) = subst (λ m. changed g 24 x m ≡ changed (changed f 24 x) 25 y m) (sym q) refl
    by (inr ne) =
        let off = ne_eqb n 24 ne in
        ap (λ j. if j then x else g n) off ∙ e ∙ ap (λ j. if n == 25 then y else if j then a else f n) off
        ∙ sym (ap (λ j. if n == 25 then y else if j then x else f n) off)

high_replaced : (f g : ℕ → ℕ) (x b y n : ℕ) → g n ≡ changed (changed f 24 x) 25 b n → changed g 25 y n ≡ changed (changed f 24 x) 25 y n
high_replaced f g x b y n = by (n == 25)
  where
    by : (i : Bool) → g n ≡ (if i then b else if n == 24 then x else f n) → (if i then y else g n) ≡ (if i then y else if n == 24 then x else f n)
    by true e = refl
    by false e = e

-- the carry says whether the index is below this one
says : (k i x : ℕ) → x ≡ k → nat_lt x (i + 0) ≡ nat_lt k i
says k i x e = ap₂ nat_lt e (add_zero i)
  where
    add_zero : (n : ℕ) → n + 0 ≡ n
    add_zero n = omega arith

inside_one : (n r t : ℕ) → n + (1 + (1 + (1 + r))) ≡ t → t < 8192 → n + 1 + 1 + 1 < 8192
inside_one n r t e low = omega (arith, e, low)

inside_two : (n r t : ℕ) → n + (1 + (1 + (1 + (1 + r)))) ≡ t → t < 8192 → n + 1 + 1 + 2 < 8192
inside_two n r t e low = omega (arith, e, low)

end_one : (n r t : ℕ) → n + (1 + (1 + (1 + r))) ≡ t → n + 1 + 1 + 1 + r ≡ t
end_one n r t e = omega (arith, e)

skip_two : (n r t : ℕ) → n + (1 + (1 + (1 + (1 + r)))) ≡ t → n + 1 + 1 + 2 + r ≡ t
skip_two n r t e = omega (arith, e)

take_two : (n r t : ℕ) → n + (1 + (1 + (1 + (1 + r)))) ≡ t → n + 1 + 1 + 1 + 1 + r ≡ t
take_two n r t e = omega (arith, e)

cost_one : (r : ℕ) → 1 + (2 + r) ≤ 1 + (1 + (1 + r))
cost_one r = omega arith

cost_two : (r : ℕ) → 1 + (2 + r) ≤ 1 + (1 + (1 + (1 + r)))
cost_two r = omega arith

small_here : (i n : ℕ) → i + suc n ≤ 256 → i < 256
small_here i n le = omega (arith, le)

small_on : (i n : ℕ) → i + suc n ≤ 256 → i + 1 + n ≤ 256
small_on i n le = omega (arith, le)

one_more : (n : ℕ) → suc n ≤ 256 → 1 + n ≤ 256
one_more n le = omega (arith, le)

low_byte : (n : ℕ) → n % 256 < 256
low_byte n = omega arith

high_byte : (n : ℕ) → n / 256 % 256 < 256
high_byte n = omega arith

abbrev stepping : ℕ → ℕ → List Piece → Bool → Bool → List Piece
stepping i x rest low high =
    if low then (if high then rest else Plain (insn.Cpi 30 i) ∷ Plain (insn.Brbs 0 1) ∷ Plain (insn.Ldi 25 (x / 256 % 256)) ∷ rest) else
    (if high then Plain (insn.Cpi 30 i) ∷ Plain (insn.Brbs 0 1) ∷ Plain (insn.Ldi 24 (x % 256)) ∷ rest else
    Plain (insn.Cpi 30 i) ∷ Plain (insn.Brbs 0 2) ∷ Plain (insn.Ldi 24 (x % 256)) ∷ Plain (insn.Ldi 25 (x / 256 % 256)) ∷ rest)

step_fits : (i x : ℕ) (rest : List Piece) (low high : Bool) → i < 256 → AllPiecesFit rest → AllPiecesFit (stepping i x rest low high)
step_fits i x rest true true small fit = fit
step_fits i x rest true false small fit =
    ((lit≤ tt, lit< tt, small), ((lit< tt, lit< tt), ((lit≤ tt, lit< tt, high_byte x), fit)))
step_fits i x rest false true small fit =
    ((lit≤ tt, lit< tt, small), ((lit< tt, lit< tt), ((lit≤ tt, lit< tt, low_byte x), fit)))
step_fits i x rest false false small fit =
    ((lit≤ tt, lit< tt, small), ((lit< tt, lit< tt), ((lit≤ tt, lit< tt, low_byte x), ((lit≤ tt, lit< tt, high_byte x), fit))))

all_fit : (xs : List ℕ) (i before : ℕ) → i + length xs ≤ 256 → AllPiecesFit (values_from i before xs)
all_fit [] i before le = tt
all_fit (x ∷ xs) i before le =
    step_fits i x (values_from (i + 1) x xs) (x % 256 == before % 256) (x / 256 % 256 == before / 256 % 256) (small_here i (length xs) le)
    (all_fit xs (i + 1) x (small_on i (length xs) le))

module _ (u : View) (k end : ℕ) (E : View → Type 0) (index : u.cells 30 ≡ k) (inside : end < 8192) where
  module _ (i before x a : ℕ) (rest : List Piece) (v : View) (looks : Looks u v a) (known : nat_lt k i ≡ false → a ≡ before) where
    abbrev After : View → Type 0
    After w = Looks u w (if nat_lt k i then a else x)

    abbrev Onward : Type 0
    Onward = (w : View) → After w → w.core.place + size_in rest ≡ end → AllGood (size_in rest) E (paths rest 0 w)

    stays : (w : View) → Alike v w → w.cells ≡ v.cells → nat_lt k i ≡ true → After w
    stays w alike same t = subst (λ b. Looks u w (if b then a else x)) (sym t)
        (record { alike = alike_then u v w looks.alike alike; cells = λ n. ap (λ f. f n) same ∙ looks.cells n })

    becomes : (w : View) → Alike v w → ((n : ℕ) → w.cells n ≡ taking u.cells 24 x n) → nat_lt k i ≡ false → After w
    becomes w alike cells t =
        subst (λ b. Looks u w (if b then a else x)) (sym t) (record { alike = alike_then u v w looks.alike alike; cells = cells })

    carry : nat_lt (v.cells 30) (i + 0) ≡ nat_lt k i
    carry = says k i (v.cells 30) (looks.cells 30 ∙ index)

    -- the bytes of the value before
    was : nat_lt k i ≡ false → (n : ℕ) → v.cells n ≡ taking u.cells 24 before n
    was t n = looks.cells n ∙ ap (λ y. taking u.cells 24 y n) (known t)

    step_goes : (low high : Bool) → (x % 256 == before % 256) ≡ low → (x / 256 % 256 == before / 256 % 256) ≡ high →
        v.core.place + size_in (stepping i x rest low high) ≡ end → Onward →
        AllGood (size_in (stepping i x rest low high)) E (paths (stepping i x rest low high) 0 v)
    step_goes true true e f at go = go v (by (nat_lt k i) refl) at
      where
        by : (b : Bool) → nat_lt k i ≡ b → After v
        by true t = stays v (alike v v refl refl refl (λ q. refl) refl refl refl refl) refl t
        by false t = becomes v (alike v v refl refl refl (λ q. refl) refl refl refl refl)
            (λ n. was t n ∙ ap₂ (λ l h. changed (changed u.cells 24 l) 25 h n) (sym (eqb-true (x % 256) (before % 256) e))
            (sym (eqb-true (x / 256 % 256) (before / 256 % 256) f))) t
    step_goes true false e f at go = (
      λ t. (
        inside_one v.core.place (size_in rest) end at inside,
        good_more (1 + (2 + size_in rest)) _ E _ (cost_one (size_in rest))
            (good_bump 1 (2 + size_in rest) E _ (good_bump 2 (size_in rest) E _
            (go _ (stays _ (alike v _ refl refl refl (λ q. refl) refl refl refl refl) refl (sym carry ∙ t)) (end_one v.core.place (size_in rest) end at)))),
      ),
      λ t. good_bump 1 (1 + (1 + size_in rest)) E _ (good_bump 1 (1 + size_in rest) E _ (good_bump 1 (size_in rest) E _
          (go _ (becomes _ (alike v _ refl refl refl (λ q. refl) refl refl refl refl)
          (λ n. high_replaced u.cells v.cells (x % 256) (before / 256 % 256) (x / 256 % 256) n
          (was (sym carry ∙ t) n ∙ ap (λ l. changed (changed u.cells 24 l) 25 (before / 256 % 256) n) (sym (eqb-true (x % 256) (before % 256) e))))
          (sym carry ∙ t)) (end_one v.core.place (size_in rest) end at)))),
    )
    step_goes false true e f at go = (
      λ t. (
        inside_one v.core.place (size_in rest) end at inside,
        good_more (1 + (2 + size_in rest)) _ E _ (cost_one (size_in rest))
            (good_bump 1 (2 + size_in rest) E _ (good_bump 2 (size_in rest) E _
            (go _ (stays _ (alike v _ refl refl refl (λ q. refl) refl refl refl refl) refl (sym carry ∙ t)) (end_one v.core.place (size_in rest) end at)))),
      ),
      λ t. good_bump 1 (1 + (1 + size_in rest)) E _ (good_bump 1 (1 + size_in rest) E _ (good_bump 1 (size_in rest) E _
          (go _ (becomes _ (alike v _ refl refl refl (λ q. refl) refl refl refl refl)
          (λ n. low_replaced u.cells v.cells (before % 256) (x % 256) (x / 256 % 256) n
          (was (sym carry ∙ t) n ∙ ap (λ h. changed (changed u.cells 24 (before % 256)) 25 h n)
          (sym (eqb-true (x / 256 % 256) (before / 256 % 256) f)))) (sym carry ∙ t)) (end_one v.core.place (size_in rest) end at)))),
    )
    step_goes false false e f at go = (
      λ t. (
        inside_two v.core.place (size_in rest) end at inside,
        good_more (1 + (2 + size_in rest)) _ E _ (cost_two (size_in rest))
            (good_bump 1 (2 + size_in rest) E _ (good_bump 2 (size_in rest) E _
            (go _ (stays _ (alike v _ refl refl refl (λ q. refl) refl refl refl refl) refl (sym carry ∙ t)) (skip_two v.core.place (size_in rest) end at)))),
      ),
      λ t. good_bump 1 (1 + (1 + (1 + size_in rest))) E _ (good_bump 1 (1 + (1 + size_in rest)) E _ (good_bump 1 (1 + size_in rest) E _
          (good_bump 1 (size_in rest) E _ (go _ (becomes _ (alike v _ refl refl refl (λ q. refl) refl refl refl refl)
          (λ n. replaced u.cells v.cells (before % 256) (before / 256 % 256) (x % 256) (x / 256 % 256) n (was (sym carry ∙ t) n)) (sym carry ∙ t))
          (take_two v.core.place (size_in rest) end at))))),
    )

  -- from each view in front of the values from i on, where the value before is known
  good : (xs : List ℕ) (i before : ℕ) (v : View) (a r : ℕ) → i + length xs ≤ 256 → Looks u v a → (nat_lt k i ≡ false → a ≡ before) →
      v.core.place + size_in (values_from i before xs) ≡ end → final i xs k a ≡ r → ((w : View) → Looks u w r → w.core.place ≡ end → E w) →
      AllGood (size_in (values_from i before xs)) E (paths (values_from i before xs) 0 v)
  good [] i before v a r le looks known at e ends = (lit≤ tt, ends v (subst (Looks u v) e looks) (add_zero v.core.place ∙ at))
    where
      add_zero : (n : ℕ) → n ≡ n + 0
      add_zero n = omega arith
  good (x ∷ xs) i before v a r le looks known at e ends =
      step_goes i before x a (values_from (i + 1) x xs) v looks known (x % 256 == before % 256) (x / 256 % 256 == before / 256 % 256) refl refl at
      (λ w after at2. good xs (i + 1) x w (if nat_lt k i then a else x) r (small_on i (length xs) le) after
      (λ t. ap (λ b. if b then a else x) (le-ltb k i (let far = ltb-false k (i + 1) t in omega (arith, far)))) at2 e ends)

module _ (board : Board) (lay : Layout) (m : AvrState) (s : Bytes) where
  abbrev Ready : BytePrim → Type 0
  Ready p = IsReady (avr_target board) lay s p

  abbrev Goes : BytePrim → Type 0
  Goes p = Moves (steps_over (avr_step mega16) lay.flash) (StandsAt board lay.places) m (cycle_count board p) s (act lay.code p s false no_reading)

  abbrev tabled_by : List ℕ → Scratch → Store → Bytes
  tabled_by values c d = record s { place = suc s.place; store = plain (with_word d c.left (slice_index_or values (cell d c.outcome) 0)) }

  pub table : (x : ℕ) (xs : List ℕ) (l : ℕ) → Ready (Table (x ∷ xs) l) → slice_index lay.places (suc s.place) < 8192 → StandsAt board lay.places m s →
      Goes (Table (x ∷ xs) l)
  table x xs l ready low st =
      chosen board lay m s p (table_code (x ∷ xs)) tt ready (ap table_code whole) (ap table_code whole) refl refl
      ((lit≤ tt, lit< tt, low_byte x), ((lit≤ tt, lit< tt, high_byte x), all_fit xs 1 x (one_more (length xs) ready.admitted.1))) st
      (λ next v h.
      let rest = size_in (values_from 1 x xs) in
      let E = Ends board lay m s p in
      let v2 : View = moved (record (moved (record v { cells = changed v.cells 24 (x % 256) }) (v.core.place + 1) 1) {
        cells = taking v.cells 24 x;
      }) (v.core.place + 1 + 1) 1 in
      good_bump 1 (1 + rest) E _ (good_bump 1 rest E _
      (good v (cell s.store 30) (slice_index lay.places (suc s.place)) E (h.has.holds.cells 30 r_low) low xs 1 x v2 x
      (slice_index_or (x ∷ xs) (cell s.store 30) 0) (one_more (length xs) ready.admitted.1)
      (record { alike = alike v _ refl refl refl (λ q. refl) refl refl refl refl; cells = λ n. refl }) (λ t. refl)
      (on v.core.place _ _ rest h.at next) (chosen_value x xs (cell s.store 30) (within v h))
      (λ w looks at. record {
        has = subst (λ c. Has board lay.places w (tabled_by (x ∷ xs) c s.store)) (sym h.has.holds.scratch)
            (has_word_by board lay.places v w s looks.alike h.has 24 _ _ (slice_index_or (x ∷ xs) (cell s.store 30) 0) a_low a_high looks.cells refl refl);
        at = at;
      }))))
    where
      p : BytePrim
      p = Table (x ∷ xs) l

      whole : take 256 (x ∷ xs) ≡ x ∷ xs
      whole = take_all 256 (x ∷ xs) ready.admitted.1

      on : (n p q r : ℕ) → n ≡ p → q ≡ p + (1 + (1 + r)) → n + 1 + 1 + r ≡ q
      on n p q r e f = omega (arith, e, f)

      within : (v : View) → ViewStands board lay.places v s → cell s.store 30 < suc (length xs)
      within v h = subst (λ (c : Scratch). cell s.store c.outcome < suc (length xs)) h.has.holds.scratch ready.fits.1
