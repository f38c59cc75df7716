-- Bytes of ascending ranges stand at different addresses, each in one of the ranges.
use Rattle.std.proofs.Common.{◌≡◌, ℕ, ◌+◌, ◌-◌, ◌<◌, ◌≤◌, Bool, true, false, ◌&&◌, ◌||◌, cond, List, [], ◌∷◌, Option, Some, None, refl, sym, ap, ◌∙◌, arith}
use Rattle.std.specs.Prelude.{nat_lt, nat_le, IfSome}
use Rattle.std.specs.List.{list_any}
use Rattle.std.proofs.lemmas.Bool.{and_parts, ltb-true, leb-true}
use Rattle.std.proofs.lemmas.Bool.Decides.{nat_tests}
use Rattle.chip_tables.specs.declared.target.Target.{Target}
use Rattle.chip_tables.specs.declared.target.Target.TheVariants.{F628, F877, Mega16, Interp, AnsiC}
use Rattle.chip_tables.specs.declared.memory.Range.{Range}
use Rattle.chip_tables.specs.Memory.{size, byte_at, holds, ram_ranges, ram_address}

-- each range begins above the end of the one before it
abbrev ascends : ℕ → List Range → Bool
ascends floor [] = true
ascends floor (r ∷ rs) = (nat_le floor r.first && nat_le r.first r.last) && ascends (r.last + 1) rs

-- which byte of the ranges stands at the address
abbrev index_of : List Range → ℕ → ℕ
index_of [] a = 0
index_of (r ∷ rs) a = cond (holds a r) (a - r.first) (size r + index_of rs a)

in_range : (a : ℕ) (r : Range) → r.first ≤ a → a ≤ r.last → holds a r ≡ true
in_range a r low high = grind (arith, nat_tests)

above_range : (a : ℕ) (r : Range) → r.last + 1 ≤ a → holds a r ≡ false
above_range a r h = grind (arith, nat_tests)

pub record Stands (rs : List Range) (floor i a : ℕ) : Type 0 where
  pub above : floor ≤ a
  pub index : index_of rs a ≡ i
  pub inside : list_any (holds a) rs ≡ true

here : (r : Range) (rs : List Range) (floor i a : ℕ) → i < size r → floor ≤ r.first → r.first + i ≡ a → Stands (r ∷ rs) floor i a
here r rs floor i a lt low e =
    let test : holds a r ≡ true = in_range a r (omega arith) (omega arith) in
    let minus : a - r.first ≡ i = omega arith in
    record {
      above = omega arith;
      index = ap (λ b. cond b (a - r.first) (size r + index_of rs a)) test ∙ minus;
      inside = ap (λ b. b || list_any (holds a) rs) test;
    }

further : (r : Range) (rs : List Range) (floor i a : ℕ) → size r ≤ i → floor ≤ r.first → r.first ≤ r.last → Stands rs (r.last + 1) (i - size r) a →
    Stands (r ∷ rs) floor i a
further r rs floor i a le low order s =
    let above = s.above in
    let test : holds a r ≡ false = above_range a r above in
    let plus : size r + (i - size r) ≡ i = omega arith in
    record {
      above = omega arith;
      index = ap (λ b. cond b (a - r.first) (size r + index_of rs a)) test ∙ ap (λ n. size r + n) s.index ∙ plus;
      inside = ap (λ b. b || list_any (holds a) rs) test ∙ s.inside;
    }

parts : (r : Range) (rs : List Range) (floor : ℕ) → ascends floor (r ∷ rs) ≡ true → (floor ≤ r.first) × (r.first ≤ r.last) × (ascends (r.last + 1) rs ≡ true)
parts r rs floor t =
    let low = nat_le floor r.first in
    let order = nat_le r.first r.last in
    let both = and_parts (low && order) (ascends (r.last + 1) rs) t in
    let ends = and_parts low order both.0 in
    (leb-true floor r.first ends.0, leb-true r.first r.last ends.1, both.1)

not_below : (i n : ℕ) → nat_lt i n ≡ false → n ≤ i
not_below i n e = grind (arith, nat_tests, e)

stands_by : (r : Range) (rs : List Range) (floor i a : ℕ) (b : Bool) → nat_lt i (size r) ≡ b →
    (ascends (r.last + 1) rs ≡ true → byte_at rs (i - size r) ≡ Some a → Stands rs (r.last + 1) (i - size r) a) → ascends floor (r ∷ rs) ≡ true →
    cond b (Some (r.first + i)) (byte_at rs (i - size r)) ≡ Some a → Stands (r ∷ rs) floor i a
stands_by r rs floor i a true e later t h =
    let bounds = parts r rs floor t in
    let same : r.first + i ≡ a = cc in
    here r rs floor i a (ltb-true i (size r) e) bounds.0 same
stands_by r rs floor i a false e later t h =
    let bounds = parts r rs floor t in
    further r rs floor i a (not_below i (size r) e) bounds.0 bounds.1 (later bounds.2 h)

stands : (rs : List Range) (floor i a : ℕ) → ascends floor rs ≡ true → byte_at rs i ≡ Some a → Stands rs floor i a
stands [] floor i a t h =
    let clash : ⊥ = cc in absurd clash
stands (r ∷ rs) floor i a t h =
    stands_by r rs floor i a (nat_lt i (size r)) refl (stands rs (r.last + 1) (i - size r) a) t h

ram_ascends : (target : Target) → ascends 0 (ram_ranges target) ≡ true
ram_ascends F628 = refl
ram_ascends F877 = refl
ram_ascends Mega16 = refl
ram_ascends Interp = refl
ram_ascends AnsiC = refl

at_address : (target : Target) (i a : ℕ) → ram_address target i ≡ Some a → Stands (ram_ranges target) 0 i a
at_address target i a h = stands (ram_ranges target) 0 i a (ram_ascends target) h

pub inside : (target : Target) (i : ℕ) (o : Option ℕ) → o ≡ ram_address target i → IfSome o (λ a. list_any (holds a) (ram_ranges target) ≡ true)
inside target i None e = tt
inside target i (Some a) e = (at_address target i a (sym e)).inside

pub alone : (target : Target) (i : ℕ) (o : Option ℕ) → o ≡ ram_address target i → IfSome o (λ a. (other : ℕ) → ram_address target other ≡ Some a → other ≡ i)
alone target i None e = tt
alone target i (Some a) e = λ other h.
    let this = (at_address target i a (sym e)).index in
    let that = (at_address target other a h).index in
    sym that ∙ this
