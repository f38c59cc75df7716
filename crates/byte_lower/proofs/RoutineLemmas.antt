-- The routines behind the jump back: where they stand, and that each is begun as often at most as its calls begin it.
use Rattle.std.proofs.Common.{◌≡◌, ℕ, zero, suc, ◌+◌, ◌-◌, ◌*◌, ◌<◌, ◌≤◌, inl, inr, Bool, true, false, cond, List, [], ◌∷◌, ◌++◌, drop, length, Option, Some, None, ℤ, pos, refl, sym, ap, subst, ◌∙◌, arith, append-nil}
use Rattle.std.specs.Prelude.{◌⊎◌, count_by, nat_lt, slice_get, if◌then◌else◌, ◌==◌}
use Rattle.std.specs.Ordering.{int_eq}
use Rattle.std.proofs.lemmas.Bool.Decides.{nat_tests}
use Rattle.chip_tables.specs.declared.scratch.Scratch.{Scratch}
use Rattle.int_code.specs.Shapes.{shape_of}
use Rattle.int_code.specs.declared.op.IntOp.{IntOp}
use Rattle.int_code.specs.declared.op.IntOp.TheVariants.{Mul, Div}
use Rattle.int_code.specs.declared.op.IntProgram.{IntProgram}
use Rattle.int_code.specs.declared.op.NumSource.{NumSource}
use Rattle.int_code.specs.declared.op.NumSource.TheVariants.{V, N}
use Rattle.byte_code.specs.declared.prim.BytePrim.TheVariants.{Label, Call}
use Rattle.byte_code.specs.declared.prim.Paced.{Paced}
use Rattle.byte_code.specs.declared.prim.Shape.{Shape}
use Rattle.byte_code.specs.declared.prim.Shape.TheVariants.{AtStart, AtPoll, AtDevice, Names, Jumps, Branches, Calls, Returns, Straight}
use Rattle.byte_code.specs.Machine.{label_place}
use Rattle.byte_code.specs.Table as table
use Rattle.target_core.specs.Law.{named_in}
use Rattle.byte_routines.proofs.CallLemmas.{up_is, all_at}
use Rattle.byte_routines.proofs.CostLemmas.{product_costs, quotient_costs, cost_of, cost_at, cost_before, cost_up}
use Rattle.byte_routines.proofs.GoLemmas.{up, place_of}
use Rattle.byte_routines.specs.Routines.{begun, multiply, divide}
use Rattle.byte_lower.proofs.CallLemmas.{Serves}
use Rattle.byte_lower.proofs.CodeLemmas.{Every, every_on, IsNoPoll, along_is}
use Rattle.byte_lower.proofs.ListLemmas.{some_called}
use Rattle.byte_lower.proofs.NameLemmas.{IsCalledBy, NamedBy, named_by, count_more, behind_jump, once_1, once_2, once_3, once_4, once_5, asks_products, asks_quotients, place_is}
use Rattle.byte_lower.proofs.RouteLemmas.{along, beyond, costs_of, owed_by, owed}
use Rattle.byte_lower.specs.Code.{CanPlace, booted, start_values, if_called, code_of}
use Rattle.byte_lower.specs.Layout.{own_cells}
use Rattle.byte_lower.specs.Lists.{paced, product, quotient, calls_product, calls_quotient, move, number, label_of, list_of, lists_of, top_of, labels_behind, guard_of, put_where, joined}
use Rattle.byte_lower.specs.declared.guard.Guard.{Guard}
use Rattle.byte_lower.specs.declared.layout.Layout.{Layout}

-- a number, so many times
abbrev pub repeated : ℕ → ℕ → ℕ
repeated zero a = 0
repeated (suc n) a = a + repeated n a

repeated_none : (n a : ℕ) → (0 < n → a ≡ 0) → repeated n a ≡ 0
repeated_none zero a h = refl
repeated_none (suc n) a h = omega (arith, h (omega arith), repeated_none n a (λ k. h (omega arith)))

repeated_same : (n a b : ℕ) → (0 < n → a ≡ b) → repeated n a ≡ repeated n b
repeated_same zero a b h = refl
repeated_same (suc n) a b h = ap (λ x. repeated (suc n) x) (h (omega arith))

repeated_1 : (n : ℕ) → repeated n 1 ≡ n
repeated_1 zero = refl
repeated_1 (suc n) = omega (arith, repeated_1 n)

repeated_8 : (n : ℕ) → repeated n 8 ≡ n * 8
repeated_8 zero = refl
repeated_8 (suc n) = omega (arith, repeated_8 n)

repeated_16 : (n : ℕ) → repeated n 16 ≡ n * 16
repeated_16 zero = refl
repeated_16 (suc n) = omega (arith, repeated_16 n)

repeated_if : (b : Bool) (n a : ℕ) → repeated (cond b 1 0 + n) a ≡ (if b then a else 0) + repeated n a
repeated_if true n a = let e : 1 + n ≡ suc n = omega arith in ap (λ k. repeated k a) e
repeated_if false n a = let e : 0 + n ≡ n = omega arith in ap (λ k. repeated k a) e ∙ omega arith

-- each primitive of a routine is begun no more often than it says, by so many calls
module _ (s : Scratch) where
  product_turns : (m k : ℕ) (q : Paced) → slice_get (if_called (multiply s) m) k ≡ Some q → repeated m (cost_of product_costs k) ≤ q.turns
  product_turns zero k q e = absurd (cc)
  product_turns (suc m) k q e =
      let one : repeated (suc m) 1 ≤ suc m = omega (arith, repeated_1 (suc m)) in
      let eight : repeated (suc m) 8 ≤ suc m * 8 = omega (arith, repeated_8 (suc m)) in
      all_at (λ j p. repeated (suc m) (cost_of product_costs j) ≤ p.turns) (multiply s (suc m))
      (one, (one, (one, (eight, (eight, (eight, (one, tt))))))) k q e

  quotient_turns : (d k : ℕ) (q : Paced) → slice_get (if_called (divide s) d) k ≡ Some q → repeated d (cost_of quotient_costs k) ≤ q.turns
  quotient_turns zero k q e = absurd (cc)
  quotient_turns (suc d) k q e =
      let one : repeated (suc d) 1 ≤ suc d = omega (arith, repeated_1 (suc d)) in
      let many : repeated (suc d) 16 ≤ suc d * 16 = omega (arith, repeated_16 (suc d)) in
      all_at (λ j p. repeated (suc d) (cost_of quotient_costs j) ≤ p.turns) (divide s (suc d))
      (one, (one, (one, (one, (one, (one, (one, (one, (many, (many, (many, (one, (one, (one, (one, (one, tt)))))))))))))))) k q e

  product_ends : (m at : ℕ) → 0 < m → along at (if_called (multiply s) m) ≡ 7 + at
  product_ends zero at h = absurd (omega (arith, h))
  product_ends (suc m) at h = omega arith

  multiply_waits : (m : ℕ) → Every IsNoPoll (if_called (multiply s) m)
  multiply_waits zero = tt
  multiply_waits (suc m) = (
    λ e. absurd (cc e),
    ((λ e. absurd (cc e)), ((λ e. absurd (cc e)), ((λ e. absurd (cc e)), ((λ e. absurd (cc e)), ((λ e. absurd (cc e)), ((λ e. absurd (cc e)), tt)))))),
  )

  divide_waits : (d : ℕ) → Every IsNoPoll (if_called (divide s) d)
  divide_waits zero = tt
  divide_waits (suc d) =
      ((λ e. absurd (cc e)), ((λ e. absurd (cc e)), ((λ e. absurd (cc e)), ((λ e. absurd (cc e)), ((λ e. absurd (cc e)), ((λ e. absurd (cc e)), ((λ e. absurd (cc e)), ((λ e. absurd (cc e)), ((λ e. absurd (cc e)), ((λ e. absurd (cc e)), ((λ e. absurd (cc e)), ((λ e. absurd (cc e)), ((λ e. absurd (cc e)), ((λ e. absurd (cc e)), ((λ e. absurd (cc e)), ((λ e. absurd (cc e)), tt))))))))))))))))

  pub routines_wait : (m d : ℕ) → Every IsNoPoll (behind_jump s m d)
  routines_wait m d = every_on IsNoPoll (if_called (multiply s) m) (if_called (divide s) d) (multiply_waits m) (divide_waits d)

cost_past : (costs : List ℕ) (k : ℕ) → length costs ≤ k → cost_of costs k ≡ 0
cost_past [] k h = refl
cost_past (c ∷ costs) zero h = absurd (omega (arith, h))
cost_past (c ∷ costs) (suc k) h = cost_past costs k (omega (arith, h))

if_same : (b : Bool) (n : ℕ) → (if b then n else n) ≡ n
if_same true n = refl
if_same false n = refl

cost_none : (at i : ℕ) → cost_at [] at i ≡ 0
cost_none at i = if_same (nat_lt i at) 0

pub slice_drop : (xs : List Paced) (n k : ℕ) → slice_get xs (n + k) ≡ slice_get (drop n xs) k
slice_drop xs zero k = let e : 0 + k ≡ k = omega arith in ap (slice_get xs) e
slice_drop [] (suc n) k = refl
slice_drop (x ∷ xs) (suc n) k = let e : suc n + k ≡ suc (n + k) = omega arith in ap (slice_get (x ∷ xs)) e ∙ slice_drop xs n k

in_left : (at : ℕ) (xs ys : List Paced) (k : ℕ) (q : Paced) → at + k < along at xs → slice_get (xs ++ ys) k ≡ Some q → slice_get xs k ≡ Some q
in_left at [] ys k q lt e = absurd (omega (arith, lt))
in_left at (x ∷ xs) ys zero q lt e = e
in_left at (x ∷ xs) ys (suc k) q lt e =
    let f : suc at + k ≡ at + suc k = omega arith in
    in_left (suc at) xs ys k q (subst (λ n. n < along (suc at) xs) (sym f) lt) e

-- a call is owed by no list of an operation that calls nothing
module _ (code : List Paced) (i : ℕ) where
  owes_shape : (op : IntOp) (k : ℕ) → 5 ≤ k → calls_product op ≡ false → calls_quotient op ≡ false → (h : Shape) →
      ((l : ℕ) → named_in h ≡ Some l → (l ≡ suc k) ⊎ IsCalledBy op l) → owed_by code h i ≡ 0
  owes_shape op k past no_product no_quotient (Calls l) named = by (named l refl)
    where
      by : (l ≡ suc k) ⊎ IsCalledBy op l → cost_at (costs_of l) (label_place code l) i ≡ 0
      by (inl e) =
          let one : (l == 1) ≡ false = let f : 5 < l = omega (arith, e, past) in grind (arith, nat_tests, f) in
          let three : (l == 3) ≡ false = let f : 5 < l = omega (arith, e, past) in grind (arith, nat_tests, f) in
          ap (λ b. cost_at (if b then product_costs else if l == 3 then quotient_costs else []) (label_place code l) i) one
          ∙ ap (λ b. cost_at (if b then quotient_costs else []) (label_place code l) i) three ∙ cost_none (label_place code l) i
      by (inr (inl h)) = absurd (cc (no_product, h.1))
      by (inr (inr h)) = absurd (cc (no_quotient, h.1))
  owes_shape op k past no_product no_quotient AtStart named = refl
  owes_shape op k past no_product no_quotient AtPoll named = refl
  owes_shape op k past no_product no_quotient AtDevice named = refl
  owes_shape op k past no_product no_quotient (Names l) named = refl
  owes_shape op k past no_product no_quotient (Jumps l) named = refl
  owes_shape op k past no_product no_quotient (Branches l) named = refl
  owes_shape op k past no_product no_quotient Returns named = refl
  owes_shape op k past no_product no_quotient Straight named = refl

  owes_none : (op : IntOp) (k : ℕ) → 5 ≤ k → calls_product op ≡ false → calls_quotient op ≡ false → (ps : List Paced) → Every (NamedBy op (suc k)) ps →
      owed code ps i ≡ 0
  owes_none op k past no_product no_quotient [] h = refl
  owes_none op k past no_product no_quotient (p ∷ ps) h =
      omega (arith, owes_shape op k past no_product no_quotient (table.shape_of p.prim) h.0, owes_none op k past no_product no_quotient ps h.1)

  pub owed_on : (ps qs : List Paced) → owed code (ps ++ qs) i ≡ owed code ps i + owed code qs i
  owed_on [] qs = omega arith
  owed_on (p ∷ ps) qs = omega (arith, owed_on ps qs)

  pub starts_owe : (o : Layout) (ns : List ℤ) (v : ℕ) → owed code (start_values o ns v) i ≡ 0
  starts_owe o [] v = refl
  starts_owe o (n ∷ ns) v = by (int_eq n (pos 0)) (start_values o ns (suc v)) (starts_owe o ns (suc v))
    where
      by : (b : Bool) (ps : List Paced) → owed code ps i ≡ 0 → owed code (if b then ps else booted (move o v (number n)) ∷ ps) i ≡ 0
      by true ps h = h
      by false ps h = omega (arith, h)

  -- what a call of each routine begins of this place
  abbrev of_product : ℕ
  of_product = cost_at product_costs (label_place code 1) i

  abbrev of_quotient : ℕ
  of_quotient = cost_at quotient_costs (label_place code 3) i

  product_owes : (o : Layout) (v : ℕ) (w u : NumSource) → owed code (product o v w u) i ≡ (if calls_product (Mul v w u) then of_product else 0)
  product_owes o v (N n) (N m) = omega arith
  product_owes o v (N n) (V b) = omega arith
  product_owes o v (V a) u = omega arith

  quotient_owes : (o : Layout) (v : ℕ) (w u : NumSource) → owed code (quotient o v w u) i ≡ (if calls_quotient (Div v w u) then of_quotient else 0)
  quotient_owes o v (N n) (N m) = omega arith
  quotient_owes o v (N n) (V b) = omega arith
  quotient_owes o v (V a) u = omega arith

  abbrev OpOwes : Layout → IntOp → ℕ → ℕ → Type 0
  OpOwes o op k top = owed code (list_of o op (suc k) top) i ≡ (if calls_product op then of_product else 0) + (if calls_quotient op then of_quotient else 0)

  list_owes : (o : Layout) (op : IntOp) (k top : ℕ) → 5 ≤ k → OpOwes o op k top
  list_owes o (Mul v w u) k top past = omega (arith, product_owes o v w u)
  list_owes o (Div v w u) k top past = omega (arith, quotient_owes o v w u)
  list_owes o op k top past = owes_none op k past refl refl (list_of o op (suc k) top) (named_by o op (suc k) top)

  -- of the operations, by how many of them call
  abbrev pub owes : List IntOp → ℕ
  owes ops = repeated (count_by calls_product ops) of_product + repeated (count_by calls_quotient ops) of_quotient

  owes_more : (op : IntOp) (ops : List IntOp) →
      owes (op ∷ ops) ≡ (if calls_product op then of_product else 0) + (if calls_quotient op then of_quotient else 0) + owes ops
  owes_more op ops =
      let one = ap (λ n. repeated n of_product) (count_more calls_product op ops) ∙ repeated_if (calls_product op) (count_by calls_product ops) of_product in
      let two = ap (λ n. repeated n of_quotient) (count_more calls_quotient op ops) ∙ repeated_if (calls_quotient op) (count_by calls_quotient ops) of_quotient in
      omega (arith, one, two)

  joined_owes : (most : ℕ) (x : Option Guard) (one : Guard → List Paced) (list : List Paced) → ((g : Guard) → owed code (one g) i ≤ most) → owed code list i ≤ most →
      owed code (joined x one list) i ≤ most
  joined_owes most (Some g) one list h f = h g
  joined_owes most None one list h f = f

  pub lists_owe : (o : Layout) (passed : ℕ) (ops : List IntOp) (k : ℕ) (labels : List ℕ) → 5 ≤ k → owed code (lists_of o passed ops k labels) i ≤ owes ops
  lists_owe o zero [] k labels past = omega arith
  lists_owe o (suc passed) [] k labels past = omega arith
  lists_owe o (suc passed) (op ∷ ops) k labels past = omega (arith, lists_owe o passed ops (suc k) labels (omega (arith, past)), owes_more op ops)
  lists_owe o zero (op ∷ ops) k labels past =
      joined_owes (owes (op ∷ ops)) (guard_of (op ∷ ops)) (λ g. put_where o g ∷ lists_of o 2 ops (suc k) labels)
      (list_of o op (label_of k) (top_of labels) ++ lists_of o zero ops (suc k) (labels_behind (shape_of op) k labels))
      (λ g. omega (arith, lists_owe o 2 ops (suc k) labels (omega (arith, past)), owes_more op ops))
      (omega (
        arith,
        owed_on (list_of o op (label_of k) (top_of labels)) (lists_of o zero ops (suc k) (labels_behind (shape_of op) k labels)),
        list_owes o op k (top_of labels) past,
        lists_owe o zero ops (suc k) (labels_behind (shape_of op) k labels) (omega (arith, past)),
        owes_more op ops,
      ))

-- the routines of a program's code
module _ (o : Layout) (p : IntProgram) (can : CanPlace o p) (at : ℕ)
    (ahead : drop at (code_of o p) ≡ behind_jump (own_cells o.plan.target) (count_by calls_product p.ops) (count_by calls_quotient p.ops)) where
  abbrev code : List Paced
  code = code_of o p

  abbrev own : Scratch
  own = own_cells o.plan.target

  abbrev products : ℕ
  products = count_by calls_product p.ops

  abbrev quotients : ℕ
  quotients = count_by calls_quotient p.ops

  abbrev first_list : List Paced
  first_list = if_called (multiply own) products

  abbrev second_list : List Paced
  second_list = if_called (divide own) quotients

  product_list : 0 < products → drop at code ≡ multiply own products ++ second_list
  product_list h = ahead ∙ ap (λ xs. xs ++ second_list) (some_called (multiply own) products h)

  quotient_list : 0 < quotients → drop (along at first_list) code ≡ divide own quotients ++ []
  quotient_list h = beyond code at first_list second_list ahead ∙ some_called (divide own) quotients h ∙ sym (append-nil (divide own quotients))

  place_1 : 0 < products → label_place code 1 ≡ at
  place_1 h =
      place_is o p can 1 at (begun products (Label 1)) (once_1 o p can h)
      (place_of code at 0 (multiply own products) second_list (begun products (Label 1)) (product_list h) refl) refl

  place_2 : 0 < products → label_place code 2 ≡ up 3 at
  place_2 h =
      place_is o p can 2 (up 3 at) (begun (products * 8) (Label 2)) (once_2 o p can h)
      (place_of code at 3 (multiply own products) second_list (begun (products * 8) (Label 2)) (product_list h) refl) refl

  place_3 : 0 < quotients → label_place code 3 ≡ along at first_list
  place_3 h =
      place_is o p can 3 (along at first_list) (begun quotients (Label 3)) (once_3 o p can h)
      (place_of code (along at first_list) 0 (divide own quotients) [] (begun quotients (Label 3)) (quotient_list h) refl) refl

  place_4 : 0 < quotients → label_place code 4 ≡ up 8 (along at first_list)
  place_4 h =
      place_is o p can 4 (up 8 (along at first_list)) (begun (quotients * 16) (Label 4)) (once_4 o p can h)
      (place_of code (along at first_list) 8 (divide own quotients) [] (begun (quotients * 16) (Label 4)) (quotient_list h) refl) refl

  place_5 : 0 < quotients → label_place code 5 ≡ up 13 (along at first_list)
  place_5 h =
      place_is o p can 5 (up 13 (along at first_list)) (begun quotients (Label 5)) (once_5 o p can h)
      (place_of code (along at first_list) 13 (divide own quotients) [] (begun quotients (Label 5)) (quotient_list h) refl) refl

  pub served : Serves code own
  served = record {
    products = λ i e.
        let h = asks_products o p can i (paced (Call 1)) e refl in
        record {
          calls = products;
          rest = second_list;
          ahead = subst (λ n. drop n code ≡ multiply own products ++ second_list) (sym (place_1 h)) (product_list h);
          loop_is = omega (arith, place_1 h, place_2 h, up_is 3 at);
        };
    quotients = λ i e.
        let h = asks_quotients o p can i (paced (Call 3)) e refl in
        record {
          calls = quotients;
          rest = [];
          ahead = subst (λ n. drop n code ≡ divide own quotients ++ []) (sym (place_3 h)) (quotient_list h);
          loop_is = omega (arith, place_3 h, place_4 h, up_is 8 (along at first_list));
          zero_is = omega (arith, place_3 h, place_5 h, up_is 13 (along at first_list));
        };
  }

  -- calls begin nothing in front of the routines
  pub owes_before : (i : ℕ) → i < at → owes code i p.ops ≡ 0
  owes_before i lt =
      let far : at ≤ along at first_list = (along_is at first_list).0 in
      let one = repeated_none products (of_product code i) (λ h. cost_before product_costs (label_place code 1) i (omega (arith, place_1 h, lt))) in
      let two = repeated_none quotients (of_quotient code i) (λ h. cost_before quotient_costs (label_place code 3) i (omega (arith, place_3 h, lt, far))) in
      omega (arith, one, two)

  cost_there : (costs : List ℕ) (from i : ℕ) → from ≤ i → cost_at costs from i ≡ cost_of costs (i - from)
  cost_there costs from i le = let e : i - from + from ≡ i = omega (arith, le) in ap (cost_at costs from) (sym e) ∙ cost_up costs from (i - from)

  in_first : (i : ℕ) (q : Paced) → at ≤ i → i < along at first_list → slice_get code i ≡ Some q → owes code i p.ops ≤ q.turns
  in_first i q le lt e =
      let is : at + (i - at) ≡ i = omega (arith, le) in
      let there : slice_get first_list (i - at) ≡ Some q =
      in_left at first_list second_list (i - at) q (subst (λ n. n < along at first_list) (sym is) lt)
      (sym (ap (λ xs. slice_get xs (i - at)) ahead) ∙ sym (slice_drop code at (i - at)) ∙ ap (slice_get code) is ∙ e) in
      let one = repeated_same products (of_product code i) (cost_of product_costs (i - at))
      (λ h. ap (λ n. cost_at product_costs n i) (place_1 h) ∙ cost_there product_costs at i le) in
      let two = repeated_none quotients (of_quotient code i) (λ h. cost_before quotient_costs (label_place code 3) i (omega (arith, place_3 h, lt))) in
      omega (arith, one, two, product_turns own products (i - at) q there)

  in_second : (i : ℕ) (q : Paced) → along at first_list ≤ i → slice_get code i ≡ Some q → owes code i p.ops ≤ q.turns
  in_second i q le e =
      let is : along at first_list + (i - along at first_list) ≡ i = omega (arith, le) in
      let there : slice_get second_list (i - along at first_list) ≡ Some q =
      sym (ap (λ xs. slice_get xs (i - along at first_list)) (beyond code at first_list second_list ahead)) ∙ sym (slice_drop code (along at first_list)
      (i - along at first_list)) ∙ ap (slice_get code) is ∙ e in
      let past : (h : 0 < products) → of_product code i ≡ 0 = λ h.
      ap (λ n. cost_at product_costs n i) (place_1 h) ∙ cost_there product_costs at i (omega (arith, le, product_ends own products at h))
      ∙ cost_past product_costs (i - at) (omega (arith, le, product_ends own products at h)) in
      let one = repeated_none products (of_product code i) past in
      let two = repeated_same quotients (of_quotient code i) (cost_of quotient_costs (i - along at first_list))
      (λ h. ap (λ n. cost_at quotient_costs n i) (place_3 h) ∙ cost_there quotient_costs (along at first_list) i le) in
      omega (arith, one, two, quotient_turns own quotients (i - along at first_list) q there)

  -- nor begin a routine's places more often than these say
  pub owes_within : (i : ℕ) (q : Paced) → at ≤ i → slice_get code i ≡ Some q → owes code i p.ops ≤ q.turns
  owes_within i q le e = by (nat_lt i (along at first_list)) refl
    where
      by : (b : Bool) → nat_lt i (along at first_list) ≡ b → owes code i p.ops ≤ q.turns
      by true f = in_first i q le (grind (arith, nat_tests, f)) e
      by false f = in_second i q (grind (arith, nat_tests, f)) e
