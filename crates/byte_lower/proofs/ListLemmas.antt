-- The lists of operations as the loop over them appends them.
use Rattle.std.proofs.Common.{◌≡◌, ℕ, zero, suc, ◌+◌, ◌<◌, List, [], ◌∷◌, ◌++◌, drop, length, Some, None, false, refl, sym, ap, ◌∙◌, arith, append_assoc, add-one}
use Rattle.std.specs.Prelude.{slice_get, All}
use Rattle.std.proofs.lemmas.List.Elements.{All-head, All-tail}
use Rattle.int_code.specs.Shapes.{shape_of}
use Rattle.int_code.specs.WellFormed.{IsDest, IsSource, IsInRange}
use Rattle.int_code.specs.declared.op.IntOp.{IntOp}
use Rattle.byte_code.specs.declared.prim.Paced.{Paced}
use Rattle.byte_lower.proofs.WalkLemmas.{guard_facts}
use Rattle.byte_lower.specs.Code.{if_called}
use Rattle.byte_lower.specs.Layout.{room_of}
use Rattle.byte_lower.specs.Lists.{label_of, list_of, lists_of, top_of, labels_behind, guard_of, put_where, joined}
use Rattle.byte_lower.specs.declared.guard.Guard.{Guard}
use Rattle.byte_lower.specs.declared.layout.Layout.{Layout}

dropped : (ops : List IntOp) (k : ℕ) (op : IntOp) → slice_get ops k ≡ Some op → drop k ops ≡ op ∷ drop (suc k) ops
dropped [] k op e = absurd (cc)
dropped (x ∷ ops) zero op e = let f : x ≡ op = cc in ap (λ y. y ∷ ops) f
dropped (x ∷ ops) (suc k) op e = dropped ops k op e

dropped_next : (ops : List IntOp) (k : ℕ) (op : IntOp) (rest : List IntOp) → drop k ops ≡ op ∷ rest → drop (k + 1) ops ≡ rest
dropped_next ops k op rest e = ap (λ n. drop n ops) (add-one k) ∙ next ops k e
  where
    next : (xs : List IntOp) (n : ℕ) → drop n xs ≡ op ∷ rest → drop (suc n) xs ≡ rest
    next [] zero f = absurd (cc)
    next [] (suc n) f = absurd (cc)
    next (x ∷ xs) zero f = cc
    next (x ∷ xs) (suc n) f = next xs n f

some_dropped : (ops : List IntOp) (k : ℕ) → k < length ops → (op : IntOp) × (rest : List IntOp) × (drop k ops ≡ op ∷ rest)
some_dropped [] k h = absurd (omega (arith, h))
some_dropped (x ∷ ops) zero h = (x, ops, refl)
some_dropped (x ∷ ops) (suc k) h = some_dropped ops k (omega (arith, h))

pub none_called : (routine : ℕ → List Paced) (calls : ℕ) → (0 < calls → ⊥) → if_called routine calls ≡ []
none_called routine zero h = refl
none_called routine (suc calls) h = absurd (h (omega arith))

pub some_called : (routine : ℕ → List Paced) (calls : ℕ) → 0 < calls → if_called routine calls ≡ routine calls
some_called routine zero h = absurd (omega (arith, h))
some_called routine (suc calls) h = refl

next_number : (k : ℕ) → k + 1 + 5 ≡ suc (k + 5)
next_number k = omega arith

-- an operation that stands in an earlier list
pub pass_step : (o : Layout) (ops : List IntOp) (k passed : ℕ) (labels : List ℕ) → k < length ops →
    lists_of o passed (drop (k + 1) ops) (k + 1 + 5) labels ≡ lists_of o (suc passed) (drop k ops) (k + 5) labels
pass_step o ops k passed labels h =
    let d = some_dropped ops k h in
    ap (λ xs. lists_of o passed xs (k + 1 + 5) labels) (dropped_next ops k d.0 d.1 d.2) ∙ ap (λ n. lists_of o passed d.1 n labels) (next_number k)
    ∙ sym (ap (λ xs. lists_of o (suc passed) xs (k + 5) labels) d.2)

-- one that begins an if that is one primitive
put_by : (o : Layout) (xs rest : List IntOp) (k : ℕ) (labels : List ℕ) (g : Guard) → guard_of xs ≡ Some g → (op : IntOp) → xs ≡ op ∷ rest →
    lists_of o 0 xs k labels ≡ put_where o g ∷ lists_of o 2 rest (suc k) labels
put_by o xs rest k labels g e op f =
    ap (λ ys. lists_of o 0 ys k labels) f
    ∙ ap (λ x. joined x (λ q. put_where o q ∷ lists_of o 2 rest (suc k) labels) (list_of o op (label_of k) (top_of labels) ++ lists_of o 0 rest (suc k)
    (labels_behind (shape_of op) k labels)))
    (ap guard_of (sym f) ∙ e)

pub put_step : (o : Layout) (ops : List IntOp) (k : ℕ) (labels : List ℕ) (g : Guard) (new old : List Paced) → k < length ops → guard_of (drop k ops) ≡ Some g →
    new ≡ old ++ put_where o g ∷ [] →
    new ++ lists_of o 2 (drop (k + 1) ops) (k + 1 + 5) labels ≡ old ++ lists_of o 0 (drop k ops) (k + 5) labels
put_step o ops k labels g new old h e f =
    let d = some_dropped ops k h in
    ap (λ n. n ++ lists_of o 2 (drop (k + 1) ops) (k + 1 + 5) labels) f ∙ append_assoc old (put_where o g ∷ []) (lists_of o 2 (drop (k + 1) ops) (k + 1 + 5) labels)
    ∙ ap (λ xs. old ++ put_where o g ∷ lists_of o 2 xs (k + 1 + 5) labels) (dropped_next ops k d.0 d.1 d.2)
    ∙ ap (λ n. old ++ put_where o g ∷ lists_of o 2 d.1 n labels) (next_number k)
    ∙ ap (λ xs. old ++ xs) (sym (put_by o (drop k ops) d.1 (k + 5) labels g e d.0 d.2))

-- and one with a list of its own
pub list_step : (o : Layout) (ops : List IntOp) (k : ℕ) (op : IntOp) (labels labels1 : List ℕ) (new old : List Paced) → slice_get ops k ≡ Some op →
    guard_of (drop k ops) ≡ None →
    new ≡ old ++ list_of o op (k + 1 + 5) (top_of labels) → labels1 ≡ labels_behind (shape_of op) (k + 5) labels →
    new ++ lists_of o 0 (drop (k + 1) ops) (k + 1 + 5) labels1 ≡ old ++ lists_of o 0 (drop k ops) (k + 5) labels
list_step o ops k op labels labels1 new old at none e f =
    let is = dropped ops k op at in
    let rest = drop (suc k) ops in
    let behind = labels_behind (shape_of op) (k + 5) labels in
    ap (λ n. n ++ lists_of o 0 (drop (k + 1) ops) (k + 1 + 5) labels1) e ∙ append_assoc old (list_of o op (k + 1 + 5) (top_of labels))
    (lists_of o 0 (drop (k + 1) ops) (k + 1 + 5) labels1)
    ∙ ap (λ xs. old ++ (list_of o op (k + 1 + 5) (top_of labels) ++ lists_of o 0 xs (k + 1 + 5) labels1)) (dropped_next ops k op rest is)
    ∙ ap (λ ls. old ++ (list_of o op (k + 1 + 5) (top_of labels) ++ lists_of o 0 rest (k + 1 + 5) ls)) f
    ∙ ap (λ n. old ++ (list_of o op n (top_of labels) ++ lists_of o 0 rest n behind)) (next_number k)
    ∙ ap (λ xs. old ++ xs) (sym (ap (λ ys. lists_of o 0 ys (k + 5) labels) is
    ∙ ap (λ x. joined x (λ q. put_where o q ∷ lists_of o 2 rest (suc (k + 5)) labels) (list_of o op (label_of (k + 5)) (top_of labels) ++ lists_of o 0 rest (suc (k + 5))
    behind)) (ap guard_of (sym is) ∙ none)))

-- the bits of such an if are in range
pub guard_ranges : (o : Layout) (ops : List IntOp) (g : Guard) → guard_of ops ≡ Some g → All (IsInRange (room_of o)) ops → IsSource (room_of o) g.from × IsDest
    (room_of o) g.to
guard_ranges o [] g e h = absurd (cc)
guard_ranges o (x ∷ []) g e h = absurd (cc)
guard_ranges o (x ∷ y ∷ []) g e h = absurd (cc)
guard_ranges o (x ∷ y ∷ z ∷ ops) g e h =
    let f = guard_facts o (record { inputs = []; analog = []; rx = None; tx_busy = false; ee_busy = false }) x y z g e in (
      f.source (All-head (IsInRange (room_of o)) x (y ∷ z ∷ ops) h),
      f.dest (All-head (IsInRange (room_of o)) y (z ∷ ops)
          (All-tail (IsInRange (room_of o)) x (y ∷ z ∷ ops) h)),
    )

in_range_from : (o : Layout) (ops : List IntOp) (k : ℕ) → All (IsInRange (room_of o)) ops → All (IsInRange (room_of o)) (drop k ops)
in_range_from o ops zero h = h
in_range_from o [] (suc k) h = h
in_range_from o (x ∷ ops) (suc k) h = in_range_from o ops k (All-tail (IsInRange (room_of o)) x ops h)

pub guard_places : (o : Layout) (ops : List IntOp) (k : ℕ) (g : Guard) → guard_of (drop k ops) ≡ Some g → All (IsInRange (room_of o)) ops →
    IsSource (room_of o) g.from × IsDest (room_of o) g.to
guard_places o ops k g e h = guard_ranges o (drop k ops) g e (in_range_from o ops k h)
