-- A program calls a routine only where an element of its project counts it.
use Rattle.std.proofs.Common.{◌≡◌, ℕ, zero, suc, ◌≤◌, Bool, true, false, cond, List, [], ◌∷◌, map, refl, arith}
use Rattle.std.proofs.lemmas.Bool.{or_parts}
use Rattle.std.proofs.lemmas.List.Sums.{sum_by-cons, sum_by-append}
use Rattle.std.specs.List.{sum_by, count_by, list_any}
use Rattle.ladder_tree.specs.Leaves.{all_leaves}
use Rattle.ladder_tree.specs.declared.element.CoilMode.{CoilMode}
use Rattle.ladder_tree.specs.declared.element.CoilMode.TheVariants as mode
use Rattle.ladder_tree.specs.declared.element.CompareHow.{CompareHow}
use Rattle.ladder_tree.specs.declared.element.CompareHow.TheVariants.{Equ, Neq, Grt, Geq, Les, Leq}
use Rattle.ladder_tree.specs.declared.element.CounterHow.{CounterHow}
use Rattle.ladder_tree.specs.declared.element.CounterHow.TheVariants.{Ctu, Ctd, Ctc}
use Rattle.ladder_tree.specs.declared.element.Leaf as leaf
use Rattle.ladder_tree.specs.declared.element.LeafKind.{LeafKind}
use Rattle.ladder_tree.specs.declared.element.LeafKind.TheVariants as element
use Rattle.ladder_tree.specs.declared.element.MathHow.{MathHow}
use Rattle.ladder_tree.specs.declared.element.MathHow.TheVariants as math
use Rattle.ladder_tree.specs.declared.element.Operand.{Operand}
use Rattle.ladder_tree.specs.declared.element.Operand.TheVariants.{Var, Num}
use Rattle.ladder_tree.specs.declared.element.TimerHow.{TimerHow}
use Rattle.ladder_tree.specs.declared.element.TimerHow.TheVariants.{Ton, Tof, Rto}
use Rattle.ladder_tree.specs.declared.project.Rung.{Rung}
use Rattle.ladder_rules.specs.Needs.{calls, is_mul, is_div}
use Rattle.int_code.specs.Kinds as kind
use Rattle.int_code.specs.Kinds.{Kind, kinds, kind_of, is_wire, reads_wire, IsWithin}
use Rattle.int_code.specs.Lowered as part
use Rattle.int_code.specs.Lowered.{Part, part_kinds, element_kinds, rise_kinds, moves_kinds, all_parts, parts_of_rungs, allowed}
use Rattle.int_code.specs.declared.op.IntOp.{IntOp}
use Rattle.int_code.specs.declared.op.IntOp.TheVariants as op
use Rattle.int_code.specs.declared.op.BitDest.{BitDest}
use Rattle.int_code.specs.declared.op.BitSource.{BitSource}
use Rattle.byte_code.specs.Lowered.{Entry, Routine, routine_entry}
use Rattle.byte_lower.specs.Listed.{routine_if}
use Rattle.byte_lower.specs.Lists.{calls_product, calls_quotient}
use Rattle.chip_cost.proofs.Parts.{rungs_same}
use Rattle.chip_cost.proofs.Sums.{sum_flat}

-- 1 for each product and quotient of which the test says so
abbrev math_weight : (MathHow → Bool) → Kind → ℕ
math_weight is kind.Mul = cond (is math.Mul) 1 0
math_weight is kind.Div = cond (is math.Div) 1 0
math_weight is x = 0

coil_none : (is : MathHow → Bool) (how : CoilMode) → sum_by (math_weight is) (part.coil_kinds how) ≡ 0
coil_none is mode.Plain = refl
coil_none is mode.Negated = refl
coil_none is mode.Set = refl
coil_none is mode.Reset = refl

timer_none : (is : MathHow → Bool) (how : TimerHow) → sum_by (math_weight is) (part.timer_kinds how) ≡ 0
timer_none is Ton = refl
timer_none is Tof = refl
timer_none is Rto = refl

counter_none : (is : MathHow → Bool) (how : CounterHow) → sum_by (math_weight is) (part.counter_kinds how) ≡ 0
counter_none is Ctu = refl
counter_none is Ctd = refl
counter_none is Ctc = refl

compare_none : (is : MathHow → Bool) (how : CompareHow) → sum_by (math_weight is) (part.compare_kinds how) ≡ 0
compare_none is Equ = refl
compare_none is Neq = refl
compare_none is Grt = refl
compare_none is Geq = refl
compare_none is Les = refl
compare_none is Leq = refl

move_none : (is : MathHow → Bool) (x : Operand) → sum_by (math_weight is) (part.where_kinds (part.move_kind x)) ≡ 0
move_none is (Var name) = refl
move_none is (Num n) = refl

moves_none : (is : MathHow → Bool) (places : ℕ) → sum_by (math_weight is) (moves_kinds places) ≡ 0
moves_none is zero = refl
moves_none is (suc zero) = refl
moves_none is (suc (suc k)) = moves_none is (suc k)

shift_none : (is : MathHow → Bool) (places : ℕ) → sum_by (math_weight is) (rise_kinds (moves_kinds places)) ≡ 0
shift_none is places =
    let tail : List Kind = kind.Fi ∷ kind.Fi ∷ kind.Cpy false true ∷ [] in
    let a = moves_none is places in
    let b = sum_by-append (math_weight is) (moves_kinds places) tail in
    omega (arith, a, b)

math_one : (is : MathHow → Bool) (how : MathHow) → sum_by (math_weight is) (part.where_kinds (part.math_kind how)) ≤ cond (is how) 1 0
math_one is math.Add = by (is math.Add)
  where
    by : (b : Bool) → 0 ≤ cond b 1 0
    by b = omega arith
math_one is math.Sub = by (is math.Sub)
  where
    by : (b : Bool) → 0 ≤ cond b 1 0
    by b = omega arith
math_one is math.Mul = omega arith
math_one is math.Div = omega arith

element_one : (is : MathHow → Bool) (x : LeafKind) → sum_by (math_weight is) (element_kinds x) ≤ cond (calls is x) 1 0
element_one is (element.Coil name how) = let e = coil_none is how in omega (arith, e)
element_one is (element.Timer how name delay) = let e = timer_none is how in omega (arith, e)
element_one is (element.Counter how name max) = let e = counter_none is how in omega (arith, e)
element_one is (element.Move to src) = let e = move_none is src in omega (arith, e)
element_one is (element.Math how to a b) = math_one is how
element_one is (element.Compare how a b) = let e = compare_none is how in omega (arith, e)
element_one is (element.Shift name places) = let e = shift_none is places in omega (arith, e)
element_one is _ = omega arith

abbrev one_if : Bool → ℕ
one_if b = cond b 1 0

off_none : (b : Bool) → b ≡ false → one_if b ≡ 0
off_none true e = absurd (cc)
off_none false e = refl

-- where no element counts it, none is within the public list
none_called : (is : MathHow → Bool) (ls : List leaf.Leaf) → list_any (λ l. calls is l.kind) ls ≡ false →
    sum_by (λ l. sum_by (math_weight is) (element_kinds l.kind)) ls ≡ 0
none_called is [] e = refl
none_called is (l ∷ ls) e =
    let both = or_parts (calls is l.kind) (list_any (λ l. calls is l.kind) ls) e in
    let own = element_one is l.kind in
    let off = off_none (calls is l.kind) both.0 in
    let rest = none_called is ls both.1 in
    let a = sum_by-cons (λ (l : leaf.Leaf). sum_by (math_weight is) (element_kinds l.kind)) l ls in
    omega (arith, own, off, rest, a)

none_allowed : (is : MathHow → Bool) (gs : List Rung) → list_any (λ l. calls is l.kind) (all_leaves gs) ≡ false → sum_by (math_weight is) (allowed gs) ≡ 0
none_allowed is gs e =
    let h : Part → ℕ = λ x. sum_by (math_weight is) (part_kinds x) in
    let a = sum_flat (math_weight is) part_kinds (all_parts gs) in
    let b = sum_by-cons h part.Base (parts_of_rungs gs) in
    let c = rungs_same h refl refl refl gs in
    let d = none_called is (all_leaves gs) e in
    omega (arith, a, b, c, d)

-- operations that pass are no more than their kinds weigh
module _ (passes : IntOp → Bool) (g : Kind → ℕ) (kept : ℕ) (one : (x : IntOp) → cond (passes x) 1 0 ≤ g (kind_of kept x))
    (ifs : (s : BitSource) → passes (op.Ifs s) ≡ false) (ifc : (s : BitSource) → passes (op.Ifc s) ≡ false)
    (put : (b : BitDest) → passes (op.Set b) ≡ false) (clear : (b : BitDest) → passes (op.Clr b) ≡ false) (fi : passes op.Fi ≡ false) where
  three : (x y z : IntOp) (ops : List IntOp) (k : Kind) → passes x ≡ false → passes y ≡ false → passes z ≡ false →
      count_by passes ops ≤ sum_by g (kinds kept ops) → count_by passes (x ∷ y ∷ z ∷ ops) ≤ sum_by g (k ∷ kinds kept ops)
  three x y z ops k e f h is =
      let a = sum_by-cons (λ (q : IntOp). cond (passes q) 1 0) x (y ∷ z ∷ ops) in
      let b = sum_by-cons (λ (q : IntOp). cond (passes q) 1 0) y (z ∷ ops) in
      let c = sum_by-cons (λ (q : IntOp). cond (passes q) 1 0) z ops in
      let d = sum_by-cons g k (kinds kept ops) in
      let i = off_none (passes x) e in
      let j = off_none (passes y) f in
      let l = off_none (passes z) h in
      omega (arith, a, b, c, d, i, j, l, is)

  single : (x : IntOp) (ops : List IntOp) → count_by passes ops ≤ sum_by g (kinds kept ops) →
      count_by passes (x ∷ ops) ≤ sum_by g (kind_of kept x ∷ kinds kept ops)
  single x ops is =
      let a = sum_by-cons (λ (q : IntOp). cond (passes q) 1 0) x ops in
      let d = sum_by-cons g (kind_of kept x) (kinds kept ops) in
      let own = one x in
      omega (arith, a, d, own, is)

  pub passing : (ops : List IntOp) → count_by passes ops ≤ sum_by g (kinds kept ops)
  passing [] = omega arith
  passing (op.Ifs s ∷ op.Set b ∷ op.Fi ∷ ops) =
      three (op.Ifs s) (op.Set b) op.Fi ops (kind.Guarded (reads_wire kept s) (is_wire kept b)) (ifs s) (put b) fi (passing ops)
  passing (op.Ifs s ∷ op.Clr b ∷ op.Fi ∷ ops) =
      three (op.Ifs s) (op.Clr b) op.Fi ops (kind.Guarded (reads_wire kept s) (is_wire kept b)) (ifs s) (clear b) fi (passing ops)
  passing (op.Ifc s ∷ op.Set b ∷ op.Fi ∷ ops) =
      three (op.Ifc s) (op.Set b) op.Fi ops (kind.Guarded (reads_wire kept s) (is_wire kept b)) (ifc s) (put b) fi (passing ops)
  passing (op.Ifc s ∷ op.Clr b ∷ op.Fi ∷ ops) =
      three (op.Ifc s) (op.Clr b) op.Fi ops (kind.Guarded (reads_wire kept s) (is_wire kept b)) (ifc s) (clear b) fi (passing ops)
  passing (x ∷ ops) = single x ops (passing ops)

at_most : (b : Bool) → cond b 1 0 ≤ 1
at_most true = omega arith
at_most false = omega arith

product_one : (kept : ℕ) (x : IntOp) → cond (calls_product x) 1 0 ≤ math_weight is_mul (kind_of kept x)
product_one kept (op.Mul v w u) = at_most (calls_product (op.Mul v w u))
product_one kept _ = omega arith

quotient_one : (kept : ℕ) (x : IntOp) → cond (calls_quotient x) 1 0 ≤ math_weight is_div (kind_of kept x)
quotient_one kept (op.Div v w u) = at_most (calls_quotient (op.Div v w u))
quotient_one kept _ = omega arith

pub no_product : (kept : ℕ) (ops : List IntOp) (gs : List Rung) → IsWithin (kinds kept ops) (allowed gs) →
    list_any (λ l. calls is_mul l.kind) (all_leaves gs) ≡ false →
    count_by calls_product ops ≡ 0
no_product kept ops gs within e =
    let a = passing calls_product (math_weight is_mul) kept (product_one kept) (λ s. refl) (λ s. refl) (λ b. refl) (λ b. refl) refl ops in
    let b = within (math_weight is_mul) in
    let c = none_allowed is_mul gs e in
    omega (arith, a, b, c)

pub no_quotient : (kept : ℕ) (ops : List IntOp) (gs : List Rung) → IsWithin (kinds kept ops) (allowed gs) →
    list_any (λ l. calls is_div l.kind) (all_leaves gs) ≡ false →
    count_by calls_quotient ops ≡ 0
no_quotient kept ops gs within e =
    let a = passing calls_quotient (math_weight is_div) kept (quotient_one kept) (λ s. refl) (λ s. refl) (λ b. refl) (λ b. refl) refl ops in
    let b = within (math_weight is_div) in
    let c = none_allowed is_div gs e in
    omega (arith, a, b, c)

-- a routine weighs no more than its row, which counts where an element calls it
pub routine_few : (f : Entry → ℕ) (r : Routine) (n row : ℕ) (b : Bool) → (b ≡ false → n ≡ 0) → f (routine_entry r) ≤ row →
    sum_by f (map routine_entry (routine_if n r)) ≤ cond b row 0
routine_few f r zero row true none few = omega arith
routine_few f r zero row false none few = omega arith
routine_few f r (suc n) row true none few = omega (arith, few)
routine_few f r (suc n) row false none few = let e = none refl in absurd (omega (arith, e))
