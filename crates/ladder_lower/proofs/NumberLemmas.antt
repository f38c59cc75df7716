-- Elements that compute numbers where there is power, and comparisons.
use Rattle.std.proofs.Common.{◌≡◌, ℕ, ◌&&◌, not, true, cond, List, [], ◌∷◌, ◌++◌, Option, Some, None, refl, arith}
use Rattle.std.proofs.lemmas.Int.{ints}
use Rattle.std.specs.Prelude.{ℤ, int_lt, int_le}
use Rattle.std.specs.Ordering.{int_eq}
use Rattle.ladder_tree.specs.Names.{operand_names}
use Rattle.ladder_tree.specs.declared.element.CompareHow.TheVariants.{Equ, Neq, Grt, Geq, Les, Leq}
use Rattle.ladder_tree.specs.declared.element.CompareHow.{CompareHow}
use Rattle.ladder_tree.specs.declared.element.MathHow.TheVariants.{Add, Sub, Mul, Div}
use Rattle.ladder_tree.specs.declared.element.MathHow.{MathHow}
use Rattle.ladder_tree.specs.declared.element.Operand.TheVariants.{Var, Num}
use Rattle.ladder_tree.specs.declared.element.Operand.{Operand}
use Rattle.ladder_meaning.specs.Element.{operand, set_where, looked_up}
use Rattle.ladder_meaning.specs.Numbers.{computed, compares, value_at}
use Rattle.ladder_meaning.specs.State.{Now, with_number}
use Rattle.ladder_meaning.specs.declared.reading.Reading.{Reading}
use Rattle.int_code.specs.Meaning as int
use Rattle.int_code.specs.Meaning.{Moment, all_run, store_after, run}
use Rattle.int_code.specs.Shapes.{shape_of}
use Rattle.int_code.specs.Store as store
use Rattle.int_code.specs.Store.{Store}
use Rattle.int_code.specs.declared.op.IntOp.TheVariants.{Ifeq, Iflt, Tab}
use Rattle.int_code.specs.declared.op.IntOp.{IntOp}
use Rattle.int_code.specs.declared.op.NumSource.{NumSource}
use Rattle.int_code.specs.declared.op.Shape.TheVariants.{Plain}
use Rattle.ladder_lower.specs.ElementCode.{where_power, move_op, math_op, compare_code}
use Rattle.ladder_lower.specs.Wires.{variable_of, number_of, power}
use Rattle.ladder_lower.specs.declared.layout.Layout.{Layout}
use Rattle.ladder_lower.proofs.AfterLemmas.{where_done, cut_by, unless_by}
use Rattle.ladder_lower.proofs.Lowers.{After}
use Rattle.ladder_lower.proofs.Stands.{Stands, AllHeld, held}
use Rattle.ladder_lower.proofs.WroteLemmas.{Wrote, nothing_wrote, number_wrote}

pub held_front : (list xs ys : List (List ℕ)) → AllHeld list (xs ++ ys) → AllHeld list xs
held_front list [] ys h = tt
held_front list (x ∷ xs) ys h = (h.0, held_front list xs ys h.1)

pub held_back : (list xs ys : List (List ℕ)) → AllHeld list (xs ++ ys) → AllHeld list ys
held_back list [] ys h = h
held_back list (x ∷ xs) ys h = held_back list xs ys h.1

-- an operation reads what an operand means
pub operand_value : (p : Layout) (s : Now) (t : Store) (x : Operand) → AllHeld p.variables (operand_names x) → Stands p s t
    → store.number_of t (number_of p x) ≡ operand s x
operand_value p s t (Var name) h sh = sh.numbers name h.0
operand_value p s t (Num n) h sh = refl

-- where there is power, the variable gets the number that an operation writes
pub set_done : (p : Layout) (r : Reading) (op : IntOp) (d : ℕ) (m : Moment) (s : Now) (name : List ℕ) (n : ℤ) → shape_of op ≡ Plain
    → store_after r op m.store ≡ store.with_number m.store (variable_of p name) n → held p.variables name ≡ true → all_run m.ifs ≡ true → Stands p s m.store
    → After p d m (run r (where_power p op) m) (record { now = set_where (m.store.bit (power p)) s name n; output = m.store.bit (power p) })
set_done p r op d m s name n plain writes h on sh =
    where_done p r op d m s (with_number s name n) (m.store.bit (power p)) plain refl on sh
    (λ e. rw writes (number_wrote name n h (nothing_wrote s m.store true e sh)))

pub move_writes : (r : Reading) (t : Store) (v : ℕ) (a : NumSource)
    → (shape_of (move_op v a) ≡ Plain) × (store_after r (move_op v a) t ≡ store.with_number t v (store.number_of t a))
move_writes r t v (NumSource.V from) = (refl, refl)
move_writes r t v (NumSource.N n) = (refl, refl)

pub math_writes : (r : Reading) (t : Store) (how : MathHow) (v : ℕ) (a b : NumSource)
    → (shape_of (math_op how v a b) ≡ Plain) ×
    (store_after r (math_op how v a b) t ≡ store.with_number t v (computed how (store.number_of t a) (store.number_of t b)))
math_writes r t Add v a b = (refl, refl)
math_writes r t Sub v a b = (refl, refl)
math_writes r t Mul v a b = (refl, refl)
math_writes r t Div v a b = (refl, refl)

-- LOOK_UP_TABLE: there may be no value at the index
looked_wrote : (p : Layout) (s : Now) (t : Store) (dest : List ℕ) (o : Option ℤ) → held p.variables dest ≡ true → t.bit (power p) ≡ true → Stands p s t
    → Wrote p t (int.looked_up t (variable_of p dest) o) (record { now = looked_up dest s o; output = true })
looked_wrote p s t dest None h v sh = nothing_wrote s t true v sh
looked_wrote p s t dest (Some n) h v sh = number_wrote dest n h (nothing_wrote s t true v sh)

pub table_done : (p : Layout) (r : Reading) (d : ℕ) (m : Moment) (s : Now) (dest : List ℕ) (index : Operand) (values : List ℤ) → held p.variables dest ≡ true
    → AllHeld p.variables (operand_names index) → all_run m.ifs ≡ true → Stands p s m.store
    → After p d m (run r (where_power p (Tab (variable_of p dest) (number_of p index) values)) m)
    (record { now = cond (m.store.bit (power p)) (looked_up dest s (value_at values (operand s index))) s; output = m.store.bit (power p) })
table_done p r d m s dest index values h g on sh =
    where_done p r (Tab (variable_of p dest) (number_of p index) values) d m s (looked_up dest s (value_at values (operand s index)))
    (m.store.bit (power p)) refl refl on sh
    (λ e. rw (operand_value p s m.store index g sh) (looked_wrote p s m.store dest (value_at values (operand s index)) h e sh))

pub at_most : (a b : ℤ) → int_le a b ≡ not (int_lt b a)
at_most a b = grind (arith, ints)

pub compare_done : (p : Layout) (r : Reading) (d : ℕ) (m : Moment) (s : Now) (how : CompareHow) (a b : NumSource) (x y : ℤ) → store.number_of m.store a ≡ x
    → store.number_of m.store b ≡ y → all_run m.ifs ≡ true → Stands p s m.store
    → After p d m (run r (compare_code p how a b) m) (record { now = s; output = m.store.bit (power p) && compares how x y })
compare_done p r d m s Equ a b x y e f on sh =
    unless_by p r (Ifeq a b) d m s (int_eq x y) (record { opens = refl; writes_none = refl; runs = rw (e, f) refl }) on sh
compare_done p r d m s Neq a b x y e f on sh =
    cut_by p r (Ifeq a b) d m s (int_eq x y) (record { opens = refl; writes_none = refl; runs = rw (e, f) refl }) on sh
compare_done p r d m s Grt a b x y e f on sh =
    unless_by p r (Iflt b a) d m s (int_lt y x) (record { opens = refl; writes_none = refl; runs = rw (e, f) refl }) on sh
compare_done p r d m s Geq a b x y e f on sh =
    rw (at_most y x) (cut_by p r (Iflt a b) d m s (int_lt x y) (record { opens = refl; writes_none = refl; runs = rw (e, f) refl }) on sh)
compare_done p r d m s Les a b x y e f on sh =
    unless_by p r (Iflt a b) d m s (int_lt x y) (record { opens = refl; writes_none = refl; runs = rw (e, f) refl }) on sh
compare_done p r d m s Leq a b x y e f on sh =
    rw (at_most x y) (cut_by p r (Iflt b a) d m s (int_lt y x) (record { opens = refl; writes_none = refl; runs = rw (e, f) refl }) on sh)
