-- Where the parts of a program's code are, and how often their primitives may be begun.
use Rattle.std.proofs.Common.{◌≡◌, ℕ, zero, suc, ◌+◌, ◌<◌, ◌≤◌, Bool, true, false, List, [], ◌∷◌, ◌++◌, drop, Some, refl, sym, ap, subst, ◌∙◌, arith}
use Rattle.std.specs.Prelude.{slice_get, if◌then◌else◌, int_lt, ℤ, pos, Option, None}
use Rattle.std.specs.Ordering.{int_eq}
use Rattle.ladder_meaning.specs.Numbers.{value_at}
use Rattle.int_code.specs.declared.op.IntOp.{IntOp}
use Rattle.int_code.specs.declared.op.IntOp.TheVariants.{Set, Clr, Cpy, Not, Ifs, Ifc, Iflt, Ifeq, Els, Fi, Lit, Mov, Add, Sub, Inc, Dec, Tab, Mul, Div}
use Rattle.int_code.specs.declared.op.NumSource.{NumSource}
use Rattle.int_code.specs.declared.op.NumSource.TheVariants.{V, N}
use Rattle.int_code.specs.Shapes.{shape_of}
use Rattle.byte_code.specs.declared.prim.Paced.{Paced}
use Rattle.byte_code.specs.declared.prim.WordSource.{WordSource}
use Rattle.byte_code.specs.declared.prim.Shape.TheVariants.{AtPoll}
use Rattle.byte_code.specs.Table as table
use Rattle.byte_lower.proofs.RouteLemmas.{along, HasNoNames}
use Rattle.byte_lower.specs.Code.{booted, start_values}
use Rattle.byte_lower.specs.Lists.{label_of, list_of, lists_of, top_of, labels_behind, unless_less, unless_equal, sum, difference, put_known, look_up, move, number, guard_of, put_where, joined, put, called, product, quotient}
use Rattle.byte_routines.specs.declared.routines.TheConstants.{MULTIPLY, DIVIDE}
use Rattle.byte_lower.specs.Layout.{own_cells}
use Rattle.byte_lower.specs.declared.guard.Guard.{Guard}
use Rattle.byte_lower.specs.declared.layout.Layout.{Layout}

-- a fact of each primitive
abbrev pub Every : (Paced → Type 0) → List Paced → Type 0
Every P [] = Unit {0}
Every P (p ∷ ps) = P p × Every P ps

pub every_on : (P : Paced → Type 0) (ps qs : List Paced) → Every P ps → Every P qs → Every P (ps ++ qs)
every_on P [] qs h g = g
every_on P (p ∷ ps) qs h g = (h.0, every_on P ps qs h.1 g)

either : (P : Paced → Type 0) (b : Bool) (ps qs : List Paced) → Every P ps → Every P qs → Every P (if b then ps else qs)
either P true ps qs h g = h
either P false ps qs h g = g

-- of a product and a quotient, of which the known ones are moves
pub every_product : (P : Paced → Type 0) (o : Layout) (v : ℕ) (w u : NumSource) → ((n : WordSource) → P (put o v n)) →
    Every P (called o MULTIPLY (own_cells o.plan.target).outcome v w u) → Every P (product o v w u)
every_product P o v (N n) (N m) h g = (h _, tt)
every_product P o v (N n) (V b) h g = g
every_product P o v (V a) u h g = g

pub every_quotient : (P : Paced → Type 0) (o : Layout) (v : ℕ) (w u : NumSource) → ((n : WordSource) → P (put o v n)) →
    Every P (called o DIVIDE (own_cells o.plan.target).left v w u) → Every P (quotient o v w u)
every_quotient P o v (N n) (N m) h g = (h _, tt)
every_quotient P o v (N n) (V b) h g = g
every_quotient P o v (V a) u h g = g

-- each is begun once at most in a cycle
abbrev pub TurnsOnce : Paced → Type 0
TurnsOnce p = p.turns ≡ 1

-- each is begun once at most in front of the first reading
abbrev pub BootsOnce : Paced → Type 0
BootsOnce p = p.boot ≡ 1

abbrev pub IsNoPoll : Paced → Type 0
IsNoPoll p = table.shape_of p.prim ≡ AtPoll → ⊥

less_turns : (o : Layout) (w u : NumSource) (l : ℕ) → Every TurnsOnce (unless_less o w u l)
less_turns o (V a) (V b) l = (refl, (refl, tt))
less_turns o (V a) (N m) l = (refl, (refl, tt))
less_turns o (N n) (V b) l = either TurnsOnce (int_lt n (pos 32767)) _ _ (refl, (refl, tt)) (refl, tt)
less_turns o (N n) (N m) l = either TurnsOnce (int_lt n m) _ _ tt (refl, tt)

equal_turns : (o : Layout) (w u : NumSource) (l : ℕ) → Every TurnsOnce (unless_equal o w u l)
equal_turns o (V a) (V b) l = (refl, (refl, tt))
equal_turns o (V a) (N m) l = (refl, (refl, tt))
equal_turns o (N n) (V b) l = (refl, (refl, tt))
equal_turns o (N n) (N m) l = either TurnsOnce (int_eq n m) _ _ tt (refl, tt)

sum_turns : (o : Layout) (v : ℕ) (w u : NumSource) → Every TurnsOnce (sum o v w u ∷ [])
sum_turns o v (V a) (V b) = (refl, tt)
sum_turns o v (V a) (N m) = (refl, tt)
sum_turns o v (N n) (V b) = (refl, tt)
sum_turns o v (N n) (N m) = (refl, tt)

difference_turns : (o : Layout) (v : ℕ) (w u : NumSource) → Every TurnsOnce (difference o v w u ∷ [])
difference_turns o v (V a) (V b) = (refl, tt)
difference_turns o v (V a) (N m) = (refl, tt)
difference_turns o v (N n) (V b) = (refl, tt)
difference_turns o v (N n) (N m) = (refl, tt)

known_turns : (o : Layout) (v : ℕ) (x : Option ℤ) → Every TurnsOnce (put_known o v x)
known_turns o v None = tt
known_turns o v (Some n) = (refl, tt)

look_up_turns : (o : Layout) (v : ℕ) (w : NumSource) (values : List ℤ) (l : ℕ) → Every TurnsOnce (look_up o v w values l)
look_up_turns o v (N i) values l = known_turns o v (value_at values i)
look_up_turns o v (V w) [] l = tt
look_up_turns o v (V w) (n ∷ []) l = (refl, (refl, (refl, (refl, tt))))
look_up_turns o v (V w) (n ∷ m ∷ ns) l = (refl, (refl, (refl, (refl, (refl, (refl, tt))))))

list_turns : (o : Layout) (op : IntOp) (l top : ℕ) → Every TurnsOnce (list_of o op l top)
list_turns o (Set b) l top = (refl, tt)
list_turns o (Clr b) l top = (refl, tt)
list_turns o (Cpy b f) l top = (refl, tt)
list_turns o (Not b f) l top = (refl, tt)
list_turns o (Ifs f) l top = (refl, tt)
list_turns o (Ifc f) l top = (refl, tt)
list_turns o (Iflt w u) l top = less_turns o w u l
list_turns o (Ifeq w u) l top = equal_turns o w u l
list_turns o Els l top = (refl, (refl, tt))
list_turns o Fi l top = (refl, tt)
list_turns o (Lit v n) l top = (refl, tt)
list_turns o (Mov v f) l top = (refl, tt)
list_turns o (Add v w u) l top = sum_turns o v w u
list_turns o (Sub v w u) l top = difference_turns o v w u
list_turns o (Mul v w u) l top = every_product TurnsOnce o v w u (λ n. refl) (refl, (refl, (refl, (refl, tt))))
list_turns o (Div v w u) l top = every_quotient TurnsOnce o v w u (λ n. refl) (refl, (refl, (refl, (refl, tt))))
list_turns o (Inc v) l top = (refl, tt)
list_turns o (Dec v) l top = (refl, tt)
list_turns o (Tab v w values) l top = look_up_turns o v w values l
list_turns o op l top = tt

pub every_joined : (P : Paced → Type 0) (x : Option Guard) (one : Guard → List Paced) (list : List Paced) → ((g : Guard) → Every P (one g)) → Every P list →
    Every P (joined x one list)
every_joined P (Some g) one list h f = h g
every_joined P None one list h f = f

pub lists_turn : (o : Layout) (passed : ℕ) (ops : List IntOp) (k : ℕ) (labels : List ℕ) → Every TurnsOnce (lists_of o passed ops k labels)
lists_turn o zero [] k labels = tt
lists_turn o (suc passed) [] k labels = tt
lists_turn o (suc passed) (op ∷ ops) k labels = lists_turn o passed ops (suc k) labels
lists_turn o zero (op ∷ ops) k labels =
    every_joined TurnsOnce (guard_of (op ∷ ops)) (λ g. put_where o g ∷ lists_of o 2 ops (suc k) labels)
    (list_of o op (label_of k) (top_of labels) ++ lists_of o zero ops (suc k) (labels_behind (shape_of op) k labels))
    (λ g. (refl, lists_turn o 2 ops (suc k) labels))
    (every_on TurnsOnce (list_of o op (label_of k) (top_of labels)) (lists_of o zero ops (suc k) (labels_behind (shape_of op) k labels))
    (list_turns o op (label_of k) (top_of labels)) (lists_turn o zero ops (suc k) (labels_behind (shape_of op) k labels)))

-- the start values are begun in front of the first reading, wait for nothing and have no labels
pub starts_boot : (o : Layout) (ns : List ℤ) (v : ℕ) → Every BootsOnce (start_values o ns v)
starts_boot o [] v = tt
starts_boot o (n ∷ ns) v = either BootsOnce (int_eq n (pos 0)) _ _ (starts_boot o ns (suc v)) (refl, starts_boot o ns (suc v))

pub starts_wait : (o : Layout) (ns : List ℤ) (v : ℕ) → Every IsNoPoll (start_values o ns v)
starts_wait o [] v = tt
starts_wait o (n ∷ ns) v = either IsNoPoll (int_eq n (pos 0)) _ _ (starts_wait o ns (suc v)) ((λ e. absurd (cc e)), starts_wait o ns (suc v))

pub starts_names : (o : Layout) (ns : List ℤ) (v : ℕ) → HasNoNames (start_values o ns v)
starts_names o [] v = tt
starts_names o (n ∷ ns) v = by (int_eq n (pos 0)) _ (starts_names o ns (suc v))
  where
    by : (b : Bool) (ps : List Paced) → HasNoNames ps → HasNoNames (if b then ps else booted (move o v (number n)) ∷ ps)
    by true ps h = h
    by false ps h = ((λ l. refl), h)

pub along_is : (at : ℕ) (ps : List Paced) → (at ≤ along at ps) × ((n : ℕ) → along (n + at) ps ≡ n + along at ps)
along_is at [] = (omega arith, λ n. refl)
along_is at (p ∷ ps) =
    let h = along_is (suc at) ps in
    (omega (arith, h.0), λ n. let e : suc (n + at) ≡ n + suc at = omega arith in ap (λ m. along m ps) e ∙ h.1 n)

-- of each primitive in front of a place
pub in_front : (P : Paced → Type 0) (at : ℕ) (front rest : List Paced) (i : ℕ) (p : Paced) → Every P front → at + i < along at front →
    slice_get (front ++ rest) i ≡ Some p → P p
in_front P at [] rest i p h lt e = absurd (omega (arith, lt))
in_front P at (q ∷ front) rest zero p h lt e = let f : q ≡ p = cc in subst P f h.0
in_front P at (q ∷ front) rest (suc i) p h lt e =
    let f : suc at + i ≡ at + suc i = omega arith in
    in_front P (suc at) front rest i p h.1 (subst (λ n. n < along (suc at) front) (sym f) lt) e

-- of each from a place on
pub from_place : (P : Paced → Type 0) (code : List Paced) (n i : ℕ) (p : Paced) → Every P (drop n code) → n ≤ i → slice_get code i ≡ Some p → P p
from_place P [] n i p h le e = absurd (cc)
from_place P (q ∷ code) zero zero p h le e = let f : q ≡ p = cc in subst P f h.0
from_place P (q ∷ code) zero (suc i) p h le e = from_place P code zero i p h.1 (omega arith) e
from_place P (q ∷ code) (suc n) zero p h le e = absurd (omega (arith, le))
from_place P (q ∷ code) (suc n) (suc i) p h le e = from_place P code n i p h (omega (arith, le)) e
