-- Each label that a program's code names stands once in it.
use Rattle.std.proofs.Common.{◌≡◌, ◌≢◌, ℕ, zero, suc, ◌+◌, ◌≤◌, inl, inr, Bool, true, false, cond, List, [], ◌∷◌, ◌++◌, length, take, Option, Some, None, ℤ, pos, refl, sym, ap, subst, ◌∙◌, arith, append_assoc}
use Rattle.std.specs.Prelude.{◌⊎◌, ◌<◌, nat_le, count_by, slice_get, if◌then◌else◌, ◌==◌, ◌&&◌, int_lt, not}
use Rattle.std.proofs.lemmas.List.Sums.{sum_by-cons}
use Rattle.std.specs.Ordering.{int_eq}
use Rattle.std.proofs.lemmas.Bool.Decides.{nat_tests}
use Rattle.ladder_meaning.specs.Numbers.{value_at}
use Rattle.int_code.specs.Shapes.{shape_of}
use Rattle.int_code.specs.WellFormed.{nests}
use Rattle.int_code.specs.declared.op.IntOp.{IntOp}
use Rattle.int_code.specs.declared.op.IntOp.TheVariants.{Set, Clr, Cpy, Not, Ifs, Ifc, Iflt, Ifeq, Ifee, Els, Fi, Lit, Mov, Add, Sub, Inc, Dec, Tab, Mul, Div}
use Rattle.int_code.specs.declared.op.IntProgram.{IntProgram}
use Rattle.int_code.specs.declared.op.NumSource.{NumSource}
use Rattle.int_code.specs.declared.op.NumSource.TheVariants.{V, N}
use Rattle.int_code.specs.declared.op.Shape.{Shape}
use Rattle.int_code.specs.declared.op.Shape.TheVariants.{Opens}
use Rattle.byte_code.specs.declared.prim.BytePrim.TheVariants.{Start, CyclePoll, Label, Jump, Return}
use Rattle.chip_tables.specs.declared.scratch.Scratch.{Scratch}
use Rattle.byte_code.specs.declared.prim.Paced.{Paced}
use Rattle.byte_code.specs.Machine.{is_name, label_place}
use Rattle.byte_code.specs.Table as table
use Rattle.mem_plan.specs.Needs.{ram_need}
use Rattle.byte_code.proofs.Times.{times, times-cons}
use Rattle.target_core.specs.Law.{has_words, is_start, label_named}
use Rattle.target_core.specs.Whole.{IsPlaced}
use Rattle.byte_lower.proofs.CodeLemmas.{Every, every_on, every_joined, starts_names, every_product, every_quotient}
use Rattle.byte_lower.proofs.RouteLemmas.{HasNoNames, NamesBut}
use Rattle.byte_lower.proofs.WalkLemmas.{Falls, falls_up, IsNameless, no_names, look_up_names, guard_facts}
use Rattle.byte_lower.specs.Code.{CanPlace, booted, polling, start_values, code_of, if_called}
use Rattle.byte_lower.specs.Lists.{paced, label_of, list_of, lists_of, top_of, labels_behind, unless_less, unless_equal, sum, difference, put_known, look_up, guard_of, guard_by, put_where, joined, product, quotient, calls_product, calls_quotient}
use Rattle.byte_routines.specs.Routines.{begun, multiply, divide}
use Rattle.byte_lower.specs.Layout.{own_cells}
use Rattle.byte_lower.specs.Whole.{HasLabels}
use Rattle.byte_lower.specs.declared.guard.Guard.{Guard}
use Rattle.byte_lower.specs.declared.layout.Layout.{Layout}

-- one more, where it is so
abbrev pub more : Bool → ℕ → ℕ
more true n = suc n
more false n = n

more_is : (b : Bool) (n : ℕ) → cond b 1 0 + n ≡ more b n
more_is true n = omega arith
more_is false n = omega arith

more_on : (b : Bool) (m n : ℕ) → more b (m + n) ≡ more b m + n
more_on true m n = omega arith
more_on false m n = refl

-- how often a label stands in code
abbrev pub standing : ℕ → List Paced → ℕ
standing l [] = 0
standing l (p ∷ ps) = more (is_name (table.shape_of p.prim) l) (standing l ps)

standing_on : (l : ℕ) (ps qs : List Paced) → standing l (ps ++ qs) ≡ standing l ps + standing l qs
standing_on l [] qs = omega arith
standing_on l (p ∷ ps) qs =
    ap (more (is_name (table.shape_of p.prim) l)) (standing_on l ps qs) ∙ more_on (is_name (table.shape_of p.prim) l) (standing l ps) (standing l qs)

times_more : (i k : ℕ) (L : List ℕ) → times i (k ∷ L) ≡ more (k == i) (times i L)
times_more i k L = times-cons i k L ∙ more_is (k == i) (times i L)

zero_and : (n : ℕ) → 0 + n ≡ n
zero_and n = omega arith

and_zero : (n : ℕ) → n + 0 ≡ n
and_zero n = omega arith

no_more : (n : ℕ) → suc n ≢ 0
no_more n e = omega (arith, e)

one_less : (n : ℕ) → suc n ≡ 1 → n ≡ 0
one_less n e = omega (arith, e)

none_standing : (l : ℕ) (ps : List Paced) → HasNoNames ps → standing l ps ≡ 0
none_standing l [] h = refl
none_standing l (p ∷ ps) h = ap (λ b. more b (standing l ps)) (h.0 l) ∙ none_standing l ps h.1

none_but : (l m : ℕ) (ps : List Paced) → NamesBut m ps → l ≢ m → standing l ps ≡ 0
none_but l m [] h ne = refl
none_but l m (p ∷ ps) h ne = ap (λ b. more b (standing l ps)) (h.0 l ne) ∙ none_but l m ps h.1 ne

-- One that stands once is where the first such label is.
record Placed (code : List Paced) (l : ℕ) : Type 0 where
  stands : (q : Paced) × (slice_get code (label_place code l) ≡ Some q) × (is_name (table.shape_of q.prim) l ≡ true)
  once : (k : ℕ) (q : Paced) → slice_get code k ≡ Some q → is_name (table.shape_of q.prim) l ≡ true → k ≡ label_place code l

none_less : (b : Bool) (n : ℕ) → more b n ≡ 0 → n ≡ 0
none_less true n e = absurd (no_more n e)
none_less false n e = e

none_there : (code : List Paced) (l k : ℕ) (q : Paced) → standing l code ≡ 0 → slice_get code k ≡ Some q → is_name (table.shape_of q.prim) l ≡ true → ⊥
none_there [] l k q e h is = cc
none_there (p ∷ code) l zero q e h is =
    let same : p ≡ q = cc in
    no_more (standing l code) (sym (ap (λ b. more b (standing l code)) (ap (λ x. is_name (table.shape_of x.prim) l) same ∙ is)) ∙ e)
none_there (p ∷ code) l (suc k) q e h is = none_there code l k q (none_less (is_name (table.shape_of p.prim) l) (standing l code) e) h is

placed : (code : List Paced) (l : ℕ) → standing l code ≡ 1 → Placed code l
placed [] l e = absurd (no_more 0 (sym e))
placed (p ∷ code) l e = by (is_name (table.shape_of p.prim) l) refl (placed code l)
  where
    by : (b : Bool) → is_name (table.shape_of p.prim) l ≡ b → (standing l code ≡ 1 → Placed code l) → Placed (p ∷ code) l
    by true is later =
        let first : label_place (p ∷ code) l ≡ 0 = ap (λ b. if b then 0 else suc (label_place code l)) is in
        let rest : standing l code ≡ 0 = one_less (standing l code) (sym (ap (λ b. more b (standing l code)) is) ∙ e) in
        record {
          stands = (p, ap (slice_get (p ∷ code)) first, is);
          once = λ k q h named. only k q h named first rest;
        }
      where
        only : (k : ℕ) (q : Paced) → slice_get (p ∷ code) k ≡ Some q → is_name (table.shape_of q.prim) l ≡ true → label_place (p ∷ code) l ≡ 0 →
            standing l code ≡ 0 → k ≡ label_place (p ∷ code) l
        only zero q h named first rest = sym first
        only (suc k) q h named first rest = absurd (none_there code l k q rest h named)
    by false is later =
        let next : label_place (p ∷ code) l ≡ suc (label_place code l) = ap (λ b. if b then 0 else suc (label_place code l)) is in
        let rest : Placed code l = later (sym (ap (λ b. more b (standing l code)) is) ∙ e) in
        record {
          stands = (rest.stands.0, ap (slice_get (p ∷ code)) next ∙ rest.stands.1, rest.stands.2);
          once = λ k q h named. only k q h named next rest;
        }
      where
        only : (k : ℕ) (q : Paced) → slice_get (p ∷ code) k ≡ Some q → is_name (table.shape_of q.prim) l ≡ true → label_place (p ∷ code) l ≡ suc (label_place code l) →
            Placed code l → k ≡ label_place (p ∷ code) l
        only zero q h named next rest = let same : p ≡ q = cc in absurd (cc (is, named, ap (λ x. is_name (table.shape_of x.prim) l) same))
        only (suc k) q h named next rest = ap suc (rest.once k q h named) ∙ sym next

-- a primitive names no label but one
abbrev NamesOnly : ℕ → Paced → Type 0
NamesOnly m p = (l : ℕ) → label_named p.prim ≡ Some l → l ≡ m

-- what is named, but of the labels of the loop and the routines, stands once in the code
abbrev NamesIn : List Paced → Paced → Type 0
NamesIn code p = (l : ℕ) → label_named p.prim ≡ Some l → 5 < l → standing l code ≡ 1

-- an operation calls the routine of this label
abbrev pub IsCalledBy : IntOp → ℕ → Type 0
IsCalledBy op l = ((l ≡ 1) × (calls_product op ≡ true)) ⊎ ((l ≡ 3) × (calls_quotient op ≡ true))

-- a primitive names no label but that of a routine which the operation calls
abbrev CallsBy : IntOp → Paced → Type 0
CallsBy op p = (l : ℕ) → label_named p.prim ≡ Some l → IsCalledBy op l

either : (P : Paced → Type 0) (b : Bool) (ps qs : List Paced) → Every P ps → Every P qs → Every P (if b then ps else qs)
either P true ps qs h g = h
either P false ps qs h g = g

own : (m l : ℕ) → Some m ≡ Some l → l ≡ m
own m l e = cc

less_names : (o : Layout) (w u : NumSource) (m : ℕ) → Every (NamesOnly m) (unless_less o w u m)
less_names o (V a) (V b) m = ((λ l e. absurd (cc e)), (own m, tt))
less_names o (V a) (N n) m = ((λ l e. absurd (cc e)), (own m, tt))
less_names o (N n) (V b) m = either (NamesOnly m) (int_lt n (pos 32767)) _ _ ((λ l e. absurd (cc e)), (own m, tt)) (own m, tt)
less_names o (N n) (N k) m = either (NamesOnly m) (int_lt n k) _ _ tt (own m, tt)

equal_names : (o : Layout) (w u : NumSource) (m : ℕ) → Every (NamesOnly m) (unless_equal o w u m)
equal_names o (V a) (V b) m = ((λ l e. absurd (cc e)), (own m, tt))
equal_names o (V a) (N n) m = ((λ l e. absurd (cc e)), (own m, tt))
equal_names o (N n) (V b) m = ((λ l e. absurd (cc e)), (own m, tt))
equal_names o (N n) (N k) m = either (NamesOnly m) (int_eq n k) _ _ tt (own m, tt)

sum_names : (o : Layout) (v : ℕ) (w u : NumSource) (P : Paced → Type 0) → ((p : Paced) → ((l : ℕ) → label_named p.prim ≡ Some l → ⊥) → P p) → P (sum o v w u)
sum_names o v (V a) (V b) P h = h _ (λ l e. absurd (cc e))
sum_names o v (V a) (N n) P h = h _ (λ l e. absurd (cc e))
sum_names o v (N n) (V b) P h = h _ (λ l e. absurd (cc e))
sum_names o v (N n) (N m) P h = h _ (λ l e. absurd (cc e))

difference_names : (o : Layout) (v : ℕ) (w u : NumSource) (P : Paced → Type 0) → ((p : Paced) → ((l : ℕ) → label_named p.prim ≡ Some l → ⊥) → P p) →
    P (difference o v w u)
difference_names o v (V a) (V b) P h = h _ (λ l e. absurd (cc e))
difference_names o v (V a) (N n) P h = h _ (λ l e. absurd (cc e))
difference_names o v (N n) (V b) P h = h _ (λ l e. absurd (cc e))
difference_names o v (N n) (N m) P h = h _ (λ l e. absurd (cc e))

known_only : (o : Layout) (v m : ℕ) (x : Option ℤ) → Every (NamesOnly m) (put_known o v x)
known_only o v m None = tt
known_only o v m (Some n) = ((λ l e. absurd (cc e)), tt)

look_up_only : (o : Layout) (v : ℕ) (w : NumSource) (values : List ℤ) (m : ℕ) → Every (NamesOnly m) (look_up o v w values m)
look_up_only o v (N i) values m = known_only o v m (value_at values i)
look_up_only o v (V w) [] m = tt
look_up_only o v (V w) (n ∷ []) m = ((λ l e. absurd (cc e)), (own m, ((λ l e. absurd (cc e)), ((λ l e. absurd (cc e)), tt))))
look_up_only o v (V w) (n ∷ k ∷ ns) m = (
  (λ l e. absurd (cc e)),
  (own m, ((λ l e. absurd (cc e)), ((λ l e. absurd (cc e)), ((λ l e. absurd (cc e)), ((λ l e. absurd (cc e)), tt))))),
)

-- the list of an if names its own label alone
list_names : (o : Layout) (op : IntOp) (m top : ℕ) → shape_of op ≡ Opens → Every (NamesOnly m) (list_of o op m top)
list_names o (Ifs f) m top h = (own m, tt)
list_names o (Ifc f) m top h = (own m, tt)
list_names o (Iflt w u) m top h = less_names o w u m
list_names o (Ifeq w u) m top h = equal_names o w u m
list_names o (Ifee v a) m top h = tt
list_names o op m top h = absurd (cc h)

product_calls : (o : Layout) (v : ℕ) (w u : NumSource) → Every (CallsBy (Mul v w u)) (product o v w u)
product_calls o v (N n) (N m) = ((λ l e. absurd (cc e)), tt)
product_calls o v (N n) (V b) = (
  λ l e. absurd (cc e),
  ((λ l e. absurd (cc e)), ((λ l e. inl (own 1 l e, refl)), ((λ l e. absurd (cc e)), tt))),
)
product_calls o v (V a) u = ((λ l e. absurd (cc e)), ((λ l e. absurd (cc e)), ((λ l e. inl (own 1 l e, refl)), ((λ l e. absurd (cc e)), tt))))

quotient_calls : (o : Layout) (v : ℕ) (w u : NumSource) → Every (CallsBy (Div v w u)) (quotient o v w u)
quotient_calls o v (N n) (N m) = ((λ l e. absurd (cc e)), tt)
quotient_calls o v (N n) (V b) = (
  λ l e. absurd (cc e),
  ((λ l e. absurd (cc e)), ((λ l e. inr (own 3 l e, refl)), ((λ l e. absurd (cc e)), tt))),
)
quotient_calls o v (V a) u = ((λ l e. absurd (cc e)), ((λ l e. absurd (cc e)), ((λ l e. inr (own 3 l e, refl)), ((λ l e. absurd (cc e)), tt))))

-- a plain operation names none but a routine that it calls
plain_names : (o : Layout) (op : IntOp) (m top : ℕ) → IsNameless op → Every (CallsBy op) (list_of o op m top)
plain_names o (Set b) m top h = ((λ l e. absurd (cc e)), tt)
plain_names o (Clr b) m top h = ((λ l e. absurd (cc e)), tt)
plain_names o (Cpy b f) m top h = ((λ l e. absurd (cc e)), tt)
plain_names o (Not b f) m top h = ((λ l e. absurd (cc e)), tt)
plain_names o (Ifs f) m top h = absurd (cc h)
plain_names o (Ifc f) m top h = absurd (cc h)
plain_names o (Iflt w u) m top h = absurd (cc h)
plain_names o (Ifeq w u) m top h = absurd (cc h)
plain_names o Els m top h = absurd (cc h)
plain_names o Fi m top h = absurd (cc h)
plain_names o (Lit v n) m top h = ((λ l e. absurd (cc e)), tt)
plain_names o (Mov v f) m top h = ((λ l e. absurd (cc e)), tt)
plain_names o (Add v w u) m top h = (sum_names o v w u (CallsBy (Add v w u)) (λ p g l e. absurd (g l e)), tt)
plain_names o (Sub v w u) m top h = (difference_names o v w u (CallsBy (Sub v w u)) (λ p g l e. absurd (g l e)), tt)
plain_names o (Mul v w u) m top h = product_calls o v w u
plain_names o (Div v w u) m top h = quotient_calls o v w u
plain_names o (Inc v) m top h = ((λ l e. absurd (cc e)), tt)
plain_names o (Dec v) m top h = ((λ l e. absurd (cc e)), tt)
plain_names o (Tab v w values) m top h = absurd h
plain_names o op m top h = tt

every_map : (P Q : Paced → Type 0) (ps : List Paced) → ((p : Paced) → P p → Q p) → Every P ps → Every Q ps
every_map P Q [] f h = tt
every_map P Q (p ∷ ps) f h = (f p h.0, every_map P Q ps f h.1)

every_both : (P Q R : Paced → Type 0) (ps : List Paced) → ((p : Paced) → P p → Q p → R p) → Every P ps → Every Q ps → Every R ps
every_both P Q R [] f h g = tt
every_both P Q R (p ∷ ps) f h g = (f p h.0 g.0, every_both P Q R ps f h.1 g.1)

-- the labels up to number k stand as often as they are those of open ifs, and each that is named stands once
record Settled (ps : List Paced) (k : ℕ) (labels : List ℕ) : Type 0 where
  stand : (l : ℕ) → l ≤ k → standing l ps ≡ times l labels
  named : Every (NamesIn ps) ps

other : (m l : ℕ) → m ≢ l → (m == l) ≡ false
other m l ne = grind (arith, nat_tests, ne)

itself : (m : ℕ) → (m == m) ≡ true
itself m = grind (arith, nat_tests)

is_itself : (m l : ℕ) → Some m ≡ Some l → (m == l) ≡ true
is_itself m l e = let same : l ≡ m = own m l e in grind (arith, nat_tests, same)

known_in : (o : Layout) (v : ℕ) (x : Option ℤ) → Every (NamesIn (put_known o v x)) (put_known o v x)
known_in o v None = tt
known_in o v (Some n) = ((λ l e. absurd (cc e)), tt)

-- a look-up that names its label has it once
look_up_in : (o : Layout) (v : ℕ) (w : NumSource) (values : List ℤ) (m : ℕ) → Every (NamesIn (look_up o v w values m)) (look_up o v w values m)
look_up_in o v (N i) values m = known_in o v (value_at values i)
look_up_in o v (V w) [] m = tt
look_up_in o v (V w) (n ∷ []) m =
    ((λ l e. absurd (cc e)), ((λ l e few. ap (λ b. more b 0) (is_itself m l e)), ((λ l e. absurd (cc e)), ((λ l e. absurd (cc e)), tt))))
look_up_in o v (V w) (n ∷ k ∷ ns) m = (
  (λ l e. absurd (cc e)),
  (
    (λ l e few. ap (λ b. more b 0) (is_itself m l e)),
    ((λ l e. absurd (cc e)), ((λ l e. absurd (cc e)), ((λ l e. absurd (cc e)), ((λ l e. absurd (cc e)), tt)))),
  ),
)

-- no label of an open if is at or above a bound
none_above : (bound l : ℕ) (labels : List ℕ) → Falls bound labels → bound ≤ l → times l labels ≡ 0
none_above bound l [] f h = refl
none_above bound l (x ∷ labels) f h =
    let apart : (x == l) ≡ false = other x l (λ e. omega (arith, e, h, f.0)) in
    times_more l x labels ∙ ap (λ b. more b (times l labels)) apart ∙ none_above x l labels f.1 (omega (arith, h, f.0))

opened_once : (m : ℕ) (labels : List ℕ) → Falls m labels → times m (m ∷ labels) ≡ 1
opened_once m labels f = times_more m m labels ∙ ap (λ b. more b (times m labels)) (itself m) ∙ ap suc (none_above m m labels f (omega arith))

abbrev Pairs : List ℕ → List Bool → Type 0
Pairs [] [] = Unit {0}
Pairs (l ∷ labels) (e ∷ es) = Pairs labels es
Pairs labels es = ⊥

opens : (own_list rest : List Paced) (k : ℕ) (labels : List ℕ) → HasNoNames own_list → Every (NamesOnly (suc k)) own_list → Falls (suc k) labels →
    Settled rest (suc k) (suc k ∷ labels) → Settled (own_list ++ rest) k labels
opens own_list rest k labels none only falls h = record {
  stand = λ l le. standing_on l own_list rest ∙ ap (λ n. n + standing l rest) (none_standing l own_list none) ∙ zero_and (standing l rest) ∙ h.stand l (omega (arith, le)) ∙ times_more l (suc k) labels
      ∙ ap (λ b. more b (times l labels)) (other (suc k) l (λ e. omega (arith, e, le)));
  named = every_on (NamesIn (own_list ++ rest)) own_list rest
      (every_map (NamesOnly (suc k)) (NamesIn (own_list ++ rest)) own_list (λ p only_p l e few. behind l (ap (λ m. standing m rest) (only_p l e) ∙ h.stand (suc k) (omega arith)
      ∙ opened_once (suc k) labels falls)) only)
      (every_map (NamesIn rest) (NamesIn (own_list ++ rest)) rest (λ p named l e few. behind l (named l e few)) h.named);
}
  where
    behind : (l : ℕ) → standing l rest ≡ 1 → standing l (own_list ++ rest) ≡ 1
    behind l e = standing_on l own_list rest ∙ ap (λ n. n + standing l rest) (none_standing l own_list none) ∙ zero_and (standing l rest) ∙ e

is_low : (op : IntOp) (l : ℕ) → IsCalledBy op l → l ≤ 5
is_low op l (inl h) = omega (arith, h.0)
is_low op l (inr h) = omega (arith, h.0)

plains : (op : IntOp) (own_list rest : List Paced) (k : ℕ) (labels : List ℕ) → HasNoNames own_list → Every (CallsBy op) own_list →
    Settled rest (suc k) labels → Settled (own_list ++ rest) k labels
plains op own_list rest k labels none calls h = record {
  stand = λ l le. standing_on l own_list rest ∙ ap (λ n. n + standing l rest) (none_standing l own_list none) ∙ zero_and (standing l rest) ∙ h.stand l (omega (arith, le));
  named = every_on (NamesIn (own_list ++ rest)) own_list rest
      (every_map (CallsBy op) (NamesIn (own_list ++ rest)) own_list (λ p by l e few. absurd (omega (arith, is_low op l (by l e), few))) calls)
      (every_map (NamesIn rest) (NamesIn (own_list ++ rest)) rest
      (λ p named l e few. standing_on l own_list rest ∙ ap (λ n. n + standing l rest) (none_standing l own_list none) ∙ zero_and (standing l rest) ∙ named l e few) h.named);
}

-- a list of a plain operation that may have the operation's own label, and has it once where it names it
owns : (own_list rest : List Paced) (k : ℕ) (labels : List ℕ) → NamesBut (suc k) own_list → Every (NamesOnly (suc k)) own_list →
    Every (NamesIn own_list) own_list → Falls (suc k) labels → Settled rest (suc k) labels → Settled (own_list ++ rest) k labels
owns own_list rest k labels but only named falls h = record {
  stand = λ l le. standing_on l own_list rest ∙ ap (λ n. n + standing l rest) (none_but l (suc k) own_list but (λ e. omega (arith, e, le)))
      ∙ zero_and (standing l rest) ∙ h.stand l (omega (arith, le));
  named = every_on (NamesIn (own_list ++ rest)) own_list rest
      (every_both (NamesOnly (suc k)) (NamesIn own_list) (NamesIn (own_list ++ rest)) own_list one_own only named)
      (every_map (NamesIn rest) (NamesIn (own_list ++ rest)) rest behind h.named);
}
  where
    none_behind : standing (suc k) rest ≡ 0
    none_behind = h.stand (suc k) (omega arith) ∙ none_above (suc k) (suc k) labels falls (omega arith)

    behind : (p : Paced) → NamesIn rest p → NamesIn (own_list ++ rest) p
    behind p once l e few =
        let apart : l ≢ suc k = λ f. no_more 0 (sym (once l e few) ∙ ap (λ m. standing m rest) f ∙ none_behind) in
        standing_on l own_list rest ∙ ap (λ n. n + standing l rest) (none_but l (suc k) own_list but apart) ∙ zero_and (standing l rest) ∙ once l e few

    one_own : (p : Paced) → NamesOnly (suc k) p → NamesIn own_list p → NamesIn (own_list ++ rest) p
    one_own p own_only once l e few =
        let gone : standing l rest ≡ 0 = ap (λ m. standing m rest) (own_only l e) ∙ none_behind in
        standing_on l own_list rest ∙ ap (λ n. standing l own_list + n) gone ∙ and_zero (standing l own_list) ∙ once l e few

-- what stands behind the label of an if that is open no more does not name it
not_top : (rest : List Paced) (bound top l : ℕ) (labels : List ℕ) → Settled rest bound labels → top ≤ bound → times top labels ≡ 0 → standing l rest ≡ 1 → top ≢ l
not_top rest bound top l labels h le none one e = let f : standing top rest ≡ 1 = ap (λ m. standing m rest) e ∙ one in omega (arith, f, h.stand top le, none)

turns : (rest : List Paced) (k top : ℕ) (labels : List ℕ) → Falls (suc k) (top ∷ labels) → Settled rest (suc k) (suc k ∷ labels) →
    Settled (paced (Jump (suc k)) ∷ paced (Label top) ∷ rest) k (top ∷ labels)
turns rest k top labels falls h = record {
  stand = λ l le. ap (more (top == l)) (h.stand l (omega (arith, le)) ∙ times_more l (suc k) labels
      ∙ ap (λ b. more b (times l labels)) (other (suc k) l (λ e. omega (arith, e, le)))) ∙ sym (times_more l top labels);
  named = (
    λ l e few. ap (λ m. standing m (paced (Jump (suc k)) ∷ paced (Label top) ∷ rest)) (own (suc k) l e)
        ∙ ap (λ b. more b (standing (suc k) rest)) (other top (suc k) (λ f. omega (arith, f, falls.0)))
        ∙ h.stand (suc k) (omega arith) ∙ opened_once (suc k) labels (falls_up top (suc k) labels (omega (arith, falls.0)) falls.1),
    (
      λ l e. absurd (cc e),
      every_map (NamesIn rest) (NamesIn (paced (Jump (suc k)) ∷ paced (Label top) ∷ rest)) rest
          (λ p named l e few. ap (λ b. more b (standing l rest)) (other top l (not_top rest (suc k) top l (suc k ∷ labels) h (omega (arith, falls.0)) gone
          (named l e few))) ∙ named l e few) h.named,
    ),
  );
}
  where
    gone : times top (suc k ∷ labels) ≡ 0
    gone = times_more top (suc k) labels ∙ ap (λ b. more b (times top labels)) (other (suc k) top (λ e. omega (arith, e, falls.0)))
        ∙ none_above top top labels falls.1 (omega arith)

closes : (rest : List Paced) (k top : ℕ) (labels : List ℕ) → Falls (suc k) (top ∷ labels) → Settled rest (suc k) labels →
    Settled (paced (Label top) ∷ rest) k (top ∷ labels)
closes rest k top labels falls h = record {
  stand = λ l le. ap (more (top == l)) (h.stand l (omega (arith, le))) ∙ sym (times_more l top labels);
  named = (
    λ l e. absurd (cc e),
    every_map (NamesIn rest) (NamesIn (paced (Label top) ∷ rest)) rest
        (λ p named l e few. ap (λ b. more b (standing l rest)) (other top l (not_top rest (suc k) top l labels h (omega (arith, falls.0))
        (none_above top top labels falls.1 (omega arith)) (named l e few))) ∙ named l e few) h.named,
  );
}

second_of : (x y : Bool) → x && y ≡ true → y ≡ true
second_of true y p = p
second_of false y p = absurd (cc)

module _ (o : Layout) where
  abbrev Rest : Shape → List IntOp → ℕ → List ℕ → Type 0
  Rest h ops k labels = (es : List Bool) → nests ops es ≡ true → Pairs (labels_behind h k labels) es → Falls (suc (suc k)) (labels_behind h k labels) →
      Settled (lists_of o 0 ops (suc k) (labels_behind h k labels)) (suc k) (labels_behind h k labels)

  opening : (op : IntOp) (ops : List IntOp) (k : ℕ) (labels : List ℕ) (es : List Bool) → shape_of op ≡ Opens → HasNoNames (list_of o op (suc k) (top_of labels)) →
      nests ops (false ∷ es) ≡ true → Pairs labels es → Falls (suc k) labels → Rest Opens ops k labels →
      Settled (list_of o op (suc k) (top_of labels) ++ lists_of o 0 ops (suc k) (suc k ∷ labels)) k labels
  opening op ops k labels es shape none n a f rest =
      opens (list_of o op (suc k) (top_of labels)) (lists_of o 0 ops (suc k) (suc k ∷ labels)) k labels none (list_names o op (suc k) (top_of labels) shape) f
      (rest (false ∷ es) n a (omega arith, f))

  one : (op : IntOp) (ops : List IntOp) (k : ℕ) (labels : List ℕ) (es : List Bool) → nests (op ∷ ops) es ≡ true → Pairs labels es → Falls (suc k) labels →
      Rest (shape_of op) ops k labels →
      Settled (list_of o op (suc k) (top_of labels) ++ lists_of o 0 ops (suc k) (labels_behind (shape_of op) k labels)) k labels
  one (Ifs x) ops k labels es n a f rest = opening (Ifs x) ops k labels es refl (no_names o (Ifs x) (suc k) (top_of labels) (inl refl)) n a f rest
  one (Ifc x) ops k labels es n a f rest = opening (Ifc x) ops k labels es refl (no_names o (Ifc x) (suc k) (top_of labels) (inl refl)) n a f rest
  one (Iflt w u) ops k labels es n a f rest = opening (Iflt w u) ops k labels es refl (no_names o (Iflt w u) (suc k) (top_of labels) (inl refl)) n a f rest
  one (Ifeq w u) ops k labels es n a f rest = opening (Ifeq w u) ops k labels es refl (no_names o (Ifeq w u) (suc k) (top_of labels) (inl refl)) n a f rest
  one (Ifee v x) ops k labels es n a f rest = opening (Ifee v x) ops k labels es refl (no_names o (Ifee v x) (suc k) (top_of labels) (inl refl)) n a f rest
  one (Tab v w values) ops k labels es n a f rest =
      owns (look_up o v w values (suc k)) (lists_of o 0 ops (suc k) labels) k labels (look_up_names o v w values (suc k)) (look_up_only o v w values (suc k))
      (look_up_in o v w values (suc k)) f (rest es n a (falls_up (suc k) (suc (suc k)) labels (omega arith) f))
  one Els ops k labels [] n a f rest = absurd (cc)
  one Els ops k [] (e ∷ es) n a f rest = absurd a
  one Els ops k (l ∷ labels) (e ∷ es) n a f rest =
      turns (lists_of o 0 ops (suc k) (suc k ∷ labels)) k l labels f
      (rest (true ∷ es) (second_of (not e) (nests ops (true ∷ es)) n) a (omega arith, falls_up l (suc k) labels (omega (arith, f.0)) f.1))
  one Fi ops k labels [] n a f rest = absurd (cc)
  one Fi ops k [] (e ∷ es) n a f rest = absurd a
  one Fi ops k (l ∷ labels) (e ∷ es) n a f rest =
      closes (lists_of o 0 ops (suc k) labels) k l labels f (rest es n a (falls_up l (suc (suc k)) labels (omega (arith, f.0)) f.1))
  one op ops k labels es n a f rest =
      plains op (list_of o op (suc k) (top_of labels)) (lists_of o 0 ops (suc k) labels) k labels (no_names o op (suc k) (top_of labels) (inr refl))
      (plain_names o op (suc k) (top_of labels) refl) (rest es n a (falls_up (suc k) (suc (suc k)) labels (omega arith) f))

  guarded : (g : Guard) (rest : List Paced) (k : ℕ) (labels : List ℕ) → Settled rest (suc (suc (suc k))) labels → Settled (put_where o g ∷ rest) k labels
  guarded g rest k labels h = record {
    stand = λ l le. h.stand l (omega (arith, le));
    named = (λ l e. absurd (cc e), every_map (NamesIn rest) (NamesIn (put_where o g ∷ rest)) rest (λ p named l e few. named l e few) h.named);
  }

  three : (x y z : IntOp) (ops : List IntOp) (k : ℕ) (labels : List ℕ) (es : List Bool) (g : Option Guard) → guard_by x y z ≡ g →
      nests (x ∷ y ∷ z ∷ ops) es ≡ true →
      Settled (list_of o x (label_of k) (top_of labels) ++ lists_of o 0 (y ∷ z ∷ ops) (suc k) (labels_behind (shape_of x) k labels)) k labels →
      (nests ops es ≡ true → Settled (lists_of o 0 ops (suc (suc (suc k))) labels) (suc (suc (suc k))) labels) →
      Settled (joined g (λ q. put_where o q ∷ lists_of o 2 (y ∷ z ∷ ops) (suc k) labels)
      (list_of o x (label_of k) (top_of labels) ++ lists_of o 0 (y ∷ z ∷ ops) (suc k) (labels_behind (shape_of x) k labels))) k labels
  three x y z ops k labels es None is n near far = near
  three x y z ops k labels es (Some g) is n near far =
      guarded g (lists_of o 0 ops (suc (suc (suc k))) labels) k labels
      (far (sym ((guard_facts o (record { inputs = []; analog = []; rx = None; tx_busy = false; ee_busy = false }) x y z g is).nest ops es) ∙ n))

  settled : (ops : List IntOp) (k : ℕ) (labels : List ℕ) (es : List Bool) → nests ops es ≡ true → Pairs labels es → Falls (suc k) labels →
      Settled (lists_of o 0 ops k labels) k labels
  settled [] k [] es n a f = record { stand = λ l le. refl; named = tt }
  settled [] k (l ∷ labels) [] n a f = absurd a
  settled [] k (l ∷ labels) (e ∷ es) n a f = absurd (cc)
  settled (x ∷ []) k labels es n a f =
      one x [] k labels es n a f (λ es1 n1 a1 f1. settled [] (suc k) (labels_behind (shape_of x) k labels) es1 n1 a1 f1)
  settled (x ∷ y ∷ []) k labels es n a f =
      one x (y ∷ []) k labels es n a f (λ es1 n1 a1 f1. settled (y ∷ []) (suc k) (labels_behind (shape_of x) k labels) es1 n1 a1 f1)
  settled (x ∷ y ∷ z ∷ ops) k labels es n a f =
      three x y z ops k labels es (guard_by x y z) refl n
      (one x (y ∷ z ∷ ops) k labels es n a f (λ es1 n1 a1 f1. settled (y ∷ z ∷ ops) (suc k) (labels_behind (shape_of x) k labels) es1 n1 a1 f1))
      (λ m. settled ops (suc (suc (suc k))) labels es m a (falls_up (suc k) (suc (suc (suc (suc k)))) labels (omega arith) f))

-- no start is among the lists, or the start values
abbrev IsNoStart : Paced → Type 0
IsNoStart p = is_start p.prim ≡ false

-- of code
every_at : (P : Paced → Type 0) (ps : List Paced) (i : ℕ) (p : Paced) → Every P ps → slice_get ps i ≡ Some p → P p
every_at P [] i p h e = absurd (cc)
every_at P (q ∷ ps) zero p h e = let same : q ≡ p = cc in subst P same h.0
every_at P (q ∷ ps) (suc i) p h e = every_at P ps i p h.1 e

ends : (ps : List Paced) (q : Paced) (i : ℕ) (p : Paced) → slice_get (ps ++ q ∷ []) i ≡ Some p → (slice_get (ps ++ q ∷ []) (length ps) ≡ Some q) × (i ≤ length ps)
ends [] q zero p e = (refl, omega arith)
ends [] q (suc i) p e = absurd (cc)
ends (x ∷ ps) q zero p e = ((ends ps q 0 (first_of ps q).0 (first_of ps q).1).0, omega arith)
  where
    first_of : (xs : List Paced) (y : Paced) → (z : Paced) × (slice_get (xs ++ y ∷ []) 0 ≡ Some z)
    first_of [] y = (y, refl)
    first_of (x ∷ xs) y = (x, refl)
ends (x ∷ ps) q (suc i) p e = let h = ends ps q i p e in (h.0, omega (arith, h.1))

-- a label is not the last, which has words
followed : (ps : List Paced) (q : Paced) (l : ℕ) → has_words q.prim ≡ true → is_name (table.shape_of q.prim) l ≡ false → Placed (ps ++ q ∷ []) l →
    IsPlaced (ps ++ q ∷ []) l
followed ps q l words other h =
    let last = ends ps q (label_place (ps ++ q ∷ []) l) h.stands.0 h.stands.1 in
    let apart : label_place (ps ++ q ∷ []) l ≢ length ps = λ e.
    let same : q ≡ h.stands.0 = cc (last.0, h.stands.1, ap (slice_get (ps ++ q ∷ [])) e) in
    cc (other, h.stands.2, ap (λ x. is_name (table.shape_of x.prim) l) same) in
    record {
      stands = h.stands;
      once = h.once;
      before = (length ps, q, last.0, words, let le : label_place (ps ++ q ∷ []) l ≤ length ps = last.1 in omega (arith, le, apart));
    }

either_start : (b : Bool) (ps qs : List Paced) → Every IsNoStart ps → Every IsNoStart qs → Every IsNoStart (if b then ps else qs)
either_start b ps qs h g = either IsNoStart b ps qs h g

less_starts : (o : Layout) (w u : NumSource) (m : ℕ) → Every IsNoStart (unless_less o w u m)
less_starts o (V a) (V b) m = (refl, (refl, tt))
less_starts o (V a) (N n) m = (refl, (refl, tt))
less_starts o (N n) (V b) m = either_start (int_lt n (pos 32767)) _ _ (refl, (refl, tt)) (refl, tt)
less_starts o (N n) (N k) m = either_start (int_lt n k) _ _ tt (refl, tt)

equal_starts : (o : Layout) (w u : NumSource) (m : ℕ) → Every IsNoStart (unless_equal o w u m)
equal_starts o (V a) (V b) m = (refl, (refl, tt))
equal_starts o (V a) (N n) m = (refl, (refl, tt))
equal_starts o (N n) (V b) m = (refl, (refl, tt))
equal_starts o (N n) (N k) m = either_start (int_eq n k) _ _ tt (refl, tt)

sum_starts : (o : Layout) (v : ℕ) (w u : NumSource) → IsNoStart (sum o v w u)
sum_starts o v (V a) (V b) = refl
sum_starts o v (V a) (N n) = refl
sum_starts o v (N n) (V b) = refl
sum_starts o v (N n) (N m) = refl

difference_starts : (o : Layout) (v : ℕ) (w u : NumSource) → IsNoStart (difference o v w u)
difference_starts o v (V a) (V b) = refl
difference_starts o v (V a) (N n) = refl
difference_starts o v (N n) (V b) = refl
difference_starts o v (N n) (N m) = refl

known_starts : (o : Layout) (v : ℕ) (x : Option ℤ) → Every IsNoStart (put_known o v x)
known_starts o v None = tt
known_starts o v (Some n) = (refl, tt)

look_up_starts : (o : Layout) (v : ℕ) (w : NumSource) (values : List ℤ) (m : ℕ) → Every IsNoStart (look_up o v w values m)
look_up_starts o v (N i) values m = known_starts o v (value_at values i)
look_up_starts o v (V w) [] m = tt
look_up_starts o v (V w) (n ∷ []) m = (refl, (refl, (refl, (refl, tt))))
look_up_starts o v (V w) (n ∷ k ∷ ns) m = (refl, (refl, (refl, (refl, (refl, (refl, tt))))))

list_starts : (o : Layout) (op : IntOp) (m top : ℕ) → Every IsNoStart (list_of o op m top)
list_starts o (Set b) m top = (refl, tt)
list_starts o (Clr b) m top = (refl, tt)
list_starts o (Cpy b f) m top = (refl, tt)
list_starts o (Not b f) m top = (refl, tt)
list_starts o (Ifs f) m top = (refl, tt)
list_starts o (Ifc f) m top = (refl, tt)
list_starts o (Iflt w u) m top = less_starts o w u m
list_starts o (Ifeq w u) m top = equal_starts o w u m
list_starts o Els m top = (refl, (refl, tt))
list_starts o Fi m top = (refl, tt)
list_starts o (Lit v n) m top = (refl, tt)
list_starts o (Mov v f) m top = (refl, tt)
list_starts o (Add v w u) m top = (sum_starts o v w u, tt)
list_starts o (Sub v w u) m top = (difference_starts o v w u, tt)
list_starts o (Mul v w u) m top = every_product IsNoStart o v w u (λ n. refl) (refl, (refl, (refl, (refl, tt))))
list_starts o (Div v w u) m top = every_quotient IsNoStart o v w u (λ n. refl) (refl, (refl, (refl, (refl, tt))))
list_starts o (Inc v) m top = (refl, tt)
list_starts o (Dec v) m top = (refl, tt)
list_starts o (Tab v w values) m top = look_up_starts o v w values m
list_starts o op m top = tt

lists_start : (o : Layout) (passed : ℕ) (ops : List IntOp) (k : ℕ) (labels : List ℕ) → Every IsNoStart (lists_of o passed ops k labels)
lists_start o zero [] k labels = tt
lists_start o (suc passed) [] k labels = tt
lists_start o (suc passed) (op ∷ ops) k labels = lists_start o passed ops (suc k) labels
lists_start o zero (op ∷ ops) k labels =
    every_joined IsNoStart (guard_of (op ∷ ops)) (λ g. put_where o g ∷ lists_of o 2 ops (suc k) labels)
    (list_of o op (label_of k) (top_of labels) ++ lists_of o zero ops (suc k) (labels_behind (shape_of op) k labels))
    (λ g. (refl, lists_start o 2 ops (suc k) labels))
    (every_on IsNoStart (list_of o op (label_of k) (top_of labels)) (lists_of o zero ops (suc k) (labels_behind (shape_of op) k labels))
    (list_starts o op (label_of k) (top_of labels)) (lists_start o zero ops (suc k) (labels_behind (shape_of op) k labels)))

values_start : (o : Layout) (ns : List ℤ) (v : ℕ) → Every IsNoStart (start_values o ns v)
values_start o [] v = tt
values_start o (n ∷ ns) v = either_start (int_eq n (pos 0)) _ _ (values_start o ns (suc v)) (refl, values_start o ns (suc v))

values_nameless : (o : Layout) (ns : List ℤ) (v : ℕ) → Every (λ p. (l : ℕ) → label_named p.prim ≡ Some l → ⊥) (start_values o ns v)
values_nameless o [] v = tt
values_nameless o (n ∷ ns) v =
    either (λ p. (l : ℕ) → label_named p.prim ≡ Some l → ⊥) (int_eq n (pos 0)) _ _ (values_nameless o ns (suc v))
    (λ l e. absurd (cc e), values_nameless o ns (suc v))

-- a list names its operation's label, and the routine that the operation calls
abbrev pub NamedBy : IntOp → ℕ → Paced → Type 0
NamedBy op m p = (l : ℕ) → label_named p.prim ≡ Some l → (l ≡ m) ⊎ IsCalledBy op l

pub named_by : (o : Layout) (op : IntOp) (m top : ℕ) → Every (NamedBy op m) (list_of o op m top)
named_by o (Ifs f) m top = every_map (NamesOnly m) (NamedBy (Ifs f) m) (list_of o (Ifs f) m top) (λ p h l e. inl (h l e)) (list_names o (Ifs f) m top refl)
named_by o (Ifc f) m top = every_map (NamesOnly m) (NamedBy (Ifc f) m) (list_of o (Ifc f) m top) (λ p h l e. inl (h l e)) (list_names o (Ifc f) m top refl)
named_by o (Iflt w u) m top = every_map (NamesOnly m) (NamedBy (Iflt w u) m) (list_of o (Iflt w u) m top) (λ p h l e. inl (h l e)) (list_names o (Iflt w u) m top refl)
named_by o (Ifeq w u) m top = every_map (NamesOnly m) (NamedBy (Ifeq w u) m) (list_of o (Ifeq w u) m top) (λ p h l e. inl (h l e)) (list_names o (Ifeq w u) m top refl)
named_by o (Ifee v a) m top = tt
named_by o Els m top = ((λ l e. inl (own m l e)), ((λ l e. absurd (cc e)), tt))
named_by o Fi m top = ((λ l e. absurd (cc e)), tt)
named_by o (Tab v w values) m top =
    every_map (NamesOnly m) (NamedBy (Tab v w values) m) (list_of o (Tab v w values) m top) (λ p h l e. inl (h l e)) (look_up_only o v w values m)
named_by o op m top = every_map (CallsBy op) (NamedBy op m) (list_of o op m top) (λ p h l e. inr (h l e)) (plain_names o op m top refl)

-- a routine that is named is called by an operation
abbrev IsCalledIn : List IntOp → ℕ → Type 0
IsCalledIn ops l = ((l ≡ 1) × (0 < count_by calls_product ops)) ⊎ ((l ≡ 3) × (0 < count_by calls_quotient ops))

abbrev pub CallsIn : List IntOp → Paced → Type 0
CallsIn ops p = (l : ℕ) → label_named p.prim ≡ Some l → l ≤ 5 → IsCalledIn ops l

pub count_more : (f : IntOp → Bool) (op : IntOp) (ops : List IntOp) → count_by f (op ∷ ops) ≡ cond (f op) 1 0 + count_by f ops
count_more f op ops = sum_by-cons (λ x. cond (f x) 1 0) op ops

called_more : (op : IntOp) (ops : List IntOp) (l : ℕ) → IsCalledIn ops l → IsCalledIn (op ∷ ops) l
called_more op ops l (inl h) = inl (h.0, omega (arith, h.1, count_more calls_product op ops))
called_more op ops l (inr h) = inr (h.0, omega (arith, h.1, count_more calls_quotient op ops))

some_first : (b : Bool) (n : ℕ) → b ≡ true → 0 < cond b 1 0 + n
some_first true n e = omega arith
some_first false n e = absurd (cc)

called_first : (op : IntOp) (ops : List IntOp) (l : ℕ) → IsCalledBy op l → IsCalledIn (op ∷ ops) l
called_first op ops l (inl h) =
    inl (h.0, subst (λ n. 0 < n) (sym (count_more calls_product op ops)) (some_first (calls_product op) (count_by calls_product ops) h.1))
called_first op ops l (inr h) =
    inr (h.0, subst (λ n. 0 < n) (sym (count_more calls_quotient op ops)) (some_first (calls_quotient op) (count_by calls_quotient ops) h.1))

first_call : (op : IntOp) (ops : List IntOp) (k l : ℕ) → 5 ≤ k → l ≤ 5 → (l ≡ suc k) ⊎ IsCalledBy op l → IsCalledIn (op ∷ ops) l
first_call op ops k l past few (inl e) = absurd (omega (arith, past, few, e))
first_call op ops k l past few (inr h) = called_first op ops l h

pub lists_call : (o : Layout) (passed : ℕ) (ops : List IntOp) (k : ℕ) (labels : List ℕ) → 5 ≤ k → Every (CallsIn ops) (lists_of o passed ops k labels)
lists_call o zero [] k labels past = tt
lists_call o (suc passed) [] k labels past = tt
lists_call o (suc passed) (op ∷ ops) k labels past =
    every_map (CallsIn ops) (CallsIn (op ∷ ops)) _ (λ p h l e few. called_more op ops l (h l e few)) (lists_call o passed ops (suc k) labels (omega (arith, past)))
lists_call o zero (op ∷ ops) k labels past =
    every_joined (CallsIn (op ∷ ops)) (guard_of (op ∷ ops)) (λ g. put_where o g ∷ lists_of o 2 ops (suc k) labels)
    (list_of o op (label_of k) (top_of labels) ++ lists_of o zero ops (suc k) (labels_behind (shape_of op) k labels))
    (λ g. (
      λ l e. absurd (cc e),
      every_map (CallsIn ops) (CallsIn (op ∷ ops)) _ (λ p h l e few. called_more op ops l (h l e few)) (lists_call o 2 ops (suc k) labels (omega (arith, past))),
    ))
    (every_on (CallsIn (op ∷ ops)) (list_of o op (label_of k) (top_of labels)) (lists_of o zero ops (suc k) (labels_behind (shape_of op) k labels))
    (every_map (NamedBy op (suc k)) (CallsIn (op ∷ ops)) _ (λ p h l e few. first_call op ops k l past few (h l e)) (named_by o op (suc k) (top_of labels)))
    (every_map (CallsIn ops) (CallsIn (op ∷ ops)) _ (λ p h l e few. called_more op ops l (h l e few))
    (lists_call o zero ops (suc k) (labels_behind (shape_of op) k labels) (omega (arith, past)))))

-- how often a label of a routine stands among the routines, by whether they are called
module _ (s : Scratch) where
  abbrev pub behind_jump : ℕ → ℕ → List Paced
  behind_jump m d = if_called (multiply s) m ++ if_called (divide s) d

  none_0 : (m d : ℕ) → standing 0 (behind_jump m d) ≡ 0
  none_0 zero zero = refl
  none_0 zero (suc d) = refl
  none_0 (suc m) zero = refl
  none_0 (suc m) (suc d) = refl

  stands_1 : (m d : ℕ) → 0 < m → standing 1 (behind_jump m d) ≡ 1
  stands_1 zero d h = absurd (omega (arith, h))
  stands_1 (suc m) zero h = refl
  stands_1 (suc m) (suc d) h = refl

  stands_2 : (m d : ℕ) → 0 < m → standing 2 (behind_jump m d) ≡ 1
  stands_2 zero d h = absurd (omega (arith, h))
  stands_2 (suc m) zero h = refl
  stands_2 (suc m) (suc d) h = refl

  stands_3 : (m d : ℕ) → 0 < d → standing 3 (behind_jump m d) ≡ 1
  stands_3 m zero h = absurd (omega (arith, h))
  stands_3 zero (suc d) h = refl
  stands_3 (suc m) (suc d) h = refl

  stands_4 : (m d : ℕ) → 0 < d → standing 4 (behind_jump m d) ≡ 1
  stands_4 m zero h = absurd (omega (arith, h))
  stands_4 zero (suc d) h = refl
  stands_4 (suc m) (suc d) h = refl

  stands_5 : (m d : ℕ) → 0 < d → standing 5 (behind_jump m d) ≡ 1
  stands_5 m zero h = absurd (omega (arith, h))
  stands_5 zero (suc d) h = refl
  stands_5 (suc m) (suc d) h = refl

  multiply_high : (m l : ℕ) → 5 < l → standing l (if_called (multiply s) m) ≡ 0
  multiply_high zero l h = refl
  multiply_high (suc m) l h =
      ap (λ b. more b (more (2 == l) 0)) (other 1 l (λ e. omega (arith, e, h))) ∙ ap (λ b. more b 0) (other 2 l (λ e. omega (arith, e, h)))

  divide_high : (d l : ℕ) → 5 < l → standing l (if_called (divide s) d) ≡ 0
  divide_high zero l h = refl
  divide_high (suc d) l h =
      ap (λ b. more b (more (4 == l) (more (5 == l) 0))) (other 3 l (λ e. omega (arith, e, h)))
      ∙ ap (λ b. more b (more (5 == l) 0)) (other 4 l (λ e. omega (arith, e, h))) ∙ ap (λ b. more b 0) (other 5 l (λ e. omega (arith, e, h)))

  none_high : (m d l : ℕ) → 5 < l → standing l (behind_jump m d) ≡ 0
  none_high m d l h =
      standing_on l (if_called (multiply s) m) (if_called (divide s) d) ∙ ap (λ n. n + standing l (if_called (divide s) d)) (multiply_high m l h)
      ∙ zero_and (standing l (if_called (divide s) d)) ∙ divide_high d l h

  -- the labels that the routines name
  multiply_named : (P : ℕ → Type 0) (m : ℕ) → (0 < m → P 2) → Every (λ p. (l : ℕ) → label_named p.prim ≡ Some l → P l) (if_called (multiply s) m)
  multiply_named P zero h = tt
  multiply_named P (suc m) h =
      let none : (l : ℕ) → None ≡ Some l → P l = λ l e. absurd (cc e) in
      (none, (none, (none, (none, (none, ((λ l e. subst P (sym (own 2 l e)) (h (omega arith))), (none, tt)))))))

  divide_named : (P : ℕ → Type 0) (d : ℕ) → (0 < d → P 4 × P 5) → Every (λ p. (l : ℕ) → label_named p.prim ≡ Some l → P l) (if_called (divide s) d)
  divide_named P zero h = tt
  divide_named P (suc d) h =
      let none : (l : ℕ) → None ≡ Some l → P l = λ l e. absurd (cc e) in
      let both = h (omega arith) in (
        none,
        (
          none,
          (
            none,
            (
              none,
              (
                none,
                (
                  none,
                  (
                    none,
                    (
                      λ l e. subst P (sym (own 5 l e)) both.1,
                      (none, (none, ((λ l e. subst P (sym (own 4 l e)) both.0), (none, (none, (none, (none, (none, tt)))))))),
                    ),
                  ),
                ),
              ),
            ),
          ),
        ),
      )

  multiply_starts : (m : ℕ) → Every IsNoStart (if_called (multiply s) m)
  multiply_starts zero = tt
  multiply_starts (suc m) = (refl, (refl, (refl, (refl, (refl, (refl, (refl, tt)))))))

  divide_starts : (d : ℕ) → Every IsNoStart (if_called (divide s) d)
  divide_starts zero = tt
  divide_starts (suc d) =
      (refl, (refl, (refl, (refl, (refl, (refl, (refl, (refl, (refl, (refl, (refl, (refl, (refl, (refl, (refl, (refl, tt))))))))))))))))

-- code of which the last primitive has words
record EndsInWords (code : List Paced) : Type 0 where
  front : List Paced
  end : Paced
  split : front ++ end ∷ [] ≡ code
  words : has_words end.prim ≡ true
  no_name : (l : ℕ) → is_name (table.shape_of end.prim) l ≡ false

ends_on : (xs ys : List Paced) → EndsInWords ys → EndsInWords (xs ++ ys)
ends_on xs ys e = record {
  front = xs ++ e.front;
  end = e.end;
  split = append_assoc xs e.front (e.end ∷ []) ∙ ap (λ zs. xs ++ zs) e.split;
  words = e.words;
  no_name = e.no_name;
}

ends_divide : (s : Scratch) (d : ℕ) → EndsInWords (divide s (suc d))
ends_divide s d = record { front = take 15 (divide s (suc d)); end = begun (suc d) Return; split = refl; words = refl; no_name = λ l. refl }

ends_routines : (s : Scratch) (m d : ℕ) → EndsInWords (paced (Jump 0) ∷ behind_jump s m d)
ends_routines s zero zero = record { front = []; end = paced (Jump 0); split = refl; words = refl; no_name = λ l. refl }
ends_routines s (suc m) zero = record {
  front = paced (Jump 0) ∷ take 6 (multiply s (suc m));
  end = begun (suc m) Return;
  split = refl;
  words = refl;
  no_name = λ l. refl;
}
ends_routines s m (suc d) = ends_on (paced (Jump 0) ∷ if_called (multiply s) m) (divide s (suc d)) (ends_divide s d)

-- it calls the routine of products, or that of quotients, only where they stand
abbrev pub Asks : ℕ → ℕ → Paced → Type 0
Asks m d p = (label_named p.prim ≡ Some 1 → 0 < m) × (label_named p.prim ≡ Some 3 → 0 < d)

asks_by : (ops : List IntOp) (p : Paced) → CallsIn ops p → Asks (count_by calls_product ops) (count_by calls_quotient ops) p
asks_by ops p h = ((λ e. one (h 1 e (omega arith))), (λ e. two (h 3 e (omega arith))))
  where
    one : IsCalledIn ops 1 → 0 < count_by calls_product ops
    one (inl g) = g.1
    one (inr g) = absurd (omega (arith, g.0))

    two : IsCalledIn ops 3 → 0 < count_by calls_quotient ops
    two (inl g) = absurd (omega (arith, g.0))
    two (inr g) = g.1

values_ask : (o : Layout) (m d : ℕ) (ns : List ℤ) (v : ℕ) → Every (Asks m d) (start_values o ns v)
values_ask o m d [] v = tt
values_ask o m d (n ∷ ns) v =
    either (Asks m d) (int_eq n (pos 0)) _ _ (values_ask o m d ns (suc v)) (((λ e. absurd (cc e)), (λ e. absurd (cc e))), values_ask o m d ns (suc v))

module _ (o : Layout) (p : IntProgram) (can : CanPlace o p) where
  abbrev code : List Paced
  code = code_of o p

  abbrev lists : List Paced
  lists = lists_of o 0 p.ops 5 []

  abbrev values : List Paced
  values = start_values o p.starts 0

  abbrev products : ℕ
  products = count_by calls_product p.ops

  abbrev quotients : ℕ
  quotients = count_by calls_quotient p.ops

  abbrev routines : List Paced
  routines = behind_jump (own_cells o.plan.target) products quotients

  all_settled : Settled lists 5 []
  all_settled = settled o p.ops 5 [] [] can.nests tt tt

  standing_code : (l : ℕ) → standing l code ≡ more (0 == l) (standing l lists + standing l routines)
  standing_code l =
      let one = standing_on l values (polling (Label 0) ∷ polling (CyclePoll 0) ∷ (lists ++ paced (Jump 0) ∷ routines)) in
      let two = standing_on l lists (paced (Jump 0) ∷ routines) in
      let three = none_standing l values (starts_names o p.starts 0) in
      one ∙ ap (λ n. n + more (0 == l) (standing l (lists ++ paced (Jump 0) ∷ routines))) three ∙ zero_and _
      ∙ ap (more (0 == l)) two

  -- a label up to 5 stands among the routines alone, but for that of the loop
  standing_low : (l : ℕ) → l ≤ 5 → standing l code ≡ more (0 == l) (standing l routines)
  standing_low l h =
      standing_code l ∙ ap (λ n. more (0 == l) (n + standing l routines)) (all_settled.stand l h) ∙ ap (more (0 == l)) (zero_and (standing l routines))

  once_0 : standing 0 code ≡ 1
  once_0 = standing_low 0 (omega arith) ∙ ap suc (none_0 (own_cells o.plan.target) products quotients)

  pub once_1 : 0 < products → standing 1 code ≡ 1
  once_1 h = standing_low 1 (omega arith) ∙ stands_1 (own_cells o.plan.target) products quotients h

  pub once_2 : 0 < products → standing 2 code ≡ 1
  once_2 h = standing_low 2 (omega arith) ∙ stands_2 (own_cells o.plan.target) products quotients h

  pub once_3 : 0 < quotients → standing 3 code ≡ 1
  once_3 h = standing_low 3 (omega arith) ∙ stands_3 (own_cells o.plan.target) products quotients h

  pub once_4 : 0 < quotients → standing 4 code ≡ 1
  once_4 h = standing_low 4 (omega arith) ∙ stands_4 (own_cells o.plan.target) products quotients h

  pub once_5 : 0 < quotients → standing 5 code ≡ 1
  once_5 h = standing_low 5 (omega arith) ∙ stands_5 (own_cells o.plan.target) products quotients h

  named_once : (l : ℕ) → 5 < l → standing l lists ≡ 1 → standing l code ≡ 1
  named_once l few h =
      let apart : (0 == l) ≡ false = other 0 l (λ e. omega (arith, e, few)) in
      standing_code l ∙ ap (λ b. more b (standing l lists + standing l routines)) apart
      ∙ ap (λ n. standing l lists + n) (none_high (own_cells o.plan.target) products quotients l few) ∙ omega (arith, h)

  called_once : (l : ℕ) → IsCalledIn p.ops l → standing l code ≡ 1
  called_once l (inl h) = ap (λ m. standing m code) h.0 ∙ once_1 h.1
  called_once l (inr h) = ap (λ m. standing m code) h.0 ∙ once_3 h.1

  -- each label that is named stands once
  abbrev NamedOnce : Paced → Type 0
  NamedOnce q = (l : ℕ) → label_named q.prim ≡ Some l → standing l code ≡ 1

  list_named : (q : Paced) → NamesIn lists q → CallsIn p.ops q → NamedOnce q
  list_named q named calls l e = by (nat_le l 5) refl
    where
      by : (b : Bool) → nat_le l 5 ≡ b → standing l code ≡ 1
      by true f = called_once l (calls l e (grind (arith, nat_tests, f)))
      by false f = let few : 5 < l = grind (arith, nat_tests, f) in named_once l few (named l e few)

  routines_named : Every NamedOnce routines
  routines_named =
      every_on NamedOnce (if_called (multiply (own_cells o.plan.target)) products) (if_called (divide (own_cells o.plan.target)) quotients)
      (multiply_named (own_cells o.plan.target) (λ l. standing l code ≡ 1) products once_2)
      (divide_named (own_cells o.plan.target) (λ l. standing l code ≡ 1) quotients (λ h. (once_4 h, once_5 h)))

  all_named : Every NamedOnce code
  all_named = (
    λ l e. absurd (cc e),
    every_on NamedOnce values _
        (every_map (λ q. (l : ℕ) → label_named q.prim ≡ Some l → ⊥) NamedOnce values (λ q no l e. absurd (no l e)) (values_nameless o p.starts 0)) (
          λ l e. absurd (cc e),
          (
            λ l e. absurd (cc e),
            every_on NamedOnce lists _ (every_both (NamesIn lists) (CallsIn p.ops) NamedOnce lists list_named all_settled.named
                (lists_call o 0 p.ops 5 [] (omega arith)))
                ((λ l e. ap (λ m. standing m code) (own 0 l e) ∙ once_0), routines_named),
          ),
        ),
  )

  -- a routine stands wherever it is called
  asked : Every (Asks products quotients) code
  asked =
      let none : (l : ℕ) → None ≡ Some l → ⊥ = λ l e. cc e in (
        ((λ e. absurd (none 1 e)), (λ e. absurd (none 3 e))),
        every_on (Asks products quotients) values _ (values_ask o products quotients p.starts 0) (
          ((λ e. absurd (none 1 e)), (λ e. absurd (none 3 e))),
          (
            ((λ e. absurd (none 1 e)), (λ e. absurd (none 3 e))),
            every_on (Asks products quotients) lists _ (every_map (CallsIn p.ops) (Asks products quotients) lists (asks_by p.ops) (lists_call o 0 p.ops 5 [] (omega arith))) (
              ((λ e. absurd (cc e)), (λ e. absurd (cc e))),
              every_on (Asks products quotients) (if_called (multiply (own_cells o.plan.target)) products) (if_called (divide (own_cells o.plan.target)) quotients)
                  (every_map (λ q. (l : ℕ) → label_named q.prim ≡ Some l → l ≡ 2) (Asks products quotients) _
                  (λ q h. ((λ e. absurd (omega (arith, h 1 e))), (λ e. absurd (omega (arith, h 3 e))))) (multiply_named (own_cells o.plan.target) (λ l. l ≡ 2) products
                  (λ h. refl)))
                  (every_map (λ q. (l : ℕ) → label_named q.prim ≡ Some l → 4 ≤ l) (Asks products quotients) _
                  (λ q h. ((λ e. absurd (omega (arith, h 1 e))), (λ e. absurd (omega (arith, h 3 e))))) (divide_named (own_cells o.plan.target) (λ l. 4 ≤ l) quotients
                  (λ h. (omega arith, omega arith)))),
            ),
          ),
        ),
      )

  pub asks_products : (i : ℕ) (q : Paced) → slice_get code i ≡ Some q → label_named q.prim ≡ Some 1 → 0 < products
  asks_products i q e named = (every_at (Asks products quotients) code i q asked e).0 named

  pub asks_quotients : (i : ℕ) (q : Paced) → slice_get code i ≡ Some q → label_named q.prim ≡ Some 3 → 0 < quotients
  asks_quotients i q e named = (every_at (Asks products quotients) code i q asked e).1 named

  -- a label that stands once is where it stands
  pub place_is : (l k : ℕ) (q : Paced) → standing l code ≡ 1 → slice_get code k ≡ Some q → is_name (table.shape_of q.prim) l ≡ true → label_place code l ≡ k
  place_is l k q once e named = sym ((placed code l once).once k q e named)

  ends_code : EndsInWords code
  ends_code =
      ends_on (booted (Start (ram_need o.plan.sizes)) ∷ values) (polling (Label 0) ∷ polling (CyclePoll 0) ∷ (lists ++ paced (Jump 0) ∷ routines))
      (ends_on (polling (Label 0) ∷ polling (CyclePoll 0) ∷ lists) (paced (Jump 0) ∷ routines) (ends_routines (own_cells o.plan.target) products quotients))

  is_placed : (l : ℕ) → standing l code ≡ 1 → IsPlaced code l
  is_placed l h =
      let e = ends_code in
      subst (λ c. IsPlaced c l) e.split (followed e.front e.end l e.words (e.no_name l) (placed (e.front ++ e.end ∷ []) l (ap (standing l) e.split ∙ h)))

  pub whole : HasLabels code
  whole = record {
    first = (booted (Start (ram_need o.plan.sizes)), refl, refl);
    others = λ i q e. every_at IsNoStart (values ++ polling (Label 0) ∷ polling (CyclePoll 0) ∷ (lists ++ paced (Jump 0) ∷ routines)) i q
        (every_on IsNoStart values _ (values_start o p.starts 0) (
          refl,
          (
            refl,
            every_on IsNoStart lists _ (lists_start o 0 p.ops 5 []) (
              refl,
              every_on IsNoStart (if_called (multiply (own_cells o.plan.target)) products) (if_called (divide (own_cells o.plan.target)) quotients)
                  (multiply_starts (own_cells o.plan.target) products) (divide_starts (own_cells o.plan.target) quotients),
            ),
          ),
        )) e;
    labels = λ i l q e named. is_placed l (every_at NamedOnce code i q all_named e l named);
  }
