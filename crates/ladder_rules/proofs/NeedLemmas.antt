-- What a project within the limits needs is a small number.
use Rattle.std.proofs.Common.{◌≡◌, ℕ, ◌+◌, ◌*◌, ◌≤◌, Bool, true, false, ◌&&◌, cond, nat_le, List, [], ◌∷◌, ◌++◌, length, map, refl, arith, length-append}
use Rattle.std.proofs.lemmas.Bool.{and_parts}
use Rattle.std.specs.Prelude.{◌-◌, ◌==◌, if◌then◌else◌, Option, Some, None, slice_index_or}
use Rattle.std.specs.List.{All, list_any}
use Rattle.std.proofs.lemmas.Bool.Decides.{nat_tests}
use Rattle.std.proofs.lemmas.List.Elements.{All-nil, All-cons, All-head, All-tail}
use Rattle.std.proofs.lemmas.List.Sums.{sum_by-cons}
use Rattle.std.proofs.lemmas.List.{length-map}
use Rattle.chip_tables.specs.Cost.{cost_of}
use Rattle.chip_tables.specs.declared.cost_kind.CostKind.{CostKind}
use Rattle.chip_tables.specs.declared.cost_kind.CostKind.TheVariants as cost
use Rattle.chip_tables.specs.declared.cost_kind.Cost.{Cost}
use Rattle.chip_tables.specs.declared.target.Target.{Target}
use Rattle.chip_tables.specs.declared.target.Target.TheVariants.{F628, F877, Mega16, Interp, AnsiC}
use Rattle.ladder_tree.specs.Induct.{Each, node_ind}
use Rattle.ladder_tree.specs.Leaves.{leaves, leaves_in, leaves_step, all_leaves}
use Rattle.ladder_tree.specs.declared.element.Leaf as element
use Rattle.ladder_tree.specs.declared.element.LeafKind.{LeafKind}
use Rattle.ladder_tree.specs.declared.element.LeafKind.TheVariants.{Shift, Formatted}
use Rattle.ladder_tree.specs.declared.project.Node.{Node}
use Rattle.ladder_tree.specs.declared.project.Rung.{Rung}
use Rattle.ladder_tree.specs.Forms.{forms_of, forms_in, forms_step, forms_of_all}
use Rattle.ladder_rules.specs.Limits.{IsShort, IsWithinLimits, extent, most_extent}
use Rattle.ladder_rules.specs.Formatted.{field, field_at, field_by, is_places, mark_in}
use Rattle.ladder_rules.specs.Needs.{row_of_element, steps, fixed, each, times, field_bytes, growing, element_cost, cost_step, node_cost, nodes_cost, rungs_cost, total, uses, row_of_feature, feature_cost, feature_words}
use Rattle.ladder_rules.specs.declared.cost.Column.{Column}
use Rattle.ladder_rules.specs.declared.cost.Column.TheVariants.{Words, Cycles, Ops}
use Rattle.ladder_rules.specs.declared.survey.Feature.{Feature}
use Rattle.ladder_rules.specs.declared.survey.Feature.TheVariants.{Products, Quotients, Persistence, Serial, Analog, Modulation}
use Rattle.ladder_tree.proofs.FoldLemmas.{fold-Leaf, fold-Series, fold-Parallel}

record IsLow (c : Cost) : Type 0 where
  words : c.words ≤ 5000
  cycles : c.cycles ≤ 5000
  ops : c.ops ≤ 5000
  words_each : c.words_each ≤ 4700
  cycles_each : c.cycles_each ≤ 4700
  ops_each : c.ops_each ≤ 4700

is_low : Cost → Bool
is_low c = nat_le c.words 5000 && (nat_le c.cycles 5000 && (nat_le c.ops 5000 && (nat_le c.words_each 4700 && (nat_le c.cycles_each 4700 && nat_le c.ops_each 4700))))

within : (a b : ℕ) → nat_le a b ≡ true → a ≤ b
within a b t = grind (arith, nat_tests, t)

low : (c : Cost) → is_low c ≡ true → IsLow c
unfolding is_low
low c t =
    let a = and_parts (nat_le c.words 5000) _ t in
    let b = and_parts (nat_le c.cycles 5000) _ a.1 in
    let d = and_parts (nat_le c.ops 5000) _ b.1 in
    let e = and_parts (nat_le c.words_each 4700) _ d.1 in
    let f = and_parts (nat_le c.cycles_each 4700) (nat_le c.ops_each 4700) e.1 in
    record {
      words = within c.words 5000 a.0;
      cycles = within c.cycles 5000 b.0;
      ops = within c.ops 5000 d.0;
      words_each = within c.words_each 4700 e.0;
      cycles_each = within c.cycles_each 4700 f.0;
      ops_each = within c.ops_each 4700 f.1;
    }

all_low : (t : Target) (k : CostKind) → is_low (cost_of t k) ≡ true
unfolding is_low
all_low F628 cost.Base = refl
all_low F628 _ = refl
all_low F877 cost.Base = refl
all_low F877 _ = refl
all_low Mega16 cost.Base = refl
all_low Mega16 _ = refl
all_low Interp cost.Base = refl
all_low Interp _ = refl
all_low AnsiC cost.Base = refl
all_low AnsiC _ = refl

cost_low : (t : Target) (k : CostKind) → IsLow (cost_of t k)
cost_low t k = low (cost_of t k) (all_low t k)

fixed_low : (c : Column) (t : Target) (k : CostKind) → fixed c t k ≤ 5000
fixed_low Words t k = (cost_low t k).words
fixed_low Cycles t k = (cost_low t k).cycles
fixed_low Ops t k = (cost_low t k).ops

times_low : (a b m n : ℕ) → a ≤ m → b ≤ n → a * b ≤ m * n
times_low a b m n h k = grind arith

fewer : (k : LeafKind) → steps k ≤ extent k
fewer (Shift name places) = omega arith
fewer _ = omega arith

each_low : (c : Column) (t : Target) (k : CostKind) → each c t k ≤ 4700
each_low Words t k = (cost_low t k).words_each
each_low Cycles t k = (cost_low t k).cycles_each
each_low Ops t k = (cost_low t k).ops_each

times_few : (c : Column) (k : LeafKind) → extent k ≤ most_extent → times c k ≤ 60
times_few Words k h = let f = fewer k in omega (arith, f, h)
times_few Cycles k h = let f = fewer k in omega (arith, f, h)
times_few Ops k h = omega (arith, h)

places_few : (b : ℕ) (more : ℕ) → is_places b ≡ true → b - more ≤ 53 - more
places_few b more e = grind (arith, nat_tests, e)

field_few : (a b : ℕ) (x y : Bool) → is_places a ≡ x → is_places b ≡ y → (field_by a b).given ≤ 6
field_few a b true y e f = rw (e) (let h = places_few a 48 e in omega (arith, h))
field_few a b false true e f = rw (e, f) (by (a == 45))
  where
    by : (z : Bool) → (if z && true then field 3 (b - 47) else field 0 0).given ≤ 6
    by true = let h = places_few b 47 f in omega (arith, h)
    by false = omega arith
field_few a b false false e f = rw (e, f) (by (a == 45))
  where
    by : (z : Bool) → (if z && false then field 3 (b - 47) else field 0 0).given ≤ 6
    by true = omega arith
    by false = omega arith

found_few : (text : List ℕ) (i : Option ℕ) → (field_at text i).given ≤ 6
found_few text None = omega arith
found_few text (Some i) =
    let a = slice_index_or text (i + 1) 0 in let b = slice_index_or text (i + 2) 0 in
    field_few a b (is_places a) (is_places b) refl refl

bytes_few : (k : LeafKind) → field_bytes k ≤ 6
bytes_few (Formatted name text) = found_few text (mark_in text)
bytes_few _ = omega arith

growing_low : (c : Column) (t : Target) (k : LeafKind) → extent k ≤ most_extent → growing c t k ≤ 310200
growing_low c t k h =
    let f = times_low (each c t (row_of_element k)) (times c k) 4700 60 (each_low c t (row_of_element k)) (times_few c k h) in
    let g = times_low (each c t cost.FormattedField) (field_bytes k) 4700 6 (each_low c t cost.FormattedField) (bytes_few k) in
    omega (arith, f, g)

all_front : (a b : List element.Leaf) → All IsShort (a ++ b) → All IsShort a
all_front [] b h = All-nil IsShort
all_front (l ∷ a) b h = All-cons IsShort l a (All-head IsShort l (a ++ b) h) (all_front a b (All-tail IsShort l (a ++ b) h))

all_back : (a b : List element.Leaf) → All IsShort (a ++ b) → All IsShort b
all_back [] b h = h
all_back (l ∷ a) b h = all_back a b (All-tail IsShort l (a ++ b) h)

module _ (c : Column) (t : Target) where
  abbrev IsCheap : Node → Type 0
  IsCheap n = All IsShort (leaves n) → node_cost c t n + 5000 ≤ 330000 * (length (leaves n) + forms_of n)

  list_cheap : (ns : List Node) → Each IsCheap ns → All IsShort (leaves_in ns) →
      nodes_cost c t ns + 5000 * length ns ≤ 330000 * (length (leaves_in ns) + forms_in ns)
  list_cheap [] h short = omega arith
  list_cheap (n ∷ ns) h short =
      let f = h.0 (all_front (leaves n) (leaves_in ns) short) in
      let k = list_cheap ns h.1 (all_back (leaves n) (leaves_in ns) short) in
      omega (
        arith,
        f,
        k,
        length-append (leaves n) (leaves_in ns),
        sum_by-cons (λ x. x) (node_cost c t n) (map (node_cost c t) ns),
        sum_by-cons (λ x. x) (forms_of n) (map forms_of ns),
      )

  leaf_cheap : (l : element.Leaf) → All IsShort (l ∷ []) → element_cost c t l.kind + 5000 ≤ 330000 * (1 + 0)
  leaf_cheap l short =
      let f = fixed_low c t (row_of_element l.kind) in
      let g = growing_low c t l.kind (All-head IsShort l [] short) in
      omega (arith, f, g)

  parallel_cheap : (ns : List Node) → Each IsCheap ns → All IsShort (leaves_in ns) →
      fixed c t cost.Parallel + (fixed c t cost.Branch * length (map (node_cost c t) ns) + nodes_cost c t ns) + 5000 ≤ 330000 *
      (length (leaves_in ns) + (1 + forms_in ns))
  parallel_cheap ns h short =
      let k = list_cheap ns h short in
      let f = fixed_low c t cost.Parallel in
      let size = length-map ns (node_cost c t) in
      let g = times_low (fixed c t cost.Branch) (length (map (node_cost c t) ns)) 5000 (length ns) (fixed_low c t cost.Branch) (omega (arith, size)) in
      omega (arith, k, f, g)

  node_cheap : (n : Node) → IsCheap n
  node_cheap = node_ind IsCheap
      (λ l. rw (fold-Leaf ℕ (cost_step c t) l, fold-Leaf (List element.Leaf) leaves_step l, fold-Leaf ℕ forms_step l) (leaf_cheap l))
      (λ ns h. rw (fold-Series ℕ (cost_step c t) ns, fold-Series (List element.Leaf) leaves_step ns, fold-Series ℕ forms_step ns)
      (λ short. let k = list_cheap ns h short in omega (arith, k)))
      (λ ns h. rw (fold-Parallel ℕ (cost_step c t) ns, fold-Parallel (List element.Leaf) leaves_step ns, fold-Parallel ℕ forms_step ns) (parallel_cheap ns h))

  each_cheap : (ns : List Node) → Each IsCheap ns
  each_cheap [] = tt
  each_cheap (n ∷ ns) = (node_cheap n, each_cheap ns)

  rungs_cheap : (gs : List Rung) → All IsShort (all_leaves gs) → rungs_cost c t gs ≤ 5000 * length gs + 330000 * (length (all_leaves gs) + forms_of_all gs)
  rungs_cheap [] short = omega arith
  rungs_cheap (g ∷ gs) short =
      let f = list_cheap g.nodes (each_cheap g.nodes) (all_front (leaves_in g.nodes) (all_leaves gs) short) in
      let k = rungs_cheap gs (all_back (leaves_in g.nodes) (all_leaves gs) short) in
      let r = fixed_low c t cost.Rung in
      omega (arith, f, k, r, length-append (leaves_in g.nodes) (all_leaves gs))

  pub total_small : (gs : List Rung) → IsWithinLimits gs → total c t gs ≤ 2650000000
  total_small gs h =
      let k = rungs_cheap gs h.extents in
      let r = fixed_low c t cost.Base in
      omega (arith, k, r, h.rungs, h.elements, h.forms)

feature_by : (b : Bool) (n : ℕ) → n ≤ 5000 → cond b n 0 ≤ 5000
feature_by true n h = h
feature_by false n h = omega arith

feature_low : (t : Target) (ls : List element.Leaf) (f : Feature) → feature_cost t ls f ≤ 5000
feature_low t ls f = feature_by (list_any (λ l. uses f l.kind) ls) (fixed Words t (row_of_feature f)) (fixed_low Words t (row_of_feature f))

pub features_small : (t : Target) (ls : List element.Leaf) → feature_words t ls ≤ 30000
features_small t ls =
    let a = feature_low t ls Products in
    let b = feature_low t ls Quotients in
    let d = feature_low t ls Persistence in
    let e = feature_low t ls Serial in
    let f = feature_low t ls Analog in
    let g = feature_low t ls Modulation in
    omega (arith, a, b, d, e, f, g)
