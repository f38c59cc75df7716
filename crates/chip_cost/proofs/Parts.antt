-- What the parts of a ladder weigh, beside the needs that the rules count for it.
use Rattle.std.proofs.Common.{◌≡◌, ℕ, suc, ◌+◌, ◌*◌, ◌≤◌, Bool, false, List, [], ◌∷◌, ◌++◌, length, map, refl, sym, ap, ◌∙◌, arith}
use Rattle.std.proofs.lemmas.List.Sums.{sum_by-cons, sum_by-append}
use Rattle.std.proofs.lemmas.List.{length-map}
use Rattle.std.proofs.Math.Nat.{mul-suc}
use Rattle.std.proofs.lemmas.Bool.{or_parts}
use Rattle.std.proofs.lemmas.List.Folds.{list_any-append}
use Rattle.std.specs.List.{sum_by, list_any}
use Rattle.chip_tables.specs.declared.cost_kind.CostKind.TheVariants as cost
use Rattle.chip_tables.specs.declared.target.Target.{Target}
use Rattle.ladder_tree.proofs.FoldLemmas.{fold-Leaf, fold-Series, fold-Parallel}
use Rattle.ladder_tree.specs.Induct.{Each, node_ind}
use Rattle.ladder_tree.specs.Leaves.{leaves, leaves_in, leaves_step, all_leaves}
use Rattle.ladder_tree.specs.declared.element.Leaf as leaf
use Rattle.ladder_tree.specs.declared.project.Node.{Node}
use Rattle.ladder_tree.specs.declared.project.Rung as rung
use Rattle.ladder_rules.specs.Needs.{fixed, element_cost, cost_step, node_cost, nodes_cost, rungs_cost}
use Rattle.ladder_rules.specs.declared.cost.Column.{Column}
use Rattle.int_code.specs.Lowered as part
use Rattle.int_code.specs.Lowered.{Part, Parallel, Branch, Element, branches, parts, parts_step, parts_in, parts_of_rungs}
use Rattle.ladder_lower.proofs.PartLemmas.{joined-cons}
use Rattle.chip_cost.specs.Rows.{is_refused}

-- of a weight of parts
module _ (h : Part → ℕ) where
  abbrev weight : List Part → ℕ
  weight xs = sum_by h xs

  -- where only elements weigh, their parts weigh what the elements do
  module _ (no_rung : h part.Rung ≡ 0) (no_parallel : h Parallel ≡ 0) (no_branch : h Branch ≡ 0) where
    abbrev of_leaves : List leaf.Leaf → ℕ
    of_leaves ls = sum_by (λ l. h (Element l)) ls

    abbrev Same : Node → Type 0
    Same n = weight (parts n) ≡ of_leaves (leaves n)

    series_same : (ns : List Node) → Each Same ns → weight (parts_in ns) ≡ of_leaves (leaves_in ns)
    series_same [] e = refl
    series_same (n ∷ ns) e =
        let more = series_same ns e.1 in
        let own = e.0 in
        let a = sum_by-append h (parts n) (parts_in ns) in
        let b = sum_by-append (λ l. h (Element l)) (leaves n) (leaves_in ns) in
        rw (joined-cons (parts n) (map parts ns)) (omega (arith, more, own, a, b))

    branches_same : (ns : List Node) → Each Same ns → weight (branches (map parts ns)) ≡ of_leaves (leaves_in ns)
    branches_same [] e = refl
    branches_same (n ∷ ns) e =
        let more = branches_same ns e.1 in
        let own = e.0 in
        let a = sum_by-append h (parts n) (Branch ∷ branches (map parts ns)) in
        let c = sum_by-cons h Branch (branches (map parts ns)) in
        let b = sum_by-append (λ l. h (Element l)) (leaves n) (leaves_in ns) in
        omega (arith, more, own, a, b, c, no_branch)

    node_same : (n : Node) → Same n
    node_same = node_ind Same
        (λ l. rw (fold-Leaf (List Part) parts_step l, fold-Leaf (List leaf.Leaf) leaves_step l) refl)
        (λ ns e. rw (fold-Series (List Part) parts_step ns, fold-Series (List leaf.Leaf) leaves_step ns) (series_same ns e))
        (λ ns e. rw (fold-Parallel (List Part) parts_step ns, fold-Parallel (List leaf.Leaf) leaves_step ns)
        (let a = branches_same ns e in let b = sum_by-cons h Parallel (branches (map parts ns)) in omega (arith, a, b, no_parallel)))

    each_same : (ns : List Node) → Each Same ns
    each_same [] = tt
    each_same (n ∷ ns) = (node_same n, each_same ns)

    pub rungs_same : (gs : List rung.Rung) → weight (parts_of_rungs gs) ≡ of_leaves (all_leaves gs)
    rungs_same [] = refl
    rungs_same (g ∷ gs) =
        let own = series_same g.nodes (each_same g.nodes) in
        let more = rungs_same gs in
        let a = sum_by-cons h part.Rung (parts_in g.nodes ++ parts_of_rungs gs) in
        let b = sum_by-append h (parts_in g.nodes) (parts_of_rungs gs) in
        let c = sum_by-append (λ l. h (Element l)) (leaves_in g.nodes) (all_leaves gs) in
        omega (arith, own, more, a, b, c, no_rung)

  module _ (c : Column) (t : Target) (own_rung : h part.Rung ≤ fixed c t cost.Rung) (parallel : h Parallel ≤ fixed c t cost.Parallel)
      (branch : h Branch ≤ fixed c t cost.Branch) (element : (l : leaf.Leaf) → is_refused t l.kind ≡ false → h (Element l) ≤ element_cost c t l.kind) where
    abbrev any_refused : List leaf.Leaf → Bool
    any_refused ls = list_any (λ l. is_refused t l.kind) ls

    free_front : (a b : List leaf.Leaf) → any_refused (a ++ b) ≡ false → any_refused a ≡ false
    free_front a b e = (or_parts (any_refused a) (any_refused b) (sym (list_any-append (λ (l : leaf.Leaf). is_refused t l.kind) a b) ∙ e)).0

    free_back : (a b : List leaf.Leaf) → any_refused (a ++ b) ≡ false → any_refused b ≡ false
    free_back a b e = (or_parts (any_refused a) (any_refused b) (sym (list_any-append (λ (l : leaf.Leaf). is_refused t l.kind) a b) ∙ e)).1

    abbrev Within : Node → Type 0
    Within n = any_refused (leaves n) ≡ false → weight (parts n) ≤ node_cost c t n

    series_within : (ns : List Node) → Each Within ns → any_refused (leaves_in ns) ≡ false → weight (parts_in ns) ≤ nodes_cost c t ns
    series_within [] e free = omega arith
    series_within (n ∷ ns) e free =
        let own = e.0 (free_front (leaves n) (leaves_in ns) free) in
        let more = series_within ns e.1 (free_back (leaves n) (leaves_in ns) free) in
        let a = sum_by-append h (parts n) (parts_in ns) in
        let b = sum_by-cons (λ x. x) (node_cost c t n) (map (node_cost c t) ns) in
        rw (joined-cons (parts n) (map parts ns)) (omega (arith, own, more, a, b))

    branches_within : (ns : List Node) → Each Within ns → any_refused (leaves_in ns) ≡ false →
        weight (branches (map parts ns)) ≤ fixed c t cost.Branch * length ns + nodes_cost c t ns
    branches_within [] e free = omega arith
    branches_within (n ∷ ns) e free =
        let own = e.0 (free_front (leaves n) (leaves_in ns) free) in
        let more = branches_within ns e.1 (free_back (leaves n) (leaves_in ns) free) in
        let a = sum_by-append h (parts n) (Branch ∷ branches (map parts ns)) in
        let d = sum_by-cons h Branch (branches (map parts ns)) in
        let b = sum_by-cons (λ x. x) (node_cost c t n) (map (node_cost c t) ns) in
        let g = mul-suc (fixed c t cost.Branch) (length ns) in
        joined (fixed c t cost.Branch) (fixed c t cost.Branch * length ns) (fixed c t cost.Branch * suc (length ns)) _ _ _ _ _ _ _ _ own more a d b g branch
      where
        joined : (r rn rm all own_weight rest own_cost costs all_costs one behind : ℕ) → own_weight ≤ own_cost → rest ≤ rn + costs → all ≡ own_weight + behind →
            behind ≡ one + rest → all_costs ≡ own_cost + costs → rm ≡ rn + r → one ≤ r → all ≤ rm + all_costs
        joined r rn rm all own_weight rest own_cost costs all_costs one behind a b d e f g i = omega (arith, a, b, d, e, f, g, i)

    node_within : (n : Node) → Within n
    node_within = node_ind Within
        (λ l. rw (fold-Leaf (List Part) parts_step l, fold-Leaf ℕ (cost_step c t) l, fold-Leaf (List leaf.Leaf) leaves_step l)
        (λ free. let own = element l (or_parts (is_refused t l.kind) false free).0 in omega (arith, own)))
        (λ ns e. rw (fold-Series (List Part) parts_step ns, fold-Series ℕ (cost_step c t) ns, fold-Series (List leaf.Leaf) leaves_step ns) (series_within ns e))
        (λ ns e. rw (fold-Parallel (List Part) parts_step ns, fold-Parallel ℕ (cost_step c t) ns, fold-Parallel (List leaf.Leaf) leaves_step ns)
        (λ free. (
        let a = branches_within ns e free in
        let b = sum_by-cons h Parallel (branches (map parts ns)) in
        let d = ap (λ k. fixed c t cost.Branch * k) (length-map ns (node_cost c t)) in
        omega (arith, a, b, d, parallel)
        )))

    each_within : (ns : List Node) → Each Within ns
    each_within [] = tt
    each_within (n ∷ ns) = (node_within n, each_within ns)

    pub rungs_within : (gs : List rung.Rung) → any_refused (all_leaves gs) ≡ false → weight (parts_of_rungs gs) ≤ rungs_cost c t gs
    rungs_within [] free = omega arith
    rungs_within (g ∷ gs) free =
        let own = series_within g.nodes (each_within g.nodes) (free_front (leaves_in g.nodes) (all_leaves gs) free) in
        let more = rungs_within gs (free_back (leaves_in g.nodes) (all_leaves gs) free) in
        let a = sum_by-cons h part.Rung (parts_in g.nodes ++ parts_of_rungs gs) in
        let b = sum_by-append h (parts_in g.nodes) (parts_of_rungs gs) in
        omega (arith, own, more, a, b, own_rung)
