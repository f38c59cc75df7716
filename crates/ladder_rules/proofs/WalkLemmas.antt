-- Walks through parts of a list of elements, and what a walk through all of them comes to.
use Rattle.std.proofs.Common.{◌≡◌, ℕ, ◌+◌, ◌<◌, ◌^◌, Bool, true, ◌&&◌, List, [], ◌∷◌, ◌++◌, length, take, map, Option, Some, None, refl, sym, ap, ◌∙◌, arith, append_assoc, length-append}
use Rattle.std.specs.Prelude.{Result, Ok, Err}
use Rattle.std.specs.Option.{option_or}
use Rattle.std.proofs.Math.Seq.{take-append_seam}
use Rattle.std.proofs.lemmas.List.{length-map}
use Rattle.ladder_tree.specs.Induct.{Each, node_ind}
use Rattle.ladder_tree.specs.Leaves.{leaves, leaves_in, leaves_step, all_leaves}
use Rattle.ladder_tree.specs.declared.element.Leaf as element
use Rattle.ladder_tree.specs.declared.fault.ProjectFault.{ProjectFault}
use Rattle.ladder_tree.specs.declared.project.Node.{Node}
use Rattle.ladder_tree.specs.declared.project.Rung.{Rung}
use Rattle.ladder_rules.specs.Places.{Placed, Placing, Spot, placed, placed_series, placed_step, is_last, in_series, in_parallel, all_placed, spots, spots_behind}
use Rattle.ladder_rules.specs.Verdict.{first_fault}
use Rattle.ladder_rules.specs.Walk.{spot_at, or_on, walk, verdict}
use Rattle.ladder_tree.proofs.FoldLemmas.{fold-Leaf, fold-Series, fold-Parallel}

abbrev pub goes_on : Result ℕ ProjectFault → (ℕ → Result ℕ ProjectFault) → Result ℕ ProjectFault
goes_on (Ok n) next = next n
goes_on (Err f) next = Err f

abbrev pub fault_in : Result ℕ ProjectFault → Option ProjectFault
fault_in (Ok n) = None
fault_in (Err f) = Some f

module _ (broken : Spot → Option ProjectFault) (all : List element.Leaf) where
  by_fault : (o : Option ProjectFault) (x y : Result ℕ ProjectFault) (next : ℕ → Result ℕ ProjectFault) → x ≡ goes_on y next →
      or_on o x ≡ goes_on (or_on o y) next
  by_fault None x y next e = e
  by_fault (Some f) x y next e = refl

  walk-append : (k : ℕ) (a b : List Placed) → walk broken all k (a ++ b) ≡ goes_on (walk broken all k a) (λ n. walk broken all n b)
  walk-append k [] b = refl
  walk-append k (x ∷ a) b = by_fault (broken (spot_at all k x.leaf x.at_right_end)) _ _ _ (walk-append (k + 1) a b)

  pub walk_step : (k : ℕ) (a b rest : List Placed) (o whole : Result ℕ ProjectFault) → rest ≡ a ++ b → o ≡ walk broken all k a →
      walk broken all k rest ≡ whole → goes_on o (λ n. walk broken all n b) ≡ whole
  walk_step k a b rest o whole front e h = ap (λ x. goes_on x (λ n. walk broken all n b)) e ∙ sym (walk-append k a b) ∙ sym (ap (walk broken all k) front) ∙ h

  count_by_fault : (o : Option ProjectFault) (k n : ℕ) (a : List Placed) → (Ok n ≡ walk broken all (k + 1) a → n ≡ k + 1 + length a) →
      Ok n ≡ or_on o (walk broken all (k + 1) a) → n ≡ k + (length a + 1)
  count_by_fault None k n a f e = let h = f e in omega (arith, h)
  count_by_fault (Some x) k n a f e = let clash : ⊥ = cc in absurd clash

  walk_count : (k n : ℕ) (a : List Placed) → Ok n ≡ walk broken all k a → n ≡ k + length a
  walk_count k n [] e = let same : n ≡ k = cc in omega (arith, same)
  walk_count k n (x ∷ a) e = let h = count_by_fault (broken (spot_at all k x.leaf x.at_right_end)) k n a (walk_count (k + 1) n a) e in omega (arith, h)

  pub room_step : (k n : ℕ) (a b rest : List Placed) → rest ≡ a ++ b → Ok n ≡ walk broken all k a → k + length rest < 2 ^ 32 → n + length b < 2 ^ 32
  room_step k n a b rest front e lt =
      let count = walk_count k n a e in
      let size : length rest ≡ length a + length b = ap length front ∙ length-append a b in
      omega arith

  pub room_at : (k : ℕ) (a b rest : List Placed) → rest ≡ a ++ b → k + length rest < 2 ^ 32 → k + length a < 2 ^ 32
  room_at k a b rest front lt =
      let size : length rest ≡ length a + length b = ap length front ∙ length-append a b in
      omega arith

  first_by : (o : Option ProjectFault) (w : Result ℕ ProjectFault) (rest : Option ProjectFault) → fault_in w ≡ rest → fault_in (or_on o w) ≡ option_or o rest
  first_by None w rest e = e
  first_by (Some f) w rest e = refl

  walk_first : (pre : List element.Leaf) (k : ℕ) (xs : List Placed) → k ≡ length pre → all ≡ pre ++ map (λ x. x.leaf) xs →
      fault_in (walk broken all k xs) ≡ first_fault broken (spots_behind pre xs)
  walk_first pre k [] e h = refl
  walk_first pre k (x ∷ xs) e h =
      let before : take k all ≡ pre = rw (e, h) (take-append_seam pre (x.leaf ∷ map (λ y. y.leaf) xs)) in
      let spot : Spot = record { leaf = x.leaf; before = pre; at_right_end = x.at_right_end } in
      let rest = walk_first (pre ++ x.leaf ∷ []) (k + 1) xs (omega (arith, e, length-append pre (x.leaf ∷ [])))
      (h ∙ sym (append_assoc pre (x.leaf ∷ []) (map (λ y. y.leaf) xs))) in
      rw before (first_by (broken spot) (walk broken all (k + 1) xs) _ rest)

abbrev pub elements : List Placed → List element.Leaf
elements xs = map (λ x. x.leaf) xs

elements-append : (xs ys : List Placed) → elements (xs ++ ys) ≡ elements xs ++ elements ys
elements-append [] ys = refl
elements-append (x ∷ xs) ys = ap (λ l. x.leaf ∷ l) (elements-append xs ys)

abbrev Keeps : Node → Type 0
Keeps n = (end : Bool) → elements (placed n end) ≡ leaves n

series_keeps : (ns : List Node) → Each Keeps ns → (end : Bool) → elements (in_series (map placed ns) end) ≡ leaves_in ns
series_keeps [] h end = refl
series_keeps (n ∷ ns) h end =
    let last = end && is_last (map placed ns) in
    elements-append (placed n last) (in_series (map placed ns) end) ∙ rw (h.0 last, series_keeps ns h.1 end) refl

parallel_keeps : (ns : List Node) → Each Keeps ns → (end : Bool) → elements (in_parallel (map placed ns) end) ≡ leaves_in ns
parallel_keeps [] h end = refl
parallel_keeps (n ∷ ns) h end = elements-append (placed n end) (in_parallel (map placed ns) end) ∙ rw (h.0 end, parallel_keeps ns h.1 end) refl

node_keeps : (n : Node) → Keeps n
node_keeps = node_ind Keeps
    (λ l. rw (fold-Leaf Placing placed_step l, fold-Leaf (List element.Leaf) leaves_step l) (λ end. refl))
    (λ ns h. rw (fold-Series Placing placed_step ns, fold-Series (List element.Leaf) leaves_step ns) (series_keeps ns h))
    (λ ns h. rw (fold-Parallel Placing placed_step ns, fold-Parallel (List element.Leaf) leaves_step ns) (parallel_keeps ns h))

each_keeps : (ns : List Node) → Each Keeps ns
each_keeps [] = tt
each_keeps (n ∷ ns) = (node_keeps n, each_keeps ns)

-- the elements in their places are those of the tree in file order
pub all_kept : (gs : List Rung) → elements (all_placed gs) ≡ all_leaves gs
all_kept [] = refl
all_kept (g ∷ gs) = elements-append (placed_series g.nodes true) (all_placed gs) ∙ rw (series_keeps g.nodes (each_keeps g.nodes) true, all_kept gs) refl

pub room : (gs : List Rung) → length (all_leaves gs) < 2 ^ 32 → 0 + length (all_placed gs) < 2 ^ 32
room gs lt =
    let same : length (elements (all_placed gs)) ≡ length (all_leaves gs) = ap length (all_kept gs) in
    omega (arith, same, lt, length-map (all_placed gs) (λ x. x.leaf))

pub whole_walk : (broken : Spot → Option ProjectFault) (gs : List Rung) (o : Result ℕ ProjectFault) → o ≡ walk broken (all_leaves gs) 0 (all_placed gs) →
    fault_in o ≡ first_fault broken (spots gs)
whole_walk broken gs o e = ap fault_in e ∙ walk_first broken (all_leaves gs) [] 0 (all_placed gs) refl (sym (all_kept gs))

pub refused : (f : ProjectFault) (o : Option ProjectFault) → Some f ≡ o → Err f ≡ verdict o
refused f o e = ap verdict e

pub accepted : (o : Option ProjectFault) → None ≡ o → Ok tt ≡ verdict o
accepted o e = ap verdict e
