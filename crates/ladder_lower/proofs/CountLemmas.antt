-- How many elements and memories trees have, and how deep PARALLELs stand in them.
use Rattle.std.proofs.Common.{◌≡◌, ℕ, ◌+◌, ◌≤◌, List, [], ◌∷◌, ◌++◌, length, map, sum, refl, arith, length-append}
use Rattle.std.proofs.lemmas.List.Sums.{sum_by-cons}
use Rattle.ladder_tree.specs.Induct.{Each, node_ind}
use Rattle.ladder_tree.specs.Leaves.{largest, leaves, leaves_in, leaves_step, all_leaves, depth_of, depth_step, depth_of_all}
use Rattle.ladder_tree.specs.Names.{memories_in}
use Rattle.ladder_tree.specs.Size.{size_of, size_step, size_of_all}
use Rattle.ladder_tree.specs.declared.element.Leaf as leaf
use Rattle.ladder_tree.specs.declared.project.Node.{Node}
use Rattle.ladder_tree.specs.declared.project.Rung.{Rung}
use Rattle.ladder_lower.specs.Nesting.{nesting_of_branches, nesting, nesting_step, nesting_of_all}
use Rattle.ladder_lower.specs.NodeCode.{parallel_code, Piece, series_code, others_code, piece, piece_step, memories_of}
use Rattle.ladder_lower.specs.declared.layout.Layout.{Layout}
use Rattle.ladder_tree.proofs.FoldLemmas.{fold-Leaf, fold-Series, fold-Parallel}

memories_append : (a b : List leaf.Leaf) → memories_in (a ++ b) ≡ memories_in a + memories_in b
memories_append [] b = omega arith
memories_append (l ∷ a) b = let h = memories_append a b in omega (arith, h)

module _ (p : Layout) where
  abbrev Counts : Node → Type 0
  Counts n = (piece p n).memories ≡ memories_in (leaves n)

  series_counts : (ns : List Node) → Each Counts ns → (series_code (map (piece p) ns)).memories ≡ memories_in (leaves_in ns)
  series_counts [] h = refl
  series_counts (n ∷ ns) h = let f = h.0 in let k = series_counts ns h.1 in omega (arith, memories_append (leaves n) (leaves_in ns))

  others_counts : (ns : List Node) → Each Counts ns → (others_code p (map (piece p) ns)).memories ≡ memories_in (leaves_in ns)
  others_counts [] h = refl
  others_counts (n ∷ ns) h = let f = h.0 in let k = others_counts ns h.1 in omega (arith, memories_append (leaves n) (leaves_in ns))

  parallel_counts : (ns : List Node) → Each Counts ns → (parallel_code p (map (piece p) ns)).memories ≡ memories_in (leaves_in ns)
  parallel_counts [] h = refl
  parallel_counts (n ∷ []) h = let f = h.0 in omega (arith, memories_append (leaves n) [])
  parallel_counts (n ∷ o ∷ ns) h = let f = h.0 in let k = others_counts (o ∷ ns) h.1 in omega (arith, memories_append (leaves n) (leaves_in (o ∷ ns)))

  node_counts : (n : Node) → Counts n
  node_counts = node_ind Counts
      (λ l. rw (fold-Leaf Piece (piece_step p) l, fold-Leaf (List leaf.Leaf) leaves_step l) (omega arith))
      (λ ns h. rw (fold-Series Piece (piece_step p) ns, fold-Series (List leaf.Leaf) leaves_step ns) (series_counts ns h))
      (λ ns h. rw (fold-Parallel Piece (piece_step p) ns, fold-Parallel (List leaf.Leaf) leaves_step ns) (parallel_counts ns h))

  each_counts : (ns : List Node) → Each Counts ns
  each_counts [] = tt
  each_counts (n ∷ ns) = (node_counts n, each_counts ns)

  pub rungs_count_memories : (gs : List Rung) → memories_of p gs ≡ memories_in (all_leaves gs)
  rungs_count_memories [] = refl
  rungs_count_memories (g ∷ gs) =
      let f = series_counts g.nodes (each_counts g.nodes) in let k = rungs_count_memories gs in
      omega (arith, memories_append (leaves_in g.nodes) (all_leaves gs))

-- a tree has as many lines as elements, and more for its forms
abbrev IsSized : Node → Type 0
IsSized n = length (leaves n) ≤ size_of n

list_sized : (ns : List Node) → Each IsSized ns → length (leaves_in ns) ≤ sum (map size_of ns)
list_sized [] h = omega arith
list_sized (n ∷ ns) h =
    let f = h.0 in let k = list_sized ns h.1 in omega (arith, length-append (leaves n) (leaves_in ns), sum_by-cons (λ x. x) (size_of n) (map size_of ns))

node_sized : (n : Node) → IsSized n
node_sized = node_ind IsSized
    (λ l. rw (fold-Leaf ℕ size_step l, fold-Leaf (List leaf.Leaf) leaves_step l) (omega arith))
    (λ ns h. rw (fold-Series ℕ size_step ns, fold-Series (List leaf.Leaf) leaves_step ns) (let k = list_sized ns h in omega arith))
    (λ ns h. rw (fold-Parallel ℕ size_step ns, fold-Parallel (List leaf.Leaf) leaves_step ns) (let k = list_sized ns h in omega arith))

each_sized : (ns : List Node) → Each IsSized ns
each_sized [] = tt
each_sized (n ∷ ns) = (node_sized n, each_sized ns)

pub rungs_sized : (gs : List Rung) → length (all_leaves gs) ≤ size_of_all gs
rungs_sized [] = omega arith
rungs_sized (g ∷ gs) =
    let f = list_sized g.nodes (each_sized g.nodes) in let k = rungs_sized gs in omega (arith, length-append (leaves_in g.nodes) (all_leaves gs))

-- PARALLELs stand in one another no deeper than all forms
abbrev IsNested : Node → Type 0
IsNested n = nesting n ≤ depth_of n

list_nested : (ns : List Node) → Each IsNested ns → largest (map nesting ns) ≤ largest (map depth_of ns)
list_nested [] h = omega arith
list_nested (n ∷ ns) h = let f = h.0 in let k = list_nested ns h.1 in omega arith

parallel_nested : (ns : List Node) → Each IsNested ns → nesting_of_branches (map nesting ns) ≤ largest (map depth_of ns) + 1
parallel_nested [] h = omega arith
parallel_nested (n ∷ []) h = let f = h.0 in omega arith
parallel_nested (n ∷ o ∷ ns) h = let k = list_nested (n ∷ o ∷ ns) h in omega arith

node_nested : (n : Node) → IsNested n
node_nested = node_ind IsNested
    (λ l. rw (fold-Leaf ℕ nesting_step l, fold-Leaf ℕ depth_step l) (omega arith))
    (λ ns h. rw (fold-Series ℕ nesting_step ns, fold-Series ℕ depth_step ns) (let k = list_nested ns h in omega arith))
    (λ ns h. rw (fold-Parallel ℕ nesting_step ns, fold-Parallel ℕ depth_step ns) (parallel_nested ns h))

each_nested : (ns : List Node) → Each IsNested ns
each_nested [] = tt
each_nested (n ∷ ns) = (node_nested n, each_nested ns)

pub rungs_nested : (gs : List Rung) → nesting_of_all gs ≤ depth_of_all gs
rungs_nested [] = omega arith
rungs_nested (g ∷ gs) = let f = list_nested g.nodes (each_nested g.nodes) in let k = rungs_nested gs in omega arith
