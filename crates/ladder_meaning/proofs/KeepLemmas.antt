-- What each element keeps, a cycle keeps.
use Rattle.std.proofs.Common.{ℕ, ◌+◌, Bool, List, [], ◌∷◌, map, All}
use Rattle.std.proofs.lemmas.List.Elements.{All-head}
use Rattle.ladder_tree.specs.Induct.{Each, node_ind}
use Rattle.ladder_tree.specs.Leaves.{joined, leaves_step, leaves, leaves_in, all_leaves}
use Rattle.ladder_tree.specs.declared.element.Leaf as leaf
use Rattle.ladder_tree.specs.declared.project.Node.{Node}
use Rattle.ladder_tree.specs.declared.project.Rung.{Rung}
use Rattle.ladder_tree.proofs.FoldLemmas.{fold-Leaf, fold-Series, fold-Parallel}
use Rattle.ladder_meaning.specs.Cycle.{rungs}
use Rattle.ladder_meaning.specs.Element.{Terms, element}
use Rattle.ladder_meaning.specs.Node.{Part, series, parallel, node_step, node, nodes}
use Rattle.ladder_meaning.specs.State.{Seen, Now}
use Rattle.ladder_meaning.proofs.PlaceLemmas.{all_front, all_back}

-- P holds within a cycle, and Q of the elements
module _ (p : Terms) (r : Seen) (P : Now → Type 0) (Q : leaf.Leaf → Type 0) (keeps : (l : leaf.Leaf) → Q l → (k : ℕ) (s : Now) (power : Bool) → P s →
    P (element p r l.kind k s power).now) where
  abbrev PartKeeps : Part → Type 0
  PartKeeps a = (k : ℕ) (s : Now) (power : Bool) → P s → P (a.run k s power).now

  abbrev NodeKeeps : Node → Type 0
  NodeKeeps n = All Q (leaves n) → PartKeeps (node p r n)

  series_keeps : (ns : List Node) → Each NodeKeeps ns → All Q (joined (map leaves ns)) → PartKeeps (series (map (node p r) ns))
  series_keeps [] each h k s power holds = holds
  series_keeps (n ∷ ns) each h k s power holds =
      let a = node p r n in
      let one = each.0 (all_front Q (leaves n) (leaves_in ns) h) k s power holds in
      series_keeps ns each.1 (all_back Q (leaves n) (leaves_in ns) h) (k + a.memories) (a.run k s power).now (a.run k s power).output one

  parallel_keeps : (ns : List Node) → Each NodeKeeps ns → All Q (joined (map leaves ns)) → PartKeeps (parallel (map (node p r) ns))
  parallel_keeps [] each h k s power holds = holds
  parallel_keeps (n ∷ ns) each h k s power holds =
      let a = node p r n in
      let one = each.0 (all_front Q (leaves n) (leaves_in ns) h) k s power holds in
      parallel_keeps ns each.1 (all_back Q (leaves n) (leaves_in ns) h) (k + a.memories) (a.run k s power).now power one

  node_keeps : (n : Node) → NodeKeeps n
  node_keeps = node_ind NodeKeeps
      (λ l. rw (fold-Leaf Part (node_step p r) l, fold-Leaf (List leaf.Leaf) leaves_step l) (λ h. keeps l (All-head Q l [] h)))
      (λ ns each. rw (fold-Series Part (node_step p r) ns, fold-Series (List leaf.Leaf) leaves_step ns) (series_keeps ns each))
      (λ ns each. rw (fold-Parallel Part (node_step p r) ns, fold-Parallel (List leaf.Leaf) leaves_step ns) (parallel_keeps ns each))

  each_keeps : (ns : List Node) → Each NodeKeeps ns
  each_keeps [] = tt
  each_keeps (n ∷ ns) = (node_keeps n, each_keeps ns)

  pub rungs_keep : (gs : List Rung) → All Q (all_leaves gs) → (k : ℕ) (s : Now) → P s → P (rungs p r gs k s)
  rungs_keep [] h k s holds = holds
  rungs_keep (g ∷ gs) h k s holds =
      let a = nodes p r g.nodes in
      let one = series_keeps g.nodes (each_keeps g.nodes) (all_front Q (leaves_in g.nodes) (all_leaves gs) h) k s s.master holds in
      rungs_keep gs (all_back Q (leaves_in g.nodes) (all_leaves gs) h) (k + a.memories) (a.run k s s.master).now one
