-- What a fold over nodes is at each kind of node.
use Rattle.std.proofs.Common.{◌≡◌, List, map, sym, ap, ◌∙◌}
use Rattle.ladder_tree.specs.declared.element.Leaf as leaf
use Rattle.ladder_tree.specs.declared.project.Node.TheFolds.{fold-Node, fold-roll-Node}
use Rattle.ladder_tree.specs.declared.project.Node.TheOpen.{Node-F}
use Rattle.ladder_tree.specs.declared.project.Node.TheVariants.{rolls-Leaf, rolls-Series, rolls-Parallel}
use Rattle.ladder_tree.specs.declared.project.Node.{Node, Leaf, Series, Parallel}

module _ (A : Type 0) (at : Node-F A → A) where
  pub fold-Leaf : (l : leaf.Leaf) → fold-Node A at (Leaf l) ≡ at (Node-F.Leaf l)
  fold-Leaf l = ap (fold-Node A at) (sym (rolls-Leaf l)) ∙ fold-roll-Node A at (Node-F.Leaf l)

  pub fold-Series : (ns : List Node) → fold-Node A at (Series ns) ≡ at (Node-F.Series (map (fold-Node A at) ns))
  fold-Series ns = ap (fold-Node A at) (sym (rolls-Series ns)) ∙ fold-roll-Node A at (Node-F.Series ns)

  pub fold-Parallel : (ns : List Node) → fold-Node A at (Parallel ns) ≡ at (Node-F.Parallel (map (fold-Node A at) ns))
  fold-Parallel ns = ap (fold-Node A at) (sym (rolls-Parallel ns)) ∙ fold-roll-Node A at (Node-F.Parallel ns)
