-- Induction over nodes, by lists of nodes.
use Rattle.std.specs.Prelude.{◌≡◌, List, [], ◌∷◌, map}
use Rattle.std.proofs.Common.{subst, sym}
use Rattle.ladder_tree.specs.declared.element.Leaf as leaf
use Rattle.ladder_tree.specs.declared.project.Node.{Node, Leaf, Series, Parallel}
use Rattle.ladder_tree.specs.declared.project.Node.TheOpen.{Node-F}
use Rattle.ladder_tree.specs.declared.project.Node.TheFolds.{ind-Node}
use Rattle.ladder_tree.specs.declared.project.Node.TheViews.{roll-Node}
use Rattle.ladder_tree.specs.declared.project.Node.TheVariants.{rolls-Leaf, rolls-Series, rolls-Parallel}

-- P holds of each node
abbrev pub Each : (Node → Type 0) → List Node → Type 0
Each P [] = Unit {0}
Each P (n ∷ ns) = P n × Each P ns

each_of : (P : Node → Type 0) → (es : List ((n : Node) × P n)) → Each P (map (λ e. e.0) es)
each_of P [] = tt
each_of P (e ∷ es) = (e.1, each_of P es)

module _ (P : Node → Type 0) (on_leaf : (l : leaf.Leaf) → P (Leaf l)) (on_series : (ns : List Node) → Each P ns → P (Series ns))
    (on_parallel : (ns : List Node) → Each P ns → P (Parallel ns)) where
  on_layer : (y : Node-F ((n : Node) × P n)) (x : Node-F Node) → elim y as (λ _. Node-F Node) [
    | Node-F.Leaf l ↦ Node-F.Leaf l
    | Node-F.Series es ↦
        Node-F.Series (map (λ e. e.0) es)
    | Node-F.Parallel es ↦ Node-F.Parallel (map (λ e. e.0) es)
  ] ≡ x → P (roll-Node x)
  on_layer (Node-F.Leaf l) x is = subst (λ z. P (roll-Node z)) is (subst P (sym (rolls-Leaf l)) (on_leaf l))
  on_layer (Node-F.Series es) x is = subst (λ z. P (roll-Node z)) is (subst P (sym (rolls-Series (map (λ e. e.0) es))) (on_series _ (each_of P es)))
  on_layer (Node-F.Parallel es) x is = subst (λ z. P (roll-Node z)) is (subst P (sym (rolls-Parallel (map (λ e. e.0) es))) (on_parallel _ (each_of P es)))

  pub node_ind : (n : Node) → P n
  node_ind = ind-Node P (λ x y is. on_layer y x is)
