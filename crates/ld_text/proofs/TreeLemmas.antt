-- What the folds give at an element and at a form that ends.
use Rattle.std.proofs.Common.{◌≡◌, ℕ, ◌+◌, List, [], ◌∷◌, ◌++◌, sym, ap, ◌∙◌}
use Rattle.ladder_tree.specs.declared.element.Leaf as leaf
use Rattle.ladder_tree.specs.declared.project.Node.{Node, Leaf}
use Rattle.ladder_tree.specs.declared.project.Node.TheOpen.{Node-F}
use Rattle.ladder_tree.specs.declared.project.Node.TheFolds.{fold-roll-Node}
use Rattle.ladder_tree.specs.declared.project.Node.TheVariants.{rolls-Leaf, rolls-Series, rolls-Parallel}
use Rattle.ladder_tree.specs.Leaves.{leaves, leaves_in, leaves_step, depth_of, depth_in, depth_step}
use Rattle.ld_line.specs.declared.rungs.Circuit.{Circuit}
use Rattle.ld_line.specs.declared.rungs.Circuit.TheVariants as circuit
use Rattle.ld_text.specs.declared.heard.Mark.{Mark}
use Rattle.ld_text.specs.declared.heard.Mark.TheVariants as line
use Rattle.ld_text.specs.Tree.{closed}
use Rattle.ladder_tree.specs.Forms.{forms_of, forms_in, forms_step}
use Rattle.ld_text.specs.Spelling.{spelled_node, spelled_nodes, spelling_step}

pub spelled-Leaf : (l : leaf.Leaf) → spelled_node (Leaf l) ≡ line.Element l ∷ []
spelled-Leaf l = ap spelled_node (sym (rolls-Leaf l)) ∙ fold-roll-Node (List Mark) spelling_step (Node-F.Leaf l)

pub spelled-closed : (c : Circuit) (ns : List Node) → spelled_node (closed c ns) ≡ line.Open c ∷ (spelled_nodes ns ++ line.End ∷ [])
spelled-closed circuit.Series ns = ap spelled_node (sym (rolls-Series ns)) ∙ fold-roll-Node (List Mark) spelling_step (Node-F.Series ns)
spelled-closed circuit.Parallel ns = ap spelled_node (sym (rolls-Parallel ns)) ∙ fold-roll-Node (List Mark) spelling_step (Node-F.Parallel ns)

pub depth-Leaf : (l : leaf.Leaf) → depth_of (Leaf l) ≡ 0
depth-Leaf l = ap depth_of (sym (rolls-Leaf l)) ∙ fold-roll-Node ℕ depth_step (Node-F.Leaf l)

pub depth-closed : (c : Circuit) (ns : List Node) → depth_of (closed c ns) ≡ depth_in ns + 1
depth-closed circuit.Series ns = ap depth_of (sym (rolls-Series ns)) ∙ fold-roll-Node ℕ depth_step (Node-F.Series ns)
depth-closed circuit.Parallel ns = ap depth_of (sym (rolls-Parallel ns)) ∙ fold-roll-Node ℕ depth_step (Node-F.Parallel ns)

pub forms-Leaf : (l : leaf.Leaf) → forms_of (Leaf l) ≡ 0
forms-Leaf l = ap forms_of (sym (rolls-Leaf l)) ∙ fold-roll-Node ℕ forms_step (Node-F.Leaf l)

pub forms-closed : (c : Circuit) (ns : List Node) → forms_of (closed c ns) ≡ 1 + forms_in ns
forms-closed circuit.Series ns = ap forms_of (sym (rolls-Series ns)) ∙ fold-roll-Node ℕ forms_step (Node-F.Series ns)
forms-closed circuit.Parallel ns = ap forms_of (sym (rolls-Parallel ns)) ∙ fold-roll-Node ℕ forms_step (Node-F.Parallel ns)

pub leaves-Leaf : (l : leaf.Leaf) → leaves (Leaf l) ≡ l ∷ []
leaves-Leaf l = ap leaves (sym (rolls-Leaf l)) ∙ fold-roll-Node (List leaf.Leaf) leaves_step (Node-F.Leaf l)

pub leaves-closed : (c : Circuit) (ns : List Node) → leaves (closed c ns) ≡ leaves_in ns
leaves-closed circuit.Series ns = ap leaves (sym (rolls-Series ns)) ∙ fold-roll-Node (List leaf.Leaf) leaves_step (Node-F.Series ns)
leaves-closed circuit.Parallel ns = ap leaves (sym (rolls-Parallel ns)) ∙ fold-roll-Node (List leaf.Leaf) leaves_step (Node-F.Parallel ns)
