-- The elements of a tree in file order, and how deep its forms stand in one another.
use Rattle.std.specs.Prelude.{ℕ, ◌+◌, max, List, [], ◌∷◌, ◌++◌, map}
use Rattle.ladder_tree.specs.declared.element.Leaf as leaf
use Rattle.ladder_tree.specs.declared.project.Node.{Node}
use Rattle.ladder_tree.specs.declared.project.Node.TheOpen.{Node-F}
use Rattle.ladder_tree.specs.declared.project.Node.TheFolds.{fold-Node}
use Rattle.ladder_tree.specs.declared.project.Rung.{Rung}

abbrev pub joined : List (List leaf.Leaf) → List leaf.Leaf
joined [] = []
joined (x ∷ xs) = x ++ joined xs

abbrev pub leaves_step : Node-F (List leaf.Leaf) → List leaf.Leaf
leaves_step (Node-F.Leaf l) = l ∷ []
leaves_step (Node-F.Series parts) = joined parts
leaves_step (Node-F.Parallel parts) = joined parts

abbrev pub leaves : Node → List leaf.Leaf
leaves = fold-Node (List leaf.Leaf) leaves_step

abbrev pub leaves_in : List Node → List leaf.Leaf
leaves_in ns = joined (map leaves ns)

abbrev pub all_leaves : List Rung → List leaf.Leaf
all_leaves [] = []
all_leaves (g ∷ gs) = leaves_in g.nodes ++ all_leaves gs

abbrev pub largest : List ℕ → ℕ
largest [] = 0
largest (x ∷ xs) = max x (largest xs)

-- how many SERIES and PARALLELs stand in one another
abbrev pub depth_step : Node-F ℕ → ℕ
depth_step (Node-F.Leaf l) = 0
depth_step (Node-F.Series parts) = largest parts + 1
depth_step (Node-F.Parallel parts) = largest parts + 1

abbrev pub depth_of : Node → ℕ
depth_of = fold-Node ℕ depth_step

abbrev pub depth_in : List Node → ℕ
depth_in ns = largest (map depth_of ns)

abbrev pub depth_of_all : List Rung → ℕ
depth_of_all [] = 0
depth_of_all (g ∷ gs) = max (depth_in g.nodes) (depth_of_all gs)
