-- How deep PARALLELs of two branches or more stand in one another.
use Rattle.std.specs.Prelude.{ℕ, ◌+◌, max, List, [], ◌∷◌, map}
use Rattle.ladder_tree.specs.Leaves.{largest}
use Rattle.ladder_tree.specs.declared.project.Node.{Node}
use Rattle.ladder_tree.specs.declared.project.Node.TheOpen.{Node-F}
use Rattle.ladder_tree.specs.declared.project.Node.TheFolds.{fold-Node}
use Rattle.ladder_tree.specs.declared.project.Rung.{Rung}

-- one branch stands where the PARALLEL stands
abbrev pub nesting_of_branches : List ℕ → ℕ
nesting_of_branches [] = 0
nesting_of_branches (a ∷ []) = a
nesting_of_branches (a ∷ b ∷ rest) = largest (a ∷ b ∷ rest) + 1

abbrev pub nesting_step : Node-F ℕ → ℕ
nesting_step (Node-F.Leaf l) = 0
nesting_step (Node-F.Series parts) = largest parts
nesting_step (Node-F.Parallel parts) = nesting_of_branches parts

abbrev pub nesting : Node → ℕ
nesting = fold-Node ℕ nesting_step

abbrev pub nesting_in : List Node → ℕ
nesting_in ns = largest (map nesting ns)

abbrev pub nesting_of_parallel : List Node → ℕ
nesting_of_parallel ns = nesting_of_branches (map nesting ns)

abbrev pub nesting_of_all : List Rung → ℕ
nesting_of_all [] = 0
nesting_of_all (g ∷ gs) = max (nesting_in g.nodes) (nesting_of_all gs)
