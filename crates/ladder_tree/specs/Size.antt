-- How many lines of a project text the rungs take: one an element, and two a SERIES, a PARALLEL and a rung.
use Rattle.std.specs.Prelude.{ℕ, ◌+◌, List, [], ◌∷◌, sum, map}
use Rattle.ladder_tree.specs.declared.project.Node.{Node}
use Rattle.ladder_tree.specs.declared.project.Node.TheOpen.{Node-F}
use Rattle.ladder_tree.specs.declared.project.Node.TheFolds.{fold-Node}
use Rattle.ladder_tree.specs.declared.project.Rung.{Rung}

abbrev pub size_step : Node-F ℕ → ℕ
size_step (Node-F.Leaf l) = 1
size_step (Node-F.Series parts) = 2 + sum parts
size_step (Node-F.Parallel parts) = 2 + sum parts

abbrev pub size_of : Node → ℕ
size_of = fold-Node ℕ size_step

abbrev pub size_in : List Node → ℕ
size_in ns = sum (map size_of ns)

abbrev pub size_of_all : List Rung → ℕ
size_of_all [] = 0
size_of_all (g ∷ gs) = 2 + (size_in g.nodes + size_of_all gs)
