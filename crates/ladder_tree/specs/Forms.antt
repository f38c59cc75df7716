-- How many SERIES and PARALLELs there are.
use Rattle.std.specs.Prelude.{ℕ, ◌+◌, List, [], ◌∷◌, sum, map}
use Rattle.ladder_tree.specs.declared.project.Node.{Node}
use Rattle.ladder_tree.specs.declared.project.Node.TheOpen.{Node-F}
use Rattle.ladder_tree.specs.declared.project.Node.TheFolds.{fold-Node}
use Rattle.ladder_tree.specs.declared.project.Rung.{Rung}

abbrev pub forms_step : Node-F ℕ → ℕ
forms_step (Node-F.Leaf l) = 0
forms_step (Node-F.Series parts) = 1 + sum parts
forms_step (Node-F.Parallel parts) = 1 + sum parts

abbrev pub forms_of : Node → ℕ
forms_of = fold-Node ℕ forms_step

abbrev pub forms_in : List Node → ℕ
forms_in ns = sum (map forms_of ns)

abbrev pub forms_of_all : List Rung → ℕ
forms_of_all [] = 0
forms_of_all (g ∷ gs) = forms_in g.nodes + forms_of_all gs
