-- Projects that are equal but for the lines that their elements stand on.
use Rattle.std.specs.Prelude.{◌≡◌, map}
use Rattle.ladder_tree.specs.declared.project.Node.{Node, Leaf, Series, Parallel}
use Rattle.ladder_tree.specs.declared.project.Node.TheOpen.{Node-F}
use Rattle.ladder_tree.specs.declared.project.Node.TheFolds.{fold-Node}
use Rattle.ladder_tree.specs.declared.project.Project.{Project}
use Rattle.ladder_tree.specs.declared.project.Rung.{Rung}

abbrev pub unlined_step : Node-F Node → Node
unlined_step (Node-F.Leaf l) = Leaf (record l { line = 0 })
unlined_step (Node-F.Series parts) = Series parts
unlined_step (Node-F.Parallel parts) = Parallel parts

-- the node with line 0 for each element
abbrev pub unlined : Node → Node
unlined = fold-Node Node unlined_step

abbrev pub unlined_rung : Rung → Rung
unlined_rung g = record { nodes = map unlined g.nodes }

abbrev pub unlined_project : Project → Project
unlined_project p = record p { rungs = map unlined_rung p.rungs }

abbrev pub SameButLines : Project → Project → Type 0
SameButLines p q = unlined_project p ≡ unlined_project q
