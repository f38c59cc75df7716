-- Which elements stand at the right end of their rung.
use Rattle.std.specs.Prelude.{Bool, true, false, ◌&&◌, List, [], ◌∷◌, ◌++◌, map}
use Rattle.ladder_tree.specs.declared.element.Leaf as element
use Rattle.ladder_tree.specs.declared.project.Node.{Node}
use Rattle.ladder_tree.specs.declared.project.Node.TheOpen.{Node-F}
use Rattle.ladder_tree.specs.declared.project.Node.TheFolds.{fold-Node}
use Rattle.ladder_tree.specs.declared.project.Rung.{Rung}

-- an element, and whether it stands at the right end
pub record Placed : Type 0 where
  pub leaf : element.Leaf
  pub at_right_end : Bool

-- the elements of a node in file order, by whether the node stands at the right end
abbrev pub Placing : Type 0
Placing = Bool → List Placed

abbrev pub is_last : List Placing → Bool
is_last [] = true
is_last (x ∷ xs) = false

-- the last node stands at the right end where the series does, and no other
abbrev pub in_series : List Placing → Placing
in_series [] end = []
in_series (x ∷ xs) end = x (end && is_last xs) ++ in_series xs end

-- each branch stands at the right end where the PARALLEL does
abbrev pub in_parallel : List Placing → Placing
in_parallel [] end = []
in_parallel (x ∷ xs) end = x end ++ in_parallel xs end

abbrev pub placed_step : Node-F Placing → Placing
placed_step (Node-F.Leaf l) end = record { leaf = l; at_right_end = end } ∷ []
placed_step (Node-F.Series parts) end = in_series parts end
placed_step (Node-F.Parallel parts) end = in_parallel parts end

abbrev pub placed : Node → Placing
placed = fold-Node Placing placed_step

abbrev pub placed_series : List Node → Placing
placed_series ns = in_series (map placed ns)

abbrev pub placed_parallel : List Node → Placing
placed_parallel ns = in_parallel (map placed ns)

-- a rung is a series at the right end
abbrev pub all_placed : List Rung → List Placed
all_placed [] = []
all_placed (g ∷ gs) = placed_series g.nodes true ++ all_placed gs

-- An element in its place: the elements before it in file order, and whether it stands at the right end.
pub record Spot : Type 0 where
  pub leaf : element.Leaf
  pub before : List element.Leaf
  pub at_right_end : Bool

abbrev pub spots_behind : List element.Leaf → List Placed → List Spot
spots_behind before [] = []
spots_behind before (x ∷ xs) = record { leaf = x.leaf; before = before; at_right_end = x.at_right_end } ∷ spots_behind (before ++ x.leaf ∷ []) xs

-- the elements in their places, in file order
abbrev pub spots : List Rung → List Spot
spots gs = spots_behind [] (all_placed gs)
