-- What a walk through elements comes to.
use Rattle.std.specs.Prelude.{ℕ, ◌+◌, Bool, List, [], ◌∷◌, take, Option, Some, None, Result, Ok, Err}
use Rattle.ladder_tree.specs.declared.element.Leaf as element
use Rattle.ladder_tree.specs.declared.fault.ProjectFault.{ProjectFault}
use Rattle.ladder_rules.specs.Places.{Placed, Spot}

-- element number k of all elements, in its place
abbrev pub spot_at : List element.Leaf → ℕ → element.Leaf → Bool → Spot
spot_at all k l end = record { leaf = l; before = take k all; at_right_end = end }

abbrev pub or_on : Option ProjectFault → Result ℕ ProjectFault → Result ℕ ProjectFault
or_on None rest = rest
or_on (Some f) rest = Err f

-- the first fault of elements behind k others, or how many there are with them
abbrev pub walk : (Spot → Option ProjectFault) → List element.Leaf → ℕ → List Placed → Result ℕ ProjectFault
walk broken all k [] = Ok k
walk broken all k (x ∷ xs) = or_on (broken (spot_at all k x.leaf x.at_right_end)) (walk broken all (k + 1) xs)

abbrev pub verdict : Option ProjectFault → Result (Unit {0}) ProjectFault
verdict None = Ok tt
verdict (Some f) = Err f
