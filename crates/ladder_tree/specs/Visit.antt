-- A visit to elements, one after another.
use Rattle.std.specs.Prelude.{Bool, List, [], ◌∷◌, Option, Some, None}
use Rattle.std.specs.Bool.{then_some}
use Rattle.std.specs.Option.{option_or}
use Rattle.ladder_tree.specs.declared.element.Leaf as element

-- a visitor that stopped meets no more elements
abbrev pub goes_on : {S V : Type 0} → Option S × V → (V → Option S × V) → Option S × V
goes_on (None, v) next = next v
goes_on (Some stop, v) next = (Some stop, v)

-- what a visitor that meets elements in order stops with, if it stops, and what it is then
abbrev pub visits : {S V : Type 0} → (V → element.Leaf → Option S × V) → V → List element.Leaf → Option S × V
visits at v [] = (None, v)
visits at v (l ∷ ls) = goes_on (at v l) (λ w. visits at w ls)

-- a visitor that stops with what an element gives it, and stays as it is
abbrev pub seeks : {S V : Type 0} → (V → element.Leaf → Option S) → V → element.Leaf → Option S × V
seeks gives v l = (gives v l, v)

-- one that stops where an element passes its test
abbrev pub seeks_any : {V : Type 0} → (V → element.Leaf → Bool) → V → element.Leaf → Option (Unit {0}) × V
seeks_any passes = seeks (λ v l. then_some (passes v l) tt)

-- what the first element that gives anything gives
abbrev pub first_given : {S : Type 0} → (element.Leaf → Option S) → List element.Leaf → Option S
first_given gives [] = None
first_given gives (l ∷ ls) = option_or (gives l) (first_given gives ls)
