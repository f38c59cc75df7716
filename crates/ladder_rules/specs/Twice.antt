-- Which elements need a pin that another name has.
use Rattle.std.specs.Prelude.{◌≡◌, ◌≢◌, ℕ, List, ◌∷◌, ◌++◌, Some}
use Rattle.ladder_tree.specs.Leaves.{all_leaves}
use Rattle.ladder_tree.specs.declared.element.Leaf as element
use Rattle.ladder_tree.specs.declared.fault.ProjectFault.{ProjectFault}
use Rattle.ladder_tree.specs.declared.fault.ProjectFault.TheVariants as fault
use Rattle.ladder_tree.specs.declared.project.Project.{Project}
use Rattle.ladder_rules.specs.Pins.{pinned, pin_of}

-- an element needs a pin for the name, which has the pin
abbrev pub Has : Project → element.Leaf → List ℕ → ℕ → Type 0
Has p l name pin = (pinned l.kind ≡ Some name) × (pin_of p.pins name ≡ Some pin)

-- an element behind others needs its pin for a name, and one of the others needs it for another name
abbrev pub Clashes : Project → List element.Leaf → element.Leaf → ℕ → Type 0
Clashes p before l pin =
    (a : List element.Leaf) × (m : element.Leaf) × (b : List element.Leaf) × (before ≡ a ++ m ∷ b)
    × ((name : List ℕ) × (other : List ℕ) × Has p l name pin × Has p m other pin × (name ≢ other))

-- none of the elements, in their order, clashes with those before it
abbrev pub AreClear : Project → List element.Leaf → Type 0
AreClear p ls =
    (before : List element.Leaf) (l : element.Leaf) (behind : List element.Leaf) (pin : ℕ)
    → ls ≡ before ++ l ∷ behind → Clashes p before l pin → ⊥

-- the line and the pin of the first element, in file order, that clashes with those before it
pub record IsFirstClash (p : Project) (line : ℕ) (pin : ℕ) : Type 0 where
  pub before : List element.Leaf
  pub leaf : element.Leaf
  pub behind : List element.Leaf
  pub order : all_leaves p.rungs ≡ before ++ leaf ∷ behind
  pub stands : leaf.line ≡ line
  pub clashes : Clashes p before leaf pin
  pub first : AreClear p before

-- the fault of that element
abbrev pub IsFirstFault : Project → ProjectFault → Type 0
IsFirstFault p f = (line : ℕ) × (pin : ℕ) × (f ≡ fault.PinTwice line pin) × IsFirstClash p line pin
