-- Names that are apart.
use Rattle.std.specs.Prelude.{◌≡◌, ℕ, false, List, [], ◌∷◌}
use Rattle.std.specs.List.{list_any}
use Rattle.std.specs.Str.{bytes_eq}
use Rattle.ladder_tree.specs.declared.names.Names.{Names}

-- each name is apart from those behind it
abbrev pub Apart : List (List ℕ) → Type 0
Apart [] = Unit {0}
Apart (x ∷ xs) = (list_any (λ y. bytes_eq y x) xs ≡ false) × Apart xs

-- the lists hold each name once
pub record EachApart (n : Names) : Type 0 where
  pub inputs : Apart n.inputs
  pub outputs : Apart n.outputs
  pub relays : Apart n.relays
  pub variables : Apart n.variables
  pub analog : Apart n.analog
  pub persistent : Apart n.persistent
