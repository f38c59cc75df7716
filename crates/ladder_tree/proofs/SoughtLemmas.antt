-- What visitors that look for an element come to.
use Rattle.std.proofs.Common.{◌≡◌, Bool, true, false, ◌||◌, List, [], ◌∷◌, Option, Some, None, refl, ap, ◌∙◌}
use Rattle.std.specs.Prelude.{is_some}
use Rattle.std.specs.Bool.{then_some}
use Rattle.std.specs.List.{list_any}
use Rattle.std.specs.Option.{option_or}
use Rattle.ladder_tree.specs.Visit.{goes_on, visits, seeks, seeks_any, first_given}
use Rattle.ladder_tree.specs.declared.element.Leaf as element

module _ {S V : Type 0} (gives : V → element.Leaf → Option S) (v : V) where
  given_by : (o : Option S) (next : V → Option S × V) (rest : Option S) → (next v).0 ≡ rest → (goes_on (o, v) next).0 ≡ option_or o rest
  given_by None next rest h = h
  given_by (Some stop) next rest h = refl

  -- what such a visitor stops with
  pub given : (ls : List element.Leaf) → (visits (seeks gives) v ls).0 ≡ first_given (gives v) ls
  given [] = refl
  given (l ∷ ls) = given_by (gives v l) _ _ (given ls)

some_by : (b : Bool) (o : Option (Unit {0})) (more : Bool) → is_some o ≡ more → is_some (option_or (then_some b tt) o) ≡ (b || more)
some_by true o more h = refl
some_by false o more h = h

any_given : (test : element.Leaf → Bool) (ls : List element.Leaf) → is_some (first_given (λ l. then_some {T = Unit {0}} (test l) tt) ls) ≡ list_any test ls
any_given test [] = refl
any_given test (l ∷ ls) = some_by (test l) _ _ (any_given test ls)

-- whether one with a test stops
pub any_found : {V : Type 0} (passes : V → element.Leaf → Bool) (v : V) (ls : List element.Leaf) →
    is_some (visits (seeks_any passes) v ls).0 ≡ list_any (passes v) ls
any_found passes v ls = ap is_some (given (λ w l. then_some {T = Unit {0}} (passes w l) tt) v ls) ∙ any_given (passes v) ls
