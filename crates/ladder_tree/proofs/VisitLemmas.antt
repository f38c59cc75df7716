-- A visit to a part of a list of elements, and then to the rest.
use Rattle.std.proofs.Common.{◌≡◌, List, [], ◌∷◌, ◌++◌, Option, Some, None, refl, sym, ap, ◌∙◌}
use Rattle.ladder_tree.specs.Visit.{goes_on, visits}
use Rattle.ladder_tree.specs.declared.element.Leaf as element

module _ {S V : Type 0} (at : V → element.Leaf → Option S × V) where
  by_end : (o : Option S × V) (f g : V → Option S × V) (next : V → Option S × V) → ((v : V) → f v ≡ goes_on (g v) next) →
      goes_on o f ≡ goes_on (goes_on o g) next
  by_end (None, v) f g next h = h v
  by_end (Some stop, v) f g next h = refl

  visits-append : (v : V) (a b : List element.Leaf) → visits at v (a ++ b) ≡ goes_on (visits at v a) (λ w. visits at w b)
  visits-append v [] b = refl
  visits-append v (l ∷ a) b = by_end (at v l) _ _ _ (λ w. visits-append w a b)

  -- a part is visited, and then the rest
  pub visits_step : (v : V) (a b rest : List element.Leaf) (o whole : Option S × V) → rest ≡ a ++ b → o ≡ visits at v a → visits at v rest ≡ whole →
      goes_on o (λ w. visits at w b) ≡ whole
  visits_step v a b rest o whole front e h = ap (λ x. goes_on x (λ w. visits at w b)) e ∙ sym (visits-append v a b) ∙ sym (ap (visits at v) front) ∙ h
