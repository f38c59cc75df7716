-- The names that were collected are those of the project.
use Rattle.std.proofs.Common.{◌≡◌, ℕ, ◌+◌, List, [], ◌∷◌, ◌++◌, map, Bor, refl, ap, ◌∙◌, add-one}
use Rattle.std.specs.Fmt.{decimal}
use Rattle.ladder_tree.specs.declared.element.Leaf as leaf
use Rattle.ladder_tree.specs.declared.names.Names.{Names}
use Rattle.ladder_tree.specs.declared.project.Rung.{Rung}
use Rattle.ladder_tree.specs.Leaves.{all_leaves}
use Rattle.ladder_tree.specs.Names.{names_of, firsts, appearances, all_named, variable_names, analog_names, persistent_names, numbered_names, begins_with, memories_in}
use mathlib.Core.List.{append_assoc}

abbrev pub shown : List (Bor leaf.Leaf) → List leaf.Leaf
shown ls = map (λ l. l.now) ls

-- the same elements behind another reference
pub listed : {X : Type 0} (of : List leaf.Leaf → X) (x : X) (s items : List (Bor leaf.Leaf)) (ls : List leaf.Leaf) → x ≡ of (shown s) → s ≡ items →
    shown items ≡ ls → x ≡ of ls
listed of x s items ls e f g = e ∙ ap (λ y. of (shown y)) f ∙ ap of g

abbrev pub bits : ℕ → List leaf.Leaf → List (List ℕ)
bits letter ls = firsts (appearances (begins_with letter) ls)

pub collected : (gs : List Rung) (i o r v a p : List (List ℕ)) (m : ℕ) → i ≡ firsts (appearances (begins_with 88) (all_leaves gs)) →
    o ≡ firsts (appearances (begins_with 89) (all_leaves gs)) → r ≡ firsts (appearances (begins_with 82) (all_leaves gs)) →
    v ≡ firsts (all_named variable_names (all_leaves gs)) → a ≡ firsts (all_named analog_names (all_leaves gs)) →
    p ≡ firsts (all_named persistent_names (all_leaves gs)) → m ≡ memories_in (all_leaves gs) →
    (let names : Names = record { inputs = i; outputs = o; relays = r; variables = v; analog = a; persistent = p; memories = m } in names ≡ names_of gs)
collected gs i o r v a p m ei eo er ev ea ep em = rw (ei, eo, er, ev, ea, ep, em) refl

-- one more place of a shift register
pub one_more : (old names : List (List ℕ)) (name made : List ℕ) (k : ℕ) → names ≡ old ++ numbered_names name k → made ≡ name ++ decimal k →
    names ++ made ∷ [] ≡ old ++ numbered_names name (k + 1)
one_more old names name made k e f = rw (add-one k, e, f) (append_assoc old (numbered_names name k) ((name ++ decimal k) ∷ []))
