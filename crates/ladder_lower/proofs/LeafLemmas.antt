-- The elements of nodes, and what is known of parts of a list of them.
use Rattle.std.proofs.Common.{◌≡◌, ◌&&◌, ℕ, Bool, true, false, List, [], ◌∷◌, ◌++◌, refl, ◌∙◌, sym}
use Rattle.std.proofs.lemmas.Bool.{and_parts}
use Rattle.std.proofs.lemmas.List.Folds.{list_all-append}
use Rattle.ladder_tree.specs.Leaves.{leaves, leaves_in, leaves_step}
use Rattle.ladder_tree.specs.declared.element.Leaf as leaf
use Rattle.ladder_tree.specs.declared.element.LeafKind.{LeafKind}
use Rattle.ladder_tree.specs.declared.project.Node.{Node, Leaf, Series, Parallel}
use Rattle.ladder_lower.specs.Fit.{is_fit, all_fit}
use Rattle.ladder_lower.specs.declared.layout.Layout.{Layout}
use Rattle.ladder_tree.proofs.FoldLemmas.{fold-Leaf, fold-Series, fold-Parallel}
use Rattle.ladder_lower.proofs.Stands.{IsNamed, AllNamed}

pub leaves-Leaf : (l : leaf.Leaf) → leaves (Leaf l) ≡ l ∷ []
leaves-Leaf = fold-Leaf (List leaf.Leaf) leaves_step

pub leaves-Series : (ns : List Node) → leaves (Series ns) ≡ leaves_in ns
leaves-Series = fold-Series (List leaf.Leaf) leaves_step

pub leaves-Parallel : (ns : List Node) → leaves (Parallel ns) ≡ leaves_in ns
leaves-Parallel = fold-Parallel (List leaf.Leaf) leaves_step

pub named_front : (p : Layout) (a b : List leaf.Leaf) → AllNamed p (a ++ b) → AllNamed p a
named_front p [] b h = tt
named_front p (l ∷ a) b h = (h.0, named_front p a b h.1)

pub named_back : (p : Layout) (a b : List leaf.Leaf) → AllNamed p (a ++ b) → AllNamed p b
named_back p [] b h = h
named_back p (l ∷ a) b h = named_back p a b h.1

pub fit_first : (cycle : ℕ) (l : leaf.Leaf) (ls : List leaf.Leaf) → all_fit cycle (l ∷ ls) ≡ true → is_fit cycle l.kind ≡ true
fit_first cycle l ls h = (and_parts (is_fit cycle l.kind) (all_fit cycle ls) h).0

pub fit_front : (cycle : ℕ) (a b : List leaf.Leaf) → all_fit cycle (a ++ b) ≡ true → all_fit cycle a ≡ true
fit_front cycle a b h = (and_parts (all_fit cycle a) (all_fit cycle b) (sym (list_all-append (λ (l : leaf.Leaf). is_fit cycle l.kind) a b) ∙ h)).0

pub fit_back : (cycle : ℕ) (a b : List leaf.Leaf) → all_fit cycle (a ++ b) ≡ true → all_fit cycle b ≡ true
fit_back cycle a b h = (and_parts (all_fit cycle a) (all_fit cycle b) (sym (list_all-append (λ (l : leaf.Leaf). is_fit cycle l.kind) a b) ∙ h)).1

-- elements that operations can hold: their names have places, and their numbers fit
pub record Apt (p : Layout) (ls : List leaf.Leaf) : Type 0 where
  pub named : AllNamed p ls
  pub fit : all_fit p.cycle ls ≡ true

pub record IsApt (p : Layout) (kind : LeafKind) : Type 0 where
  pub named : IsNamed p kind
  pub fit : is_fit p.cycle kind ≡ true

pub apt_first : (p : Layout) (l : leaf.Leaf) (ls : List leaf.Leaf) → Apt p (l ∷ ls) → IsApt p l.kind
apt_first p l ls h = record { named = h.named.0; fit = fit_first p.cycle l ls h.fit }

pub apt_front : (p : Layout) (a b : List leaf.Leaf) → Apt p (a ++ b) → Apt p a
apt_front p a b h = record { named = named_front p a b h.named; fit = fit_front p.cycle a b h.fit }

pub apt_back : (p : Layout) (a b : List leaf.Leaf) → Apt p (a ++ b) → Apt p b
apt_back p a b h = record { named = named_back p a b h.named; fit = fit_back p.cycle a b h.fit }
