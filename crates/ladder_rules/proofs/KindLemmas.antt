-- Where no rule is broken, each contact and each coil names a bit of its kind.
use Rattle.std.proofs.Common.{◌≡◌, Bool, true, false, not, List, [], ◌∷◌, ◌++◌, Option, Some, None, refl, sym, ap, ◌∙◌}
use Rattle.std.specs.Bool.{then_some}
use Rattle.std.specs.List.{list_all}
use Rattle.std.specs.Option.{option_or}
use Rattle.ladder_tree.specs.Leaves.{all_leaves}
use Rattle.ladder_tree.specs.Names.{has_kind}
use Rattle.ladder_tree.specs.declared.element.Leaf as element
use Rattle.ladder_tree.specs.declared.element.LeafKind.{LeafKind}
use Rattle.ladder_tree.specs.declared.element.LeafKind.TheVariants.{Contacts, Coil}
use Rattle.ladder_tree.specs.declared.fault.ProjectFault.{ProjectFault}
use Rattle.ladder_tree.specs.declared.project.Project.{Project}
use Rattle.ladder_rules.specs.Places.{Placed, all_placed, spots_behind}
use Rattle.ladder_rules.specs.Rules.{is_of_kind, fault_of}
use Rattle.ladder_rules.specs.Verdict.{first_fault, offence, rule}
use Rattle.ladder_rules.specs.declared.rule.ElementRule.TheVariants.{NotRightmost, WrongKind}
use Rattle.ladder_rules.proofs.WalkLemmas.{elements, all_kept}

neither : (x y : Option ProjectFault) → option_or x y ≡ None → (x ≡ None) × (y ≡ None)
neither None y e = (refl, e)
neither (Some f) y e = let clash : ⊥ = cc in absurd clash

not_so : (b : Bool) (f : ProjectFault) → then_some (not b) f ≡ None → b ≡ true
not_so true f e = refl
not_so false f e = let clash : ⊥ = cc in absurd clash

bit_kind : (k : LeafKind) → is_of_kind k ≡ true → has_kind k ≡ true
bit_kind (Contacts name neg) e = e
bit_kind (Coil name mode) e = e
bit_kind _ e = refl

kinds_by : (p : Project) (pre : List element.Leaf) (xs : List Placed) → first_fault (fault_of WrongKind p) (spots_behind pre xs) ≡ None →
    list_all (λ l. has_kind l.kind) (elements xs) ≡ true
kinds_by p pre [] e = refl
kinds_by p pre (x ∷ xs) e =
    let both = neither (fault_of WrongKind p (record { leaf = x.leaf; before = pre; at_right_end = x.at_right_end })) _ e in
    rw (bit_kind x.leaf.kind (not_so (is_of_kind x.leaf.kind) _ both.0), kinds_by p (pre ++ x.leaf ∷ []) xs both.1) refl

pub kinds_kept : (p : Project) → rule p ≡ None → list_all (λ l. has_kind l.kind) (all_leaves p.rungs) ≡ true
kinds_kept p e =
    let behind = (neither (offence p NotRightmost) _ e).1 in
    let kept = (neither (offence p WrongKind) _ behind).0 in
    ap (λ ls. list_all (λ l. has_kind l.kind) ls) (sym (all_kept p.rungs)) ∙ kinds_by p [] (all_placed p.rungs) kept
