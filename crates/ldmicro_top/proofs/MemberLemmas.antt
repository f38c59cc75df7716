-- Which names stand in a project's lists.
use Rattle.std.proofs.Common.{◌≡◌, ℕ, Bool, true, false, ◌||◌, ◌&&◌, cond, List, [], ◌∷◌, ◌++◌, refl, sym, subst}
use Rattle.std.proofs.lemmas.Bool.{and_from, and_parts, or_left, or_right}
use Rattle.std.proofs.lemmas.Slice.Eq.{bytes_eq-Decides}
use Rattle.std.specs.List.{list_any, list_all}
use Rattle.std.specs.Str.{bytes_eq}
use Rattle.ladder_tree.specs.Names.{analog_names, persistent_names, variable_names, all_named, firsts_from, firsts}
use Rattle.ladder_tree.specs.declared.element.Leaf as leaf
use Rattle.ladder_tree.specs.declared.element.LeafKind.{LeafKind}
use Rattle.ladder_tree.specs.declared.element.LeafKind.TheVariants as kind

abbrev pub member : List ℕ → List (List ℕ) → Bool
member n names = list_any (bytes_eq n) names

-- each of the names is in the list
abbrev pub are_members : List (List ℕ) → List (List ℕ) → Bool
are_members list names = list_all (λ n. list_any (bytes_eq n) list) names

same_name : (n : List ℕ) → bytes_eq n n ≡ true
same_name n = (bytes_eq-Decides n n).1 refl

either : (a b c : Bool) → (a || b) ≡ true → (a ≡ true → c ≡ true) → (b ≡ true → c ≡ true) → c ≡ true
either true b c e f g = f refl
either false b c e f g = g e

front : (n : List ℕ) (a b : List (List ℕ)) → member n a ≡ true → member n (a ++ b) ≡ true
front n [] b h = absurd cc
front n (x ∷ a) b h = either (bytes_eq n x) (member n a) _ h (λ e. or_left _ _ e) (λ e. or_right _ _ (front n a b e))

back : (n : List ℕ) (a b : List (List ℕ)) → member n b ≡ true → member n (a ++ b) ≡ true
back n [] b h = h
back n (x ∷ a) b h = or_right _ _ (back n a b h)

kept_by : (n x : List ℕ) (seen ns : List (List ℕ)) (b : Bool) → member n (firsts_from seen ns) ≡ true → member n (firsts_from (seen ++ x ∷ []) ns) ≡ true
    → member n (cond b (firsts_from seen ns) (firsts_from (seen ++ x ∷ []) ns)) ≡ true
kept_by n x seen ns true h k = h
kept_by n x seen ns false h k = k

-- what was seen is kept
kept : (n : List ℕ) (seen ns : List (List ℕ)) → member n seen ≡ true → member n (firsts_from seen ns) ≡ true
kept n seen [] h = h
kept n seen (x ∷ ns) h = kept_by n x seen ns (member x seen) (kept n seen ns h) (kept n (seen ++ x ∷ []) ns (front n seen (x ∷ []) h))

found_by : (x : List ℕ) (seen ns : List (List ℕ)) (b : Bool) → member x seen ≡ b
    → member x (cond b (firsts_from seen ns) (firsts_from (seen ++ x ∷ []) ns)) ≡ true
found_by x seen ns true e = kept x seen ns e
found_by x seen ns false e = kept x (seen ++ x ∷ []) ns (back x seen (x ∷ []) (or_left _ _ (same_name x)))

-- what comes is found
found : (n : List ℕ) (seen ns : List (List ℕ)) → member n ns ≡ true → member n (firsts_from seen ns) ≡ true
found n seen [] h = absurd cc
found n seen (x ∷ ns) h =
    either (bytes_eq n x) (member n ns) _ h
    (λ e. subst (λ (m : List ℕ). member m (firsts_from seen (x ∷ ns)) ≡ true) (sym ((bytes_eq-Decides n x).0 e)) (found_by x seen ns (member x seen) refl))
    (λ e. kept_by n x seen ns (member x seen) (found n seen ns e) (found n (seen ++ x ∷ []) ns e))

pub in_firsts : (n : List ℕ) (ns : List (List ℕ)) → member n ns ≡ true → member n (firsts ns) ≡ true
in_firsts n ns h = found n [] ns h

-- a larger list has them too
wider : (a b names : List (List ℕ)) → ((n : List ℕ) → member n a ≡ true → member n b ≡ true) → are_members a names ≡ true → are_members b names ≡ true
wider a b [] f h = refl
wider a b (n ∷ names) f h = and_from _ _ (f n (and_parts _ _ h).0) (wider a b names f (and_parts _ _ h).1)

joined : (list a b : List (List ℕ)) → are_members list a ≡ true → are_members list b ≡ true → are_members list (a ++ b) ≡ true
joined list [] b f g = g
joined list (x ∷ a) b f g = and_from _ _ (and_parts _ _ f).0 (joined list a b (and_parts _ _ f).1 g)

analog_in : (k : LeafKind) → are_members (variable_names k) (analog_names k) ≡ true
analog_in (kind.ReadAdc name) = rw (same_name name) refl
analog_in _ = refl

persistent_in : (k : LeafKind) → are_members (variable_names k) (persistent_names k) ≡ true
persistent_in (kind.Persist name) = rw (same_name name) refl
persistent_in _ = refl

module _ (names : LeafKind → List (List ℕ)) (within : (k : LeafKind) → are_members (variable_names k) (names k) ≡ true) where
  all_within : (ls : List leaf.Leaf) → are_members (all_named variable_names ls) (all_named names ls) ≡ true
  all_within [] = refl
  all_within (l ∷ ls) =
      joined (all_named variable_names (l ∷ ls)) (names l.kind) (all_named names ls)
      (wider (variable_names l.kind) _ (names l.kind) (λ n h. front n (variable_names l.kind) (all_named variable_names ls) h) (within l.kind))
      (wider (all_named variable_names ls) _ (all_named names ls) (λ n h. back n (variable_names l.kind) (all_named variable_names ls) h) (all_within ls))

first_by : (list seen : List (List ℕ)) (x : List ℕ) (ns : List (List ℕ)) (b : Bool) → are_members list (firsts_from seen ns) ≡ true
    → are_members list (firsts_from (seen ++ x ∷ []) ns) ≡ true → are_members list (cond b (firsts_from seen ns) (firsts_from (seen ++ x ∷ []) ns)) ≡ true
first_by list seen x ns true h k = h
first_by list seen x ns false h k = k

firsts_within : (list seen ns : List (List ℕ)) → are_members list seen ≡ true → are_members list ns ≡ true → are_members list (firsts_from seen ns) ≡ true
firsts_within list seen [] h k = h
firsts_within list seen (x ∷ ns) h k =
    let rest = (and_parts _ _ k).1 in
    first_by list seen x ns (member x seen) (firsts_within list seen ns h rest)
    (firsts_within list (seen ++ x ∷ []) ns (joined list seen (x ∷ []) h (and_from _ _ (and_parts _ _ k).0 refl)) rest)

of_firsts : (vs ns : List (List ℕ)) → are_members vs ns ≡ true → are_members (firsts vs) (firsts ns) ≡ true
of_firsts vs ns h = firsts_within (firsts vs) [] ns refl (wider vs (firsts vs) ns (λ n e. in_firsts n vs e) h)

pub analog_variables : (ls : List leaf.Leaf) → are_members (firsts (all_named variable_names ls)) (firsts (all_named analog_names ls)) ≡ true
analog_variables ls = of_firsts (all_named variable_names ls) (all_named analog_names ls) (all_within analog_names analog_in ls)

pub persistent_variables : (ls : List leaf.Leaf) → are_members (firsts (all_named variable_names ls)) (firsts (all_named persistent_names ls)) ≡ true
persistent_variables ls = of_firsts (all_named variable_names ls) (all_named persistent_names ls) (all_within persistent_names persistent_in ls)
