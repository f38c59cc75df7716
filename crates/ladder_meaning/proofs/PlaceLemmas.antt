-- A project's persistent names stand in its list of them.
use Rattle.std.proofs.Common.{◌≡◌, ℕ, ◌+◌, ◌<◌, Bool, true, false, cond, List, [], ◌∷◌, ◌++◌, ◌||◌, length, All, suc, refl, sym, arith}
use Rattle.std.proofs.lemmas.Bool.Decides.{not_from_Decides}
use Rattle.std.proofs.lemmas.List.Elements.{All-nil, All-cons, All-head, All-tail}
use Rattle.std.proofs.lemmas.Slice.Eq.{bytes_eq-Decides}
use Rattle.std.specs.List.{list_any}
use Rattle.std.specs.Str.{bytes_eq}
use Rattle.ladder_tree.specs.declared.element.Leaf as leaf
use Rattle.ladder_tree.specs.Names.{all_named, persistent_names, firsts_from, firsts}
use Rattle.ladder_meaning.specs.State.{place_of}

module _ {X : Type 0} (P : X → Type 0) where
  pub all_front : (xs ys : List X) → All P (xs ++ ys) → All P xs
  all_front [] ys h = All-nil P
  all_front (x ∷ xs) ys h = All-cons P x xs (All-head P x (xs ++ ys) h) (all_front xs ys (All-tail P x (xs ++ ys) h))

  pub all_back : (xs ys : List X) → All P (xs ++ ys) → All P ys
  all_back [] ys h = h
  all_back (x ∷ xs) ys h = all_back xs ys (All-tail P x (xs ++ ys) h)

abbrev pub IsPlaced : List (List ℕ) → List ℕ → Type 0
IsPlaced names name = place_of names name < length names

placed_by : (b : Bool) (i n : ℕ) → (b ≡ false → i < n) → cond b 0 (i + 1) < suc n
placed_by true i n h = omega arith
placed_by false i n h = omega (arith, h refl)

left_by : (b : Bool) (i n : ℕ) → cond b 0 (i + 1) < suc n → b ≡ false → i < n
left_by true i n h e = absurd (cc)
left_by false i n h e = omega (arith, h)

placed_front : (xs ys : List (List ℕ)) (name : List ℕ) → IsPlaced xs name → IsPlaced (xs ++ ys) name
placed_front [] ys name h = absurd (omega (arith, h))
placed_front (x ∷ xs) ys name h =
    placed_by (bytes_eq x name) (place_of (xs ++ ys) name) (length (xs ++ ys))
    (λ e. placed_front xs ys name (left_by (bytes_eq x name) (place_of xs name) (length xs) h e))

placed_last : (xs : List (List ℕ)) (name : List ℕ) → IsPlaced (xs ++ name ∷ []) name
placed_last [] name = placed_by (bytes_eq name name) 0 0 (λ e. absurd (not_from_Decides (bytes_eq name name) (bytes_eq-Decides name name) e refl))
placed_last (x ∷ xs) name = placed_by (bytes_eq x name) (place_of (xs ++ name ∷ []) name) (length (xs ++ name ∷ [])) (λ e. placed_last xs name)

other_true : (a b : Bool) → (a || b) ≡ true → (a ≡ true → ⊥) → b ≡ true
other_true true b h f = absurd (f refl)
other_true false b h f = h

placed_seen : (xs : List (List ℕ)) (name : List ℕ) → list_any (bytes_eq name) xs ≡ true → IsPlaced xs name
placed_seen [] name h = absurd (cc)
placed_seen (x ∷ xs) name h =
    let differs : bytes_eq x name ≡ false → bytes_eq name x ≡ true → ⊥ =
    λ e f. not_from_Decides (bytes_eq x name) (bytes_eq-Decides x name) e (sym ((bytes_eq-Decides name x).0 f)) in
    placed_by (bytes_eq x name) (place_of xs name) (length xs) (λ e. placed_seen xs name (other_true (bytes_eq name x) (list_any (bytes_eq name) xs) h
    (differs e)))

kept_by : (xs ns : List (List ℕ)) (n name : List ℕ) (b : Bool) → ((xs : List (List ℕ)) → IsPlaced xs name → IsPlaced (firsts_from xs ns) name)
    → IsPlaced xs name → IsPlaced (cond b (firsts_from xs ns) (firsts_from (xs ++ n ∷ []) ns)) name
kept_by xs ns n name true rest h = rest xs h
kept_by xs ns n name false rest h = rest (xs ++ n ∷ []) (placed_front xs (n ∷ []) name h)

-- a name stays in the list that grows
firsts_keep : (ns : List (List ℕ)) (name : List ℕ) (xs : List (List ℕ)) → IsPlaced xs name → IsPlaced (firsts_from xs ns) name
firsts_keep [] name xs h = h
firsts_keep (n ∷ ns) name xs h = kept_by xs ns n name (list_any (bytes_eq n) xs) (firsts_keep ns name) h

held_by : (xs ns : List (List ℕ)) (n : List ℕ) (b : Bool) → list_any (bytes_eq n) xs ≡ b → ((xs : List (List ℕ)) → All (IsPlaced (firsts_from xs ns)) ns)
    → All (IsPlaced (cond b (firsts_from xs ns) (firsts_from (xs ++ n ∷ []) ns))) (n ∷ ns)
held_by xs ns n true e rest = All-cons (IsPlaced (firsts_from xs ns)) n ns (firsts_keep ns n xs (placed_seen xs n e)) (rest xs)
held_by xs ns n false e rest =
    All-cons (IsPlaced (firsts_from (xs ++ n ∷ []) ns)) n ns (firsts_keep ns n (xs ++ n ∷ []) (placed_last xs n)) (rest (xs ++ n ∷ []))

firsts_hold : (ns xs : List (List ℕ)) → All (IsPlaced (firsts_from xs ns)) ns
firsts_hold [] xs = All-nil (IsPlaced xs)
firsts_hold (n ∷ ns) xs = held_by xs ns n (list_any (bytes_eq n) xs) refl (firsts_hold ns)

-- the persistent names of an element stand in the list
abbrev pub NamesPlaced : List (List ℕ) → leaf.Leaf → Type 0
NamesPlaced names l = All (IsPlaced names) (persistent_names l.kind)

each_placed : (names : List (List ℕ)) (ls : List leaf.Leaf) → All (IsPlaced names) (all_named persistent_names ls) → All (NamesPlaced names) ls
each_placed names [] h = All-nil (NamesPlaced names)
each_placed names (l ∷ ls) h =
    let front = all_front (IsPlaced names) (persistent_names l.kind) (all_named persistent_names ls) h in
    let back = all_back (IsPlaced names) (persistent_names l.kind) (all_named persistent_names ls) h in
    All-cons (NamesPlaced names) l ls front (each_placed names ls back)

pub persistent_placed : (ls : List leaf.Leaf) → All (NamesPlaced (firsts (all_named persistent_names ls))) ls
persistent_placed ls = each_placed (firsts (all_named persistent_names ls)) ls (firsts_hold (all_named persistent_names ls) [])
