-- One key more, where it is new.
use Rattle.std.proofs.Common.{◌≡◌, ℕ, Bool, true, false, not, ◌||◌, if◌then◌else◌, List, [], ◌∷◌, ◌++◌, map, Some, None, Bor, refl, sym, ap}
use Rattle.std.proofs.lemmas.List.{map-append}
use Rattle.std.specs.List.{list_any}
use Rattle.std.specs.Str.{bytes_eq}
use Rattle.texts.specs.Keys.{with_key, Takes}

-- what borrowed texts hold
abbrev pub texts : List (Bor (List ℕ)) → List (List ℕ)
texts ks = map (λ k. k.now) ks

pub among : (x : List ℕ) (ks : List (Bor (List ℕ))) → list_any (bytes_eq x) (texts ks) ≡ list_any (λ k. bytes_eq x k.now) ks
among x [] = refl
among x (k ∷ ks) = ap (λ b. bytes_eq x k.now || b) (among x ks)

pub texts-push : (ks : List (Bor (List ℕ))) (k : Bor (List ℕ)) → texts (ks ++ k ∷ []) ≡ texts ks ++ k.now ∷ []
texts-push ks k = map-append (λ (x : Bor (List ℕ)). x.now) ks (k ∷ [])

by_test : (b : Bool) (ks : List (Bor (List ℕ))) (k : Bor (List ℕ)) →
    Takes (if b then None else Some (texts ks ++ k.now ∷ [])) (not b) (texts (if b then ks else ks ++ k ∷ []))
by_test true ks k = refl
by_test false ks k = ap Some (sym (texts-push ks k))

pub key_added : (k : Bor (List ℕ)) (ks new : List (Bor (List ℕ))) (b : Bool) → b ≡ not (list_any (λ x. bytes_eq k.now x.now) ks)
    → new ≡ (if list_any (λ x. bytes_eq k.now x.now) ks then ks else ks ++ k ∷ []) → Takes (with_key k.now (texts ks)) b (texts new)
key_added k ks new b is now = rw (is, now, among k.now ks) (by_test (list_any (λ x. bytes_eq k.now x.now) ks) ks k)
