-- One more name in a set that keeps the order of insertion.
use Rattle.std.proofs.Common.{◌≡◌, ℕ, ◌+◌, ◌<◌, Bool, true, false, cond, ◌||◌, List, [], ◌∷◌, ◌++◌, length, get_or, drop, map, Bor, refl, sym, ap, ◌∙◌, add-one, drop-cons}
use Rattle.std.specs.List.{list_any}
use Rattle.std.specs.Str.{bytes_eq}
use Rattle.texts.proofs.KeyLemmas.{texts, among, texts-push}
use Rattle.ladder_tree.specs.Names.{firsts_from}

by_test : (b : Bool) (ks : List (Bor (List ℕ))) (k : Bor (List ℕ)) (rest : List (List ℕ)) →
    cond b (firsts_from (texts ks) rest) (firsts_from (texts ks ++ k.now ∷ []) rest) ≡ firsts_from (texts (cond b ks (ks ++ k ∷ []))) rest
by_test true ks k rest = refl
by_test false ks k rest = ap (λ l. firsts_from l rest) (sym (texts-push ks k))

pub first_step : (names : List (Bor (List ℕ))) (i : ℕ) (d : Bor (List ℕ)) (ks : List (Bor (List ℕ))) (all : List (List ℕ)) → i < length names →
    firsts_from (texts ks) (texts (drop i names)) ≡ all →
    firsts_from (texts (cond (list_any (λ x. bytes_eq (get_or names i d).now x.now) ks) ks (ks ++ get_or names i d ∷ []))) (texts (drop (i + 1) names)) ≡ all
first_step names i d ks all lt h =
    let k = get_or names i d in
    let rest = texts (drop (i + 1) names) in
    sym (by_test (list_any (λ x. bytes_eq k.now x.now) ks) ks k rest)
    ∙ ap (λ b. cond b (firsts_from (texts ks) rest) (firsts_from (texts ks ++ k.now ∷ []) rest)) (sym (among k.now ks))
    ∙ ap (λ l. firsts_from (texts ks) (texts l)) (sym (front lt))
    ∙ h
  where
    front : i < length names → drop i names ≡ get_or names i d ∷ drop (i + 1) names
    front lt = rw add-one (drop-cons names i d lt)
