-- The words of assembled code, and the places in them.
use Rattle.std.proofs.Common.{◌≡◌, ℕ, zero, suc, ◌+◌, ◌≤◌, List, [], ◌∷◌, ◌++◌, length, drop, Some, refl, ap, subst, ◌∙◌, arith, append_assoc, length-append}
use Rattle.std.specs.Prelude.{slice_get, slice_index, sum_by}
use Rattle.std.proofs.lemmas.List.Sums.{sum_by-cons}
use Rattle.byte_code.specs.declared.prim.BytePrim.{BytePrim}
use Rattle.byte_code.specs.declared.prim.Paced.{Paced}
use Rattle.target_core.specs.Law.{HasAt, Target}
use Rattle.target_core.specs.Whole.{places_from, words_sum}
use Rattle.target_core.specs.Image.{image_from, table_from, marked}

pub drop_next : {X : Type 0} (xs : List X) (i : ℕ) (x : X) → slice_get xs i ≡ Some x → drop i xs ≡ x ∷ drop (i + 1) xs
drop_next [] i x e = cc
drop_next (y ∷ xs) zero x e = let f : y ≡ x = cc in ap (λ z. z ∷ xs) f
drop_next (y ∷ xs) (suc i) x e = drop_next xs i x e ∙ ap (λ n. x ∷ drop n (y ∷ xs)) (let f : suc (i + 1) ≡ suc i + 1 = omega arith in f)

pub sum_next : {X : Type 0} (f : X → ℕ) (xs : List X) (i : ℕ) (x : X) → slice_get xs i ≡ Some x → sum_by f (drop i xs) ≡ f x + sum_by f (drop (i + 1) xs)
sum_next f xs i x e = ap (sum_by f) (drop_next xs i x e) ∙ sum_by-cons f x (drop (i + 1) xs)

-- the words of the next primitive, and of those after it
pub image_next : {M : Type 0} (t : Target M) (labels : List ℕ) (at : ℕ) (code : List Paced) (i : ℕ) (p : Paced) → slice_get code i ≡ Some p →
    image_from t labels at (drop i code) ≡ t.emitted p.prim at labels ++ image_from t labels (at + t.words_in p.prim) (drop (i + 1) code)
image_next t labels at code i p e = ap (image_from t labels at) (drop_next code i p e)

pub table_next : (words : BytePrim → ℕ) (labels : List ℕ) (at : ℕ) (code : List Paced) (i : ℕ) (p : Paced) → slice_get code i ≡ Some p →
    table_from words at labels (drop i code) ≡ table_from words (at + words p.prim) (marked p.prim at labels) (drop (i + 1) code)
table_next words labels at code i p e = ap (table_from words at labels) (drop_next code i p e)

-- places
pub places_head : (words : BytePrim → ℕ) (at : ℕ) (code : List Paced) → slice_index (places_from words at code) 0 ≡ at
places_head words at [] = refl
places_head words at (p ∷ ps) = refl

pub places_next : (words : BytePrim → ℕ) (at : ℕ) (code : List Paced) (i : ℕ) (p : Paced) → slice_get code i ≡ Some p →
    slice_index (places_from words at code) (suc i) ≡ slice_index (places_from words at code) i + words p.prim
places_next words at [] i p e = cc
places_next words at (x ∷ xs) zero p e = let f : x ≡ p = cc in places_head words (at + words x.prim) xs ∙ ap (λ y. at + words y.prim) f
places_next words at (x ∷ xs) (suc i) p e = places_next words (at + words x.prim) xs i p e

pub places_within : (words : BytePrim → ℕ) (at : ℕ) (code : List Paced) (i : ℕ) (p : Paced) → slice_get code i ≡ Some p →
    slice_index (places_from words at code) (suc i) ≤ at + sum_by (λ q. words q.prim) code
places_within words at [] i p e = cc
places_within words at (x ∷ xs) zero p e = omega (arith, places_head words (at + words x.prim) xs, sum_by-cons (λ q. words q.prim) x xs)
places_within words at (x ∷ xs) (suc i) p e = omega (arith, places_within words (at + words x.prim) xs i p e, sum_by-cons (λ q. words q.prim) x xs)

-- a place behind another is no lower
pub places_up : (words : BytePrim → ℕ) (at : ℕ) (code : List Paced) (i k : ℕ) (p : Paced) → i ≤ k → slice_get code k ≡ Some p →
    slice_index (places_from words at code) i ≤ slice_index (places_from words at code) k
places_up words at [] i k p le e = cc
places_up words at (x ∷ xs) zero zero p le e = omega arith
places_up words at (x ∷ xs) zero (suc k) p le e =
    omega (arith, places_up words (at + words x.prim) xs 0 k p (omega arith) e, places_head words (at + words x.prim) xs)
places_up words at (x ∷ xs) (suc i) zero p le e = absurd (omega (arith, le))
places_up words at (x ∷ xs) (suc i) (suc k) p le e = places_up words (at + words x.prim) xs i k p (omega (arith, le)) e

-- words that stand at a place
has_front : (flash : List ℕ) (at : ℕ) (xs ys : List ℕ) → HasAt flash at (xs ++ ys) → HasAt flash at xs
has_front flash at [] ys h = tt
has_front flash at (x ∷ xs) ys h = (h.0, has_front flash (suc at) xs ys h.1)

has_back : (flash : List ℕ) (at : ℕ) (xs ys : List ℕ) → HasAt flash at (xs ++ ys) → HasAt flash (at + length xs) ys
has_back flash at [] ys h = let e : at ≡ at + 0 = omega arith in subst (λ n. HasAt flash n ys) e h
has_back flash at (x ∷ xs) ys h = let e : suc at + length xs ≡ at + suc (length xs) = omega arith in subst (λ n. HasAt flash n ys) e
    (has_back flash (suc at) xs ys h.1)

seam : (pre : List ℕ) (w : ℕ) (ys : List ℕ) → slice_get (pre ++ (w ∷ ys)) (length pre) ≡ Some w
seam [] w ys = refl
seam (x ∷ pre) w ys = seam pre w ys

pub has_here : (pre ws rest : List ℕ) → HasAt (pre ++ (ws ++ rest)) (length pre) ws
has_here pre [] rest = tt
has_here pre (w ∷ ws) rest =
    let e : (pre ++ (w ∷ [])) ++ (ws ++ rest) ≡ pre ++ (w ∷ (ws ++ rest)) = append_assoc pre (w ∷ []) (ws ++ rest) in
    let n : length (pre ++ (w ∷ [])) ≡ suc (length pre) = omega (arith, length-append pre (w ∷ [])) in (
      seam pre w (ws ++ rest),
      subst (λ k. HasAt (pre ++ (w ∷ (ws ++ rest))) k ws) n
          (subst (λ f. HasAt f (length (pre ++ (w ∷ []))) ws) e (has_here (pre ++ (w ∷ [])) ws rest)),
    )

module _ {M : Type 0} (t : Target M) (labels : List ℕ) where
  pub length-image : (at : ℕ) (code : List Paced) → ((i : ℕ) (p : Paced) → slice_get code i ≡ Some p → (k : ℕ) → length
      (t.emitted p.prim k labels) ≡ t.words_in p.prim) → length (image_from t labels at code) ≡ words_sum t code
  length-image at [] sized = refl
  length-image at (p ∷ ps) sized =
      omega (
        arith,
        length-append (t.emitted p.prim at labels) (image_from t labels (at + t.words_in p.prim) ps),
        sized 0 p refl at,
        length-image
            (at + t.words_in p.prim) ps (λ i q e k. sized (suc i) q e k),
        sum_by-cons (λ q. t.words_in q.prim) p ps,
      )

  pub image_at : (flash : List ℕ) (at : ℕ) (code : List Paced) (i : ℕ) (p : Paced) → slice_get code i ≡ Some p →
      ((i : ℕ) (p : Paced) → slice_get code i ≡ Some p → (k : ℕ) → length (t.emitted p.prim k labels) ≡ t.words_in p.prim) →
      HasAt flash at (image_from t labels at code) → HasAt flash (slice_index (places_from t.words_in at code) i)
      (t.emitted p.prim (slice_index (places_from t.words_in at code) i) labels)
  image_at flash at [] i p e sized h = absurd (cc)
  image_at flash at (x ∷ xs) zero p e sized h = let f : x ≡ p = cc in subst (λ y. HasAt flash at (t.emitted y.prim at labels)) f
      (has_front flash at (t.emitted x.prim at labels) (image_from t labels (at + t.words_in x.prim) xs) h)
  image_at flash at (x ∷ xs) (suc i) p e sized h =
      let n : at + length (t.emitted x.prim at labels) ≡ at + t.words_in x.prim = omega (arith, sized 0 x refl at) in
      image_at flash (at + t.words_in x.prim) xs i p e (λ j q g k. sized (suc j) q g k)
      (subst (λ k. HasAt flash k (image_from t labels (at + t.words_in x.prim) xs)) n
      (has_back flash at (t.emitted x.prim at labels) (image_from t labels (at + t.words_in x.prim) xs) h))
