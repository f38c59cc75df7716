-- Places of names are apart, and below their lists' lengths.
use Rattle.std.proofs.Common.{◌≡◌, ◌≢◌, ℕ, zero, suc, ◌+◌, ◌<◌, ◌≤◌, ◌⊎◌, inl, inr, ◌||◌, Bool, true, false, cond, nat_eq, List, [], ◌∷◌, ◌++◌, length, get_or}
use Rattle.std.proofs.Common.{map, refl, sym, ap, ◌∙◌, ⊎_elim, arith, Bor, take, add-one}
use Rattle.std.proofs.lemmas.Bool.Decides.{nat_tests, not_from_Decides}
use Rattle.std.proofs.lemmas.Bool.{cases_Bool}
use Rattle.std.proofs.lemmas.List.Recursion.{is_position_or_len}
use Rattle.std.proofs.lemmas.List.{length-map, take_more}
use Rattle.std.proofs.lemmas.Slice.Eq.{bytes_eq-Decides}
use Rattle.std.specs.List.{list_any, position, position_or_len}
use Rattle.std.specs.Option.{unwrap_or}
use Rattle.std.specs.Prelude.{slice_index_or, Some, None, nat_lt}
use Rattle.std.specs.Str.{bytes_eq}
use Rattle.texts.proofs.KeyLemmas.{texts, among, texts-push}
use Rattle.ladder_meaning.specs.State.{place_of}
use Rattle.ladder_lower.specs.Apart.{Apart}
use Rattle.ladder_lower.proofs.Stands.{held}

-- the test on two names, with what it tells
pub bytes_tells : (a b : List ℕ) → ((bytes_eq a b ≡ true) × (a ≡ b)) ⊎ ((bytes_eq a b ≡ false) × (a ≢ b))
bytes_tells a b =
    ⊎_elim (λ e. inl (e, (bytes_eq-Decides a b).0 e)) (λ e. inr (e, not_from_Decides (bytes_eq a b) (bytes_eq-Decides a b) e)) (cases_Bool (bytes_eq a b))

apart_step : (x m n : List ℕ) (i j : ℕ) → (bytes_eq x m ≡ false → nat_eq i j ≡ bytes_eq m n)
    → nat_eq (cond (bytes_eq x m) 0 (i + 1)) (cond (bytes_eq x n) 0 (j + 1)) ≡ bytes_eq m n
apart_step x m n i j h = grind (arith, nat_tests, bytes_tells)

-- two names have one place just where they are one
pub place_apart : (xs : List (List ℕ)) (m n : List ℕ) → held xs m ≡ true → nat_eq (place_of xs m) (place_of xs n) ≡ bytes_eq m n
place_apart [] m n h = absurd (cc)
place_apart (x ∷ xs) m n h = apart_step x m n (place_of xs m) (place_of xs n) (λ e. place_apart xs m n (rw e at h))

below_step : (b : Bool) (i len : ℕ) → (b ≡ false → i < len) → cond b 0 (i + 1) < len + 1
below_step true i len h = omega arith
below_step false i len h = omega (arith, h refl)

pub place_below : (xs : List (List ℕ)) (n : List ℕ) → held xs n ≡ true → place_of xs n < length xs
place_below [] n h = absurd (cc)
place_below (x ∷ xs) n h = let k = below_step (bytes_eq x n) (place_of xs n) (length xs) (λ e. place_below xs n (rw e at h)) in omega (arith, k)

get_step : (b : Bool) (x name : List ℕ) (xs : List (List ℕ)) (i : ℕ) → (b ≡ true → x ≡ name) → (b ≡ false → slice_index_or xs i [] ≡ name)
    → slice_index_or (x ∷ xs) (cond b 0 (i + 1)) [] ≡ name
get_step true x name xs i f g = f refl
get_step false x name xs i f g = rw add-one (g refl)

-- the name that stands at a name's place
pub get_place : (xs : List (List ℕ)) (name : List ℕ) → held xs name ≡ true → slice_index_or xs (place_of xs name) [] ≡ name
get_place [] name h = absurd (cc)
get_place (x ∷ xs) name h = get_step (bytes_eq x name) x name xs (place_of xs name) (λ e. (bytes_eq-Decides x name).0 e) (λ e. get_place xs name (rw e at h))

pub bytes_same : (a : List ℕ) → bytes_eq a a ≡ true
bytes_same a = grind (arith, bytes_tells)

pub held_get : (xs : List (List ℕ)) (k : ℕ) → k < length xs → held xs (slice_index_or xs k []) ≡ true
held_get [] k lt = absurd (omega arith)
held_get (x ∷ xs) zero lt = rw (bytes_same x) refl
held_get (x ∷ xs) (suc k) lt = rw (held_get xs k (omega arith)) grind arith

-- of names that are apart, each is new behind those before it
fresh : (xs : List (List ℕ)) (i : ℕ) (name : List ℕ) → Apart xs → i < length xs → name ≡ slice_index_or xs i [] → list_any (bytes_eq name) (take i xs) ≡ false
fresh [] i name a lt is = absurd (omega arith)
fresh (x ∷ xs) zero name a lt is = refl
fresh (x ∷ xs) (suc i) name a lt is =
    let rest = fresh xs i name a.1 (omega arith) is in
    let h : held xs name ≡ true = rw is (held_get xs i (omega arith)) in
    let ne : bytes_eq name x ≡ false = grind (arith, bytes_tells, h, a.0) in
    rw (ne, rest) refl

is_get : (xs : List (List ℕ)) (i : ℕ) (name : List ℕ) → i < length xs → name ≡ get_or xs i name → name ≡ slice_index_or xs i []
is_get [] i name lt is = absurd (omega arith)
is_get (x ∷ xs) zero name lt is = is
is_get (x ∷ xs) (suc i) name lt is = is_get xs i name (omega arith) is

pub place_step : (xs : List (List ℕ)) (i : ℕ) (name : List ℕ) (ks : List (Bor (List ℕ))) (k : Bor (List ℕ)) → Apart xs → i < length xs → name ≡ get_or xs i name
    → k.now ≡ name → texts ks ≡ take i xs → texts (cond (list_any (λ x. bytes_eq k.now x.now) ks) ks (ks ++ k ∷ [])) ≡ take (i + 1) xs
place_step xs i name ks k a lt is same e =
    let new : list_any (λ x. bytes_eq k.now x.now) ks ≡ false = sym (among k.now ks) ∙ rw (same, e) (fresh xs i name a lt (is_get xs i name lt is)) in
    rw (new, texts-push ks k, e, same) (ap (λ n. take i xs ++ n ∷ []) is ∙ sym (take_more xs i name lt))

place_most : (xs : List (List ℕ)) (name : List ℕ) → place_of xs name ≤ length xs
place_most [] name = omega arith
place_most (x ∷ xs) name = let h = place_most xs name in most_by (bytes_eq x name) h
  where
    most_by : (b : Bool) → place_of xs name ≤ length xs → cond b 0 (place_of xs name + 1) ≤ suc (length xs)
    most_by true h = omega arith
    most_by false h = omega arith

key_step : (k : Bor (List ℕ)) (name : List ℕ) (i : ℕ) → cond (bytes_eq k.now name) 0 (i + 1) ≡ cond (bytes_eq name k.now) 0 (1 + i)
key_step k name i = grind (arith, bytes_tells)

-- the first key with a text is where the text stands
position_is : (ks : List (Bor (List ℕ))) (name : List ℕ) → place_of (texts ks) name ≡ position_or_len (λ k. bytes_eq name k.now) ks
position_is ks name =
    is_position_or_len (λ ks. place_of (texts ks) name) (λ k. bytes_eq name k.now) refl (λ k ks. key_step k name (place_of (texts ks) name)) ks

unwrap_by : (b : Bool) (n m : ℕ) → nat_lt n m ≡ b → n ≤ m → unwrap_or (cond b (Some n) None) m ≡ n
unwrap_by true n m e le = refl
unwrap_by false n m e le = grind (arith, nat_tests, e, le)

pub found_at : (ks : List (Bor (List ℕ))) (name : List ℕ) → unwrap_or (position (λ k. bytes_eq name k.now) ks) (length ks) ≡ place_of (texts ks) name
found_at ks name =
    let most = place_most (texts ks) name in
    let e = position_is ks name in
    unwrap_by (nat_lt (position_or_len (λ k. bytes_eq name k.now) ks) (length ks)) (position_or_len (λ k. bytes_eq name k.now) ks) (length ks) refl
    (omega (arith, length-map ks (λ k. k.now), most, e)) ∙ sym e
