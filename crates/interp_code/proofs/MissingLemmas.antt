-- The variables that a text still needs: those of analog names.
use Rattle.std.proofs.Common.{◌≡◌, ℕ, Bool, true, false, ◌||◌, if◌then◌else◌, List, [], ◌∷◌, ◌++◌, length, ℤ, pos, refl, ◌∙◌, subst, append_assoc, arith, All}
use Rattle.std.proofs.lemmas.Bool.{and_parts}
use Rattle.std.proofs.lemmas.List.Elements.{All-nil, All-cons}
use Rattle.std.proofs.lemmas.List.Folds.{list_any-append}
use Rattle.std.proofs.lemmas.Slice.Eq.{bytes_eq-Decides}
use Rattle.std.specs.List.{list_any, list_all}
use Rattle.std.specs.Str.{bytes_eq}
use Rattle.interp_code.specs.Program.{differ_from, are_in}
use Rattle.int_code.specs.Literals.{IsNumber}

-- the names that are no variables yet, each once
abbrev pub missing : List (List ℕ) → List (List ℕ) → List (List ℕ)
missing vs [] = []
missing vs (n ∷ ns) = if list_any (bytes_eq n) vs then missing vs ns else n ∷ missing (vs ++ n ∷ []) ns

-- a start value of 0 for each
abbrev pub zeros : List (List ℕ) → List ℤ
zeros [] = []
zeros (n ∷ ns) = pos 0 ∷ zeros ns

pub zeros_count : (ns : List (List ℕ)) → length (zeros ns) ≡ length ns
zeros_count [] = refl
zeros_count (n ∷ ns) = let rest = zeros_count ns in omega arith

pub zeros_short : (ns : List (List ℕ)) → All IsNumber (zeros ns)
zeros_short [] = All-nil IsNumber
zeros_short (n ∷ ns) = All-cons IsNumber (pos 0) (zeros ns) refl (zeros_short ns)

pub missing_differ : (vs ns : List (List ℕ)) → differ_from vs (missing vs ns) ≡ true
missing_differ vs [] = refl
missing_differ vs (n ∷ ns) = by (list_any (bytes_eq n) vs) refl (missing_differ vs ns) (missing_differ (vs ++ n ∷ []) ns)
  where
    by : (b : Bool) → list_any (bytes_eq n) vs ≡ b → differ_from vs (missing vs ns) ≡ true → differ_from (vs ++ n ∷ []) (missing (vs ++ n ∷ []) ns) ≡ true
        → differ_from vs (if b then missing vs ns else n ∷ missing (vs ++ n ∷ []) ns) ≡ true
    by true h old new = old
    by false h old new = rw h new

pub missing_pass : (ok : List ℕ → Bool) (vs ns : List (List ℕ)) → list_all ok ns ≡ true → list_all ok (missing vs ns) ≡ true
missing_pass ok vs [] h = refl
missing_pass ok vs (n ∷ ns) h =
    let others = (and_parts (ok n) (list_all ok ns) h).1 in
    by (list_any (bytes_eq n) vs) (missing_pass ok vs ns others) (missing_pass ok (vs ++ n ∷ []) ns others)
  where
    by : (b : Bool) → list_all ok (missing vs ns) ≡ true → list_all ok (missing (vs ++ n ∷ []) ns) ≡ true
        → list_all ok (if b then missing vs ns else n ∷ missing (vs ++ n ∷ []) ns) ≡ true
    by true old new = old
    by false old new = rw (and_parts (ok n) (list_all ok ns) h).0 new

still_any : (p : List ℕ → Bool) (xs ys : List (List ℕ)) → list_any p xs ≡ true → list_any p (xs ++ ys) ≡ true
still_any p xs ys h = list_any-append p xs ys ∙ rw h refl

same_name : (n : List ℕ) → bytes_eq n n ≡ true
same_name n = (bytes_eq-Decides n n).1 refl

any_last : (p : List ℕ → Bool) (xs : List (List ℕ)) (n : List ℕ) → p n ≡ true → list_any p (xs ++ n ∷ []) ≡ true
any_last p xs n h = list_any-append p xs (n ∷ []) ∙ rw h (either (list_any p xs))
  where
    either : (b : Bool) → (b || true) ≡ true
    either true = refl
    either false = refl

-- with them, all names are variables
pub missing_complete : (vs ns : List (List ℕ)) → are_in (vs ++ missing vs ns) ns ≡ true
missing_complete vs [] = refl
missing_complete vs (n ∷ ns) = by (list_any (bytes_eq n) vs) refl (missing_complete vs ns) (missing_complete (vs ++ n ∷ []) ns)
  where
    by : (b : Bool) → list_any (bytes_eq n) vs ≡ b → are_in (vs ++ missing vs ns) ns ≡ true → are_in ((vs ++ n ∷ []) ++ missing (vs ++ n ∷ []) ns) ns ≡ true
        → are_in (vs ++ (if b then missing vs ns else n ∷ missing (vs ++ n ∷ []) ns)) (n ∷ ns) ≡ true
    by true h old new = rw (still_any (bytes_eq n) vs (missing vs ns) h) old
    by false h old new =
        let more = missing (vs ++ n ∷ []) ns in
        let among = still_any (bytes_eq n) (vs ++ n ∷ []) more (any_last (bytes_eq n) vs n (same_name n)) in
        let P : List (List ℕ) → Type 0 = λ xs. are_in xs (n ∷ ns) ≡ true in
        subst P (append_assoc vs (n ∷ []) more) (rw among new)
