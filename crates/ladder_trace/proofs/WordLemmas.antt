-- The words of a line.
use Rattle.std.proofs.Common.{◌≡◌, ◌≢◌, ℕ, Bool, true, false, List, [], ◌∷◌, ◌++◌, refl, sym, ap, ◌∙◌, append_assoc, All}
use Rattle.std.specs.Prelude.{filter}
use Rattle.texts.specs.Lines.{pieces, is_some_bytes, IsFirstPiece}
use Rattle.texts.proofs.LineLemmas.{first_piece, pieces-last}

one_more : (p : List ℕ) (ps : List (List ℕ)) → filter is_some_bytes (p ∷ ps) ≡ filter is_some_bytes (p ∷ []) ++ filter is_some_bytes ps
one_more p ps = by (is_some_bytes p) refl
  where
    by : (b : Bool) → is_some_bytes p ≡ b → filter is_some_bytes (p ∷ ps) ≡ filter is_some_bytes (p ∷ []) ++ filter is_some_bytes ps
    by true e = rw e refl
    by false e = rw e refl

pub words_more : (old new all : List (List ℕ)) (rest piece behind : List ℕ) → IsFirstPiece 32 rest piece behind → new ≡ old ++ filter is_some_bytes (piece ∷ [])
    → old ++ filter is_some_bytes (pieces 32 rest) ≡ all → new ++ filter is_some_bytes (pieces 32 behind) ≡ all
words_more old new all rest piece behind h now before =
    ap (λ xs. xs ++ filter is_some_bytes (pieces 32 behind)) now
    ∙ append_assoc old (filter is_some_bytes (piece ∷ [])) (filter is_some_bytes (pieces 32 behind))
    ∙ ap (λ xs. old ++ xs) (sym (one_more piece (pieces 32 behind)) ∙ ap (filter is_some_bytes) (sym (first_piece 32 rest piece behind h)))
    ∙ before

pub words_end : (old new all : List (List ℕ)) (rest : List ℕ) → All (λ x. x ≢ 32) rest → new ≡ old ++ filter is_some_bytes (rest ∷ []) →
    old ++ filter is_some_bytes (pieces 32 rest) ≡ all → new ≡ all
words_end old new all rest clean now before = now ∙ ap (λ ps. old ++ filter is_some_bytes ps) (sym (pieces-last 32 rest clean)) ∙ before
