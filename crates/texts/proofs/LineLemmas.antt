-- Texts in lines and in pieces.
use Rattle.std.proofs.Common.{◌≡◌, ◌≢◌, ℕ, suc, ◌<◌, ◌≤◌, Bool, true, false, if◌then◌else◌, ◌==◌, List, [], ◌∷◌, ◌++◌, length, refl, ap, ◌∙◌, inl, inr, arith, All, Some, None, append_assoc, length-append}
use Rattle.std.proofs.lemmas.Bool.Decides.{nat_tests}
use Rattle.std.proofs.lemmas.List.Elements.{All-head, All-tail}
use Rattle.std.specs.Option.{option_map}
use Rattle.texts.specs.Lines.{onto, lines, pieces, joined, cut, IsLine, IsFirstLine, IsFirstPiece}

same : (x : ℕ) → (x == x) ≡ true
same x = grind (arith, nat_tests)

other : (x y : ℕ) → x ≢ y → (x == y) ≡ false
other x y h = grind (arith, nat_tests)

-- a piece in front of a separator
pub pieces-piece : (s : ℕ) (piece rest : List ℕ) → All (λ x. x ≢ s) piece → pieces s (piece ++ s ∷ rest) ≡ piece ∷ pieces s rest
pieces-piece s [] rest clean = ap (λ b. if b then [] ∷ pieces s rest else onto s (pieces s rest)) (same s)
pieces-piece s (x ∷ xs) rest clean =
    ap (λ b. if b then [] ∷ pieces s (xs ++ s ∷ rest) else onto x (pieces s (xs ++ s ∷ rest))) (other x s (All-head (λ y. y ≢ s) x xs clean))
    ∙ ap (onto x) (pieces-piece s xs rest (All-tail (λ y. y ≢ s) x xs clean))

-- a text without a separator
pub pieces-last : (s : ℕ) (piece : List ℕ) → All (λ x. x ≢ s) piece → pieces s piece ≡ piece ∷ []
pieces-last s [] clean = refl
pieces-last s (x ∷ xs) clean =
    ap (λ b. if b then [] ∷ pieces s xs else onto x (pieces s xs)) (other x s (All-head (λ y. y ≢ s) x xs clean))
    ∙ ap (onto x) (pieces-last s xs (All-tail (λ y. y ≢ s) x xs clean))

-- a line and its line feed in front of a text
pub lines-line : (line rest : List ℕ) → IsLine line → lines (line ++ 10 ∷ rest) ≡ line ∷ lines rest
lines-line [] rest clean = refl
lines-line (x ∷ xs) rest clean =
    ap (λ b. if b then [] ∷ lines (xs ++ 10 ∷ rest) else onto x (lines (xs ++ 10 ∷ rest))) (other x 10 (All-head (λ y. y ≢ 10) x xs clean))
    ∙ ap (onto x) (lines-line xs rest (All-tail (λ y. y ≢ 10) x xs clean))

-- a line that has no line feed behind it
pub lines-last : (x : ℕ) (xs : List ℕ) → IsLine (x ∷ xs) → lines (x ∷ xs) ≡ (x ∷ xs) ∷ []
lines-last x [] clean = ap (λ b. if b then [] ∷ [] else onto x []) (other x 10 (All-head (λ y. y ≢ 10) x [] clean))
lines-last x (y ∷ ys) clean =
    ap (λ b. if b then [] ∷ lines (y ∷ ys) else onto x (lines (y ∷ ys))) (other x 10 (All-head (λ z. z ≢ 10) x (y ∷ ys) clean))
    ∙ ap (onto x) (lines-last y ys (All-tail (λ z. z ≢ 10) x (y ∷ ys) clean))

length-onto : (x : ℕ) (ls : List (List ℕ)) → length (onto x ls) ≤ suc (length ls)
length-onto x [] = omega arith
length-onto x (l ∷ ls) = omega arith

-- there are no more lines than bytes
pub length-lines : (text : List ℕ) → length (lines text) ≤ length text
length-lines [] = omega arith
length-lines (x ∷ xs) = by (x == 10) (length-lines xs)
  where
    by : (b : Bool) → length (lines xs) ≤ length xs → length (if b then [] ∷ lines xs else onto x (lines xs)) ≤ suc (length xs)
    by true rest = omega (arith, rest)
    by false rest = let more = length-onto x (lines xs) in omega (arith, rest, more)

-- lines that were joined, in front of a text
pub lines-joined_append : (ls : List (List ℕ)) (rest : List ℕ) → All IsLine ls → lines (joined ls ++ rest) ≡ ls ++ lines rest
lines-joined_append [] rest clean = refl
lines-joined_append (l ∷ ls) rest clean =
    ap lines (append_assoc l (10 ∷ joined ls) rest)
    ∙ lines-line l (joined ls ++ rest) (All-head IsLine l ls clean)
    ∙ ap (λ more. l ∷ more) (lines-joined_append ls rest (All-tail IsLine l ls clean))

pub lines-joined : (ls : List (List ℕ)) → All IsLine ls → lines (joined ls) ≡ ls
lines-joined [] clean = refl
lines-joined (l ∷ ls) clean =
    lines-line l (joined ls) (All-head IsLine l ls clean)
    ∙ ap (λ more. l ∷ more) (lines-joined ls (All-tail IsLine l ls clean))

pub is_shorter : (s : ℕ) (text piece rest : List ℕ) → IsFirstPiece s text piece rest → length rest < length text
is_shorter s text piece rest h = let size = ap length h.parts ∙ length-append piece (s ∷ rest) in omega (arith, size)

-- what the first piece says of the lines and of the pieces
pub line_before : (text line rest : List ℕ) → IsFirstPiece 10 text line rest → IsFirstLine text line rest
line_before text line rest h = record {
  lines = ap lines h.parts ∙ lines-line line rest h.clean;
  clean = h.clean;
  parts = inl h.parts;
  shorter = is_shorter 10 text line rest h;
}

pub last_line : (text : List ℕ) → IsLine text → false ≡ (length text == 0) → IsFirstLine text text []
last_line [] clean some = absurd cc
last_line (x ∷ xs) clean some = record {
  lines = lines-last x xs clean;
  clean = clean;
  parts = inr (refl, refl);
  shorter = omega arith;
}

pub first_piece : (s : ℕ) (text piece rest : List ℕ) → IsFirstPiece s text piece rest → pieces s text ≡ piece ∷ pieces s rest
first_piece s text piece rest h = ap (pieces s) h.parts ∙ pieces-piece s piece rest h.clean

-- what the first piece says of the cut
cut_front : (s : ℕ) (piece rest : List ℕ) → All (λ x. x ≢ s) piece → cut s (piece ++ s ∷ rest) ≡ Some (piece, rest)
cut_front s [] rest clean = rw (same s) refl
cut_front s (x ∷ xs) rest clean =
    rw (other x s (All-head (λ y. y ≢ s) x xs clean)) (ap (option_map (λ p. (x ∷ p.0, p.1))) (cut_front s xs rest (All-tail (λ y. y ≢ s) x xs clean)))

pub cut_piece : (s : ℕ) (text piece rest : List ℕ) → IsFirstPiece s text piece rest → cut s text ≡ Some (piece, rest)
cut_piece s text piece rest h = ap (cut s) h.parts ∙ cut_front s piece rest h.clean

pub cut_none : (s : ℕ) (text : List ℕ) → All (λ x. x ≢ s) text → cut s text ≡ None
cut_none s [] clean = refl
cut_none s (x ∷ xs) clean =
    rw (other x s (All-head (λ y. y ≢ s) x xs clean)) (ap (option_map (λ p. (x ∷ p.0, p.1))) (cut_none s xs (All-tail (λ y. y ≢ s) x xs clean)))
