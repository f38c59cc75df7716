-- The lines of texts, and lines that are joined to a text.
use Rattle.std.proofs.Common.{◌≡◌, ◌≢◌, ◌==◌, if◌then◌else◌, ℕ, Bool, true, false, List, [], ◌∷◌, ◌++◌, refl, ap, ◌∙◌, arith, append-nil}
use Rattle.std.proofs.lemmas.Bool.Decides.{nat_tests}
use Rattle.std.proofs.lemmas.List.Elements.{All-nil, All-cons}
use Rattle.texts.specs.Lines.{IsLine, pieces, onto, joined}
use Rattle.texts.proofs.LineLemmas.{pieces-piece}
use Rattle.ld_text.specs.Lines.{Line, ended, last_of, open_line, lines_of}
use Rattle.ld_print.proofs.FineLemmas.{AllClean}
use Rattle.ld_print.proofs.WalkLemmas.{line_of, map_lines}

abbrev pub AllLines : List (List ℕ) → Type 0
AllLines [] = Unit {0}
AllLines (l ∷ ls) = IsLine l × AllLines ls

pub lines_append : (ls ms : List (List ℕ)) → AllLines ls → AllLines ms → AllLines (ls ++ ms)
lines_append [] ms h g = g
lines_append (l ∷ ls) ms h g = (h.0, lines_append ls ms h.1 g)

-- what stands between line feeds has none

onto_lines : (x : ℕ) (ps : List (List ℕ)) → x ≢ 10 → AllLines ps → AllLines (onto x ps)
onto_lines x [] k h = (All-cons (λ y. y ≢ 10) x [] k (All-nil (λ y. y ≢ 10)), tt)
onto_lines x (p ∷ ps) k h = (All-cons (λ y. y ≢ 10) x p k h.0, h.1)

pieces_lines : (text : List ℕ) → AllLines (pieces 10 text)
pieces_lines [] = (All-nil (λ y. y ≢ 10), tt)
pieces_lines (x ∷ xs) = by (x == 10) refl (pieces_lines xs)
  where
    other : (x == 10) ≡ false → x ≢ 10
    other e = grind (arith, nat_tests)

    by : (b : Bool) → (x == 10) ≡ b → AllLines (pieces 10 xs) → AllLines (if b then [] ∷ pieces 10 xs else onto x (pieces 10 xs))
    by true e h = (All-nil (λ y. y ≢ 10), h)
    by false e h = onto_lines x (pieces 10 xs) (other e) h

ended_clean : (ps : List (List ℕ)) → AllLines ps → AllClean (ended ps)
ended_clean [] h = tt
ended_clean (p ∷ []) h = tt
ended_clean (p ∷ q ∷ ps) h = (h.0, ended_clean (q ∷ ps) h.1)

last_line : (ps : List (List ℕ)) → AllLines ps → IsLine (last_of ps)
last_line [] h = All-nil (λ y. y ≢ 10)
last_line (p ∷ []) h = h.0
last_line (p ∷ q ∷ ps) h = last_line (q ∷ ps) h.1

open_clean : (bs : List ℕ) → IsLine bs → AllClean (open_line bs)
open_clean [] h = tt
open_clean (b ∷ bs) h = (h, tt)

clean_append : (ls ms : List Line) → AllClean ls → AllClean ms → AllClean (ls ++ ms)
clean_append [] ms h g = g
clean_append (l ∷ ls) ms h g = (h.0, clean_append ls ms h.1 g)

pub text_clean : (text : List ℕ) → AllClean (lines_of text)
text_clean text =
    let h = pieces_lines text in
    clean_append (ended (pieces 10 text)) (open_line (last_of (pieces 10 text))) (ended_clean (pieces 10 text) h)
    (open_clean (last_of (pieces 10 text)) (last_line (pieces 10 text) h))

-- lines that are joined are the lines of the text

joined_pieces : (ls : List (List ℕ)) → AllLines ls → pieces 10 (joined ls) ≡ ls ++ [] ∷ []
joined_pieces [] h = refl
joined_pieces (l ∷ ls) h = pieces-piece 10 l (joined ls) h.0 ∙ ap (λ ps. l ∷ ps) (joined_pieces ls h.1)

ended_all : (ls : List (List ℕ)) → ended (ls ++ [] ∷ []) ≡ map_lines ls
ended_all [] = refl
ended_all (l ∷ []) = refl
ended_all (l ∷ m ∷ ms) = ap (λ x. line_of l ∷ x) (ended_all (m ∷ ms))

last_none : (ls : List (List ℕ)) → last_of (ls ++ [] ∷ []) ≡ []
last_none [] = refl
last_none (l ∷ []) = refl
last_none (l ∷ m ∷ ms) = last_none (m ∷ ms)

pub joined_lines : (ls : List (List ℕ)) → AllLines ls → lines_of (joined ls) ≡ map_lines ls
joined_lines ls h =
    let ps = joined_pieces ls h in
    ap (λ x. ended x ++ open_line (last_of x)) ps
    ∙ ap (λ x. x ++ open_line (last_of (ls ++ [] ∷ []))) (ended_all ls)
    ∙ ap (λ x. map_lines ls ++ open_line x) (last_none ls)
    ∙ append-nil (map_lines ls)
