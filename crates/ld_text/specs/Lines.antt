-- The lines of a project text, each with whether a line feed (10) ends it.
use Rattle.std.specs.Prelude.{ℕ, ◌+◌, Bool, true, false, List, [], ◌∷◌, ◌++◌, length, if◌then◌else◌}
use Rattle.texts.specs.Lines.{pieces}

pub record Line : Type 0 where
  pub bytes : List ℕ
  pub is_ended : Bool

-- how many bytes of the text a line takes
abbrev pub size_of : Line → ℕ
size_of l = if l.is_ended then length l.bytes + 1 else length l.bytes

-- Of the pieces between line feeds each but the last is a line that is ended.
abbrev pub ended : List (List ℕ) → List Line
ended [] = []
ended (p ∷ []) = []
ended (p ∷ q ∷ ps) = record { bytes = p; is_ended = true } ∷ ended (q ∷ ps)

abbrev pub last_of : List (List ℕ) → List ℕ
last_of [] = []
last_of (p ∷ []) = p
last_of (p ∷ q ∷ ps) = last_of (q ∷ ps)

-- the lines that a line feed ends
abbrev pub ended_lines : List ℕ → List Line
ended_lines text = ended (pieces 10 text)

-- what stands behind the last line feed
abbrev pub behind_feeds : List ℕ → List ℕ
behind_feeds text = last_of (pieces 10 text)

-- bytes that no line feed ends are a line if there are any
abbrev pub open_line : List ℕ → List Line
open_line [] = []
open_line (b ∷ bs) = record { bytes = b ∷ bs; is_ended = false } ∷ []

abbrev pub lines_of : List ℕ → List Line
lines_of text = ended_lines text ++ open_line (behind_feeds text)
