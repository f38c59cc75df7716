-- A line in tokens: what stands between its blanks.
use Rattle.std.specs.Prelude.{ℕ, Bool, not, ◌==◌, ◌||◌, List, [], ◌∷◌, reverse, drop, length, filter, codes, if◌then◌else◌}
use Rattle.std.specs.Str.{bytes_eq}
use Rattle.texts.specs.Lines.{onto}

-- a space (32) or a tab (9)
abbrev pub is_blank : ℕ → Bool
is_blank b = b == 32 || b == 9

-- a carriage return
abbrev pub is_return : ℕ → Bool
is_return b = b == 13

-- without the bytes in front that pass the test
abbrev pub behind : (ℕ → Bool) → List ℕ → List ℕ
behind test [] = []
behind test (b ∷ bs) = if test b then behind test bs else b ∷ bs

-- without the bytes at the end that pass the test
abbrev pub before : (ℕ → Bool) → List ℕ → List ℕ
before test bs = reverse (behind test (reverse bs))

abbrev pub without_returns : List ℕ → List ℕ
without_returns line = before is_return line

-- the line without the carriage returns at its end, and then without blanks at both ends
abbrev pub trimmed : List ℕ → List ℕ
trimmed line = before is_blank (behind is_blank (without_returns line))

-- what stands between blanks: one more than there are blanks, and any may be empty
abbrev pub between_blanks : List ℕ → List (List ℕ)
between_blanks [] = [] ∷ []
between_blanks (b ∷ bs) = if is_blank b then [] ∷ between_blanks bs else onto b (between_blanks bs)

abbrev pub is_some_bytes : List ℕ → Bool
is_some_bytes bytes = not (length bytes == 0)

-- the longest runs of bytes that are no blanks
abbrev pub runs : List ℕ → List (List ℕ)
runs bytes = filter is_some_bytes (between_blanks bytes)

-- the tokens of a line
abbrev pub tokens : List ℕ → List (List ℕ)
tokens line = runs (without_returns line)

-- The text of a line whose first token is COMMENT: it begins behind the word and one blank, which are 8 bytes, and keeps the blanks at its end.
abbrev pub comment_text : List ℕ → List ℕ
comment_text line = drop 8 (behind is_blank (without_returns line))

-- the line that a project begins with
abbrev pub is_magic : List ℕ → Bool
is_magic line = bytes_eq (trimmed line) (codes "LDmicro0.1")
