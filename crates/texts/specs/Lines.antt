-- A text in lines, and in the pieces between separators.
use Rattle.std.specs.Prelude.{◌≡◌, ℕ, ◌<◌, ◌==◌, Bool, not, List, [], ◌∷◌, ◌++◌, length, reverse, Option, None, Some, if◌then◌else◌, ◌⊎◌, ◌≢◌, All}
use Rattle.std.specs.Option.{option_map}

-- the byte in front of the first piece
abbrev pub onto : ℕ → List (List ℕ) → List (List ℕ)
onto x [] = (x ∷ []) ∷ []
onto x (piece ∷ pieces) = (x ∷ piece) ∷ pieces

-- Each line feed (10) ends a line, which is shown without it. Bytes behind the last line feed are a line too.
abbrev pub lines : List ℕ → List (List ℕ)
lines [] = []
lines (x ∷ xs) = if x == 10 then [] ∷ lines xs else onto x (lines xs)

-- what stands between the separators: a piece more than there are separators, and any may be empty
abbrev pub pieces : ℕ → List ℕ → List (List ℕ)
pieces separator [] = [] ∷ []
pieces separator (x ∷ xs) = if x == separator then [] ∷ pieces separator xs else onto x (pieces separator xs)

-- the bytes in front of the first separator, and those behind it
abbrev pub cut : ℕ → List ℕ → Option (List ℕ × List ℕ)
cut separator [] = None
cut separator (b ∷ bs) = if b == separator then Some ([], bs) else option_map (λ p. (b ∷ p.0, p.1)) (cut separator bs)

-- without a carriage return (13) that stands first
abbrev pub behind_return : List ℕ → List ℕ
behind_return [] = []
behind_return (b ∷ bs) = if b == 13 then bs else b ∷ bs

-- without one carriage return at the end
abbrev pub without_return : List ℕ → List ℕ
without_return line = reverse (behind_return (reverse line))

abbrev pub is_some_bytes : List ℕ → Bool
is_some_bytes bytes = not (length bytes == 0)

-- the bytes have no line feed
abbrev pub IsLine : List ℕ → Type 0
IsLine bytes = All (λ x. x ≢ 10) bytes

-- a line feed behind each line
abbrev pub joined : List (List ℕ) → List ℕ
joined [] = []
joined (line ∷ lines) = line ++ 10 ∷ joined lines

-- the first line of a text, and what lies behind it: behind its line feed, or nothing
pub record IsFirstLine (text line rest : List ℕ) : Type 0 where
  pub lines : lines text ≡ line ∷ lines rest
  pub clean : IsLine line
  pub parts : (text ≡ line ++ 10 ∷ rest) ⊎ ((text ≡ line) × (rest ≡ []))
  pub shorter : length rest < length text

-- the first piece of a text, and what lies behind its separator
pub record IsFirstPiece (separator : ℕ) (text piece rest : List ℕ) : Type 0 where
  pub parts : text ≡ piece ++ separator ∷ rest
  pub clean : All (λ x. x ≢ separator) piece
