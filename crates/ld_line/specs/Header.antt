-- What the lines above PROGRAM say.
use Rattle.std.specs.Prelude.{ℕ, ◌&&◌, ◌==◌, List, [], ◌∷◌, Option, None, Some, codes, if◌then◌else◌}
use Rattle.std.specs.Str.{bytes_eq}
use Rattle.texts.specs.Lines.{pieces}
use Rattle.ld_line.specs.Said.{said_map}
use Rattle.ld_line.specs.Targets.{first_target}
use Rattle.ld_line.specs.Tokens.{trimmed, tokens}
use Rattle.ld_line.specs.Numbers.{natural_in, most_setting}
use Rattle.ld_line.specs.declared.said.Said.{Said}
use Rattle.ld_line.specs.declared.said.Said.TheVariants.{Bad, Is}
use Rattle.ld_line.specs.declared.header.HeaderLine.{HeaderLine}
use Rattle.ld_line.specs.declared.header.HeaderLine.TheVariants.{Micro, Cycle, Crystal, Baud, Compiled, Pins, Program}

-- what stands behind the word, where the bytes begin with it
abbrev pub behind_word : List ℕ → List ℕ → Option (List ℕ)
behind_word [] bytes = Some bytes
behind_word (w ∷ ws) [] = None
behind_word (w ∷ ws) (b ∷ bs) = if b == w then behind_word ws bs else None

-- The words of a MICRO line are one space (32) apart, and a tab is part of a word.
abbrev pub micro : List ℕ → HeaderLine
micro text = Micro (first_target (pieces 32 text))

-- the number behind a key, or what the line says where it has another
abbrev pub keyed : (ℕ → HeaderLine) → Option (List ℕ) → Said HeaderLine → Said HeaderLine
keyed line (Some number) other = said_map line (natural_in 0 most_setting number)
keyed line None other = other

-- a line of one token
unfoldable pub setting : List ℕ → Said HeaderLine
setting token =
    if bytes_eq token (codes "PROGRAM") then Is Program
    else keyed Cycle (behind_word (codes "CYCLE=") token)
    (keyed Crystal (behind_word (codes "CRYSTAL=") token)
    (keyed Baud (behind_word (codes "BAUD=") token) Bad))

abbrev pub pair_says : List ℕ → List ℕ → Said HeaderLine
pair_says a b = if bytes_eq a (codes "IO") && bytes_eq b (codes "LIST") then Is Pins else Bad

abbrev pub tokens_say : List (List ℕ) → Said HeaderLine
tokens_say (token ∷ []) = setting token
tokens_say (a ∷ b ∷ []) = pair_says a b
tokens_say _ = Bad

abbrev pub compiled_or : Option (List ℕ) → Said HeaderLine → Said HeaderLine
compiled_or (Some text) other = Is Compiled
compiled_or None other = other

abbrev pub micro_or : Option (List ℕ) → Said HeaderLine → Said HeaderLine
micro_or (Some text) other = Is (micro text)
micro_or None other = other

-- what a line above PROGRAM says that is not blank
abbrev pub header_of : List ℕ → Said HeaderLine
header_of line =
    micro_or (behind_word (codes "MICRO=") (trimmed line))
    (compiled_or (behind_word (codes "COMPILED=") (trimmed line)) (tokens_say (tokens line)))
