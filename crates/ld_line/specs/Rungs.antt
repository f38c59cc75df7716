-- What the lines below PROGRAM say.
use Rattle.std.specs.Prelude.{ℕ, List, [], ◌∷◌, Option, None, Some, codes, if◌then◌else◌}
use Rattle.std.specs.Str.{bytes_eq}
use Rattle.ld_line.specs.Said.{said_map, bare}
use Rattle.ld_line.specs.Tokens.{tokens}
use Rattle.ld_line.specs.Words.{word_of}
use Rattle.ld_line.specs.Elements.{element_of}
use Rattle.ld_line.specs.declared.said.Said.{Said}
use Rattle.ld_line.specs.declared.said.Said.TheVariants.{Bad}
use Rattle.ld_line.specs.declared.rungs.Circuit.TheVariants.{Series, Parallel}
use Rattle.ld_line.specs.declared.rungs.RungLine.{RungLine}
use Rattle.ld_line.specs.declared.rungs.RungLine.TheVariants.{Rung, Open, End, Element}
use Rattle.ld_line.specs.declared.word.Word.{Word}

-- a line that is one word
abbrev pub alone : List ℕ → Option RungLine
alone token =
    if bytes_eq token (codes "RUNG") then Some Rung
    else (if bytes_eq token (codes "SERIES") then Some (Open Series)
    else (if bytes_eq token (codes "PARALLEL") then Some (Open Parallel)
    else (if bytes_eq token (codes "END") then Some End else None)))

abbrev pub element_by : Option Word → List (List ℕ) → List ℕ → Said RungLine
element_by None ts line = Bad
element_by (Some word) ts line = said_map Element (element_of word ts line)

abbrev pub alone_or : Option RungLine → List (List ℕ) → Said RungLine → Said RungLine
alone_or (Some said) ts other = bare said ts
alone_or None ts other = other

-- what a line says by its tokens; the line itself holds a comment's text
abbrev pub rung_tokens_say : List (List ℕ) → List ℕ → Said RungLine
rung_tokens_say [] line = Bad
rung_tokens_say (token ∷ ts) line = alone_or (alone token) ts (element_by (word_of token) ts line)

-- what a line below PROGRAM says that is not blank
abbrev pub rung_line_of : List ℕ → Said RungLine
rung_line_of line = rung_tokens_say (tokens line) line
