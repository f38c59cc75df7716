-- The line that an element is printed as: its word, and what stands behind the word.
use Rattle.std.specs.Prelude.{ℕ, ◌/◌, Bool, true, false, ℤ, List, [], ◌∷◌, ◌++◌, map, length, codes}
use Rattle.std.specs.Fmt.{decimal, signed_decimal}
use Rattle.ladder_tree.specs.declared.element.CoilMode.{CoilMode}
use Rattle.ladder_tree.specs.declared.element.CoilMode.TheVariants as mode
use Rattle.ladder_tree.specs.declared.element.LeafKind.{LeafKind}
use Rattle.ladder_tree.specs.declared.element.LeafKind.TheVariants.{Contacts, Coil, Osr, Osf, Short, Open, MasterRelay, Placeholder, Comment, Timer, Counter, Reset, Move, Math, Compare, Shift, Table, ReadAdc, SetPwm, Recv, Send, Persist, Linear, Formatted}
use Rattle.ladder_tree.specs.declared.element.Operand.{Operand}
use Rattle.ladder_tree.specs.declared.element.Operand.TheVariants.{Var, Num}
use Rattle.ld_line.specs.Kinds.{word_for}
use Rattle.ld_line.specs.Words.{spelling}

abbrev pub flag : Bool → List ℕ
flag false = codes "0"
flag true = codes "1"

-- the flags negated, set and reset of a coil
abbrev pub mode_flags : CoilMode → List (List ℕ)
mode_flags mode.Plain = codes "0" ∷ codes "0" ∷ codes "0" ∷ []
mode_flags mode.Negated = codes "1" ∷ codes "0" ∷ codes "0" ∷ []
mode_flags mode.Set = codes "0" ∷ codes "1" ∷ codes "0" ∷ []
mode_flags mode.Reset = codes "0" ∷ codes "0" ∷ codes "1" ∷ []

abbrev pub operand_text : Operand → List ℕ
operand_text (Var name) = name
operand_text (Num n) = signed_decimal n

-- no token where the text is empty
abbrev pub comment_tokens : List ℕ → List (List ℕ)
comment_tokens [] = []
comment_tokens (c ∷ cs) = (c ∷ cs) ∷ []

abbrev pub integers : List ℤ → List (List ℕ)
integers ns = map signed_decimal ns

-- what stands behind the word, token by token; the text of a comment counts as one
abbrev pub tokens_behind : LeafKind → List (List ℕ)
tokens_behind (Contacts name neg) = name ∷ flag neg ∷ []
tokens_behind (Coil name mode) = name ∷ mode_flags mode
tokens_behind Osr = []
tokens_behind Osf = []
tokens_behind Short = []
tokens_behind Open = []
tokens_behind MasterRelay = []
tokens_behind Placeholder = []
tokens_behind (Comment text) = comment_tokens text
tokens_behind (Timer how name delay) = name ∷ decimal delay ∷ []
tokens_behind (Counter how name max) = name ∷ signed_decimal max ∷ []
tokens_behind (Reset name) = name ∷ []
tokens_behind (Move dest src) = dest ∷ operand_text src ∷ []
tokens_behind (Math how dest a b) = dest ∷ operand_text a ∷ operand_text b ∷ []
tokens_behind (Compare how a b) = operand_text a ∷ operand_text b ∷ []
tokens_behind (Shift name places) = name ∷ decimal places ∷ []
tokens_behind (Table dest index as_text values) = dest ∷ operand_text index ∷ decimal (length values) ∷ flag as_text ∷ integers values
tokens_behind (ReadAdc name) = name ∷ []
tokens_behind (SetPwm name hz) = name ∷ decimal hz ∷ []
tokens_behind (Recv name) = name ∷ []
tokens_behind (Send name) = name ∷ []
tokens_behind (Persist name) = name ∷ []
tokens_behind (Linear dest index points) = dest ∷ operand_text index ∷ decimal (length points / 2) ∷ integers points
tokens_behind (Formatted name text) = name ∷ decimal (length text) ∷ map decimal text

-- one space (32) in front of each token
abbrev pub behind_spaces : List (List ℕ) → List ℕ
behind_spaces [] = []
behind_spaces (t ∷ ts) = 32 ∷ t ++ behind_spaces ts

abbrev pub element_words : LeafKind → List ℕ
element_words k = spelling (word_for k) ++ behind_spaces (tokens_behind k)
