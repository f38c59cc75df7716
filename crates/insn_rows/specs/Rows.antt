-- Rows of a table of instructions, and when no word matches two of them.
use Rattle.std.specs.Prelude.{◌≡◌, ◌==◌, ◌&&◌, ◌||◌, not, true, ℕ, Bool, bit_and, List, [], ◌∷◌}
use Rattle.std.specs.List.{list_all}
use Rattle.insn_rows.specs.declared.rows.InsnRow.{InsnRow}

-- under the row's mask the word has the row's bits
abbrev pub is_match : ℕ → InsnRow → Bool
is_match w row = bit_and w row.mask == row.bits

-- no word matches both rows
abbrev pub Apart : InsnRow → InsnRow → Type 0
Apart a b = (w : ℕ) → is_match w a ≡ true → is_match w b ≡ true → ⊥

-- the test: a row has bits outside its mask, or the two differ where both masks are
abbrev pub are_apart : InsnRow → InsnRow → Bool
are_apart a b =
    not (bit_and a.bits a.mask == a.bits) || (not (bit_and b.bits b.mask == b.bits) || not (bit_and a.bits b.mask == bit_and b.bits a.mask))

-- the test of each row with each later one
abbrev pub all_apart : List InsnRow → Bool
all_apart [] = true
all_apart (row ∷ rows) = list_all (are_apart row) rows && all_apart rows
