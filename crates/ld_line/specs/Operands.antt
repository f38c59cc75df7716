-- Names, flags and operands.
use Rattle.std.specs.Prelude.{ℕ, Bool, true, false, ◌&&◌, ◌==◌, nat_le, pos, List, length, slice_index_or, codes, if◌then◌else◌}
use Rattle.std.specs.Str.{bytes_eq}
use Rattle.ladder_tree.specs.Names.{is_name}
use Rattle.ladder_tree.specs.declared.element.Operand.{Operand}
use Rattle.ladder_tree.specs.declared.element.Operand.TheVariants.{Var, Num}
use Rattle.ld_line.specs.Numbers.{integer}
use Rattle.ld_line.specs.Said.{said_map}
use Rattle.ld_line.specs.declared.said.Said.{Said}
use Rattle.ld_line.specs.declared.said.Said.TheVariants.{Bad, Is}

abbrev pub name : List ℕ → Said (List ℕ)
name token = if is_name token then Is token else Bad

-- 0 and 1 alone: 00 is no flag
abbrev pub flag : List ℕ → Said Bool
flag token = if bytes_eq token (codes "0") then Is false else (if bytes_eq token (codes "1") then Is true else Bad)

-- 'c': c is one byte that shows, 21h to 7Eh, and 39 is the quote
abbrev pub is_character : List ℕ → Bool
is_character token =
    length token == 3 && ((slice_index_or token 0 0 == 39 && slice_index_or token 2 0 == 39)
    && (nat_le 0x21 (slice_index_or token 1 0) && nat_le (slice_index_or token 1 0) 0x7e))

-- a name, the number of a character, or a number of 16 bits
unfoldable pub operand : List ℕ → Said Operand
operand token =
    if is_name token then Is (Var token)
    else (if is_character token then Is (Num (pos (slice_index_or token 1 0))) else said_map Num (integer token))
