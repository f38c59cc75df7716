-- The names of a project: each list holds the names of a kind by first appearance.
use Rattle.std.specs.Prelude.{ℕ, zero, suc, ◌+◌, Bool, true, false, not, ◌&&◌, ◌||◌, ◌==◌, List, [], ◌∷◌, ◌++◌, length, nat_eq, nat_le, slice_index_or, filter, if◌then◌else◌}
use Rattle.std.specs.Fmt.{decimal}
use Rattle.std.specs.List.{list_any, list_all}
use Rattle.std.specs.Str.{bytes_eq}
use Rattle.texts.specs.Digits.{is_digit}
use Rattle.ladder_tree.specs.declared.element.Leaf as leaf
use Rattle.ladder_tree.specs.declared.element.LeafKind.{LeafKind}
use Rattle.ladder_tree.specs.declared.element.LeafKind.TheVariants.{Contacts, Coil, Osr, Osf, Short, Open, MasterRelay, Placeholder, Comment, Timer, Counter, Reset, Move, Math, Compare, Shift, Table, ReadAdc, SetPwm, Recv, Send, Persist, Linear, Formatted}
use Rattle.ladder_tree.specs.declared.element.Operand.{Operand}
use Rattle.ladder_tree.specs.declared.element.Operand.TheVariants.{Var, Num}
use Rattle.ladder_tree.specs.declared.project.Rung.{Rung}
use Rattle.ladder_tree.specs.declared.limits.TheConstants.{NAME_BYTES}
use Rattle.ladder_tree.specs.declared.names.Names.{Names}
use Rattle.ladder_tree.specs.Leaves.{all_leaves}

-- a name's first letter tells what it is: 88 is X, 89 is Y, 82 is R
abbrev pub begins_with : ℕ → List ℕ → Bool
begins_with letter name = nat_eq (slice_index_or name 0 0) letter

abbrev pub is_input : List ℕ → Bool
is_input name = begins_with 88 name

abbrev pub is_output : List ℕ → Bool
is_output name = begins_with 89 name

abbrev pub is_relay : List ℕ → Bool
is_relay name = begins_with 82 name

abbrev pub is_letter : ℕ → Bool
is_letter b = (nat_le 65 b && nat_le b 90) || (nat_le 97 b && nat_le b 122)

-- 95 is _
abbrev pub is_name_byte : ℕ → Bool
is_name_byte b = is_letter b || (is_digit b || b == 95)

-- 1 to so many letters, digits or _, not beginning with a digit
abbrev pub is_name_within : ℕ → List ℕ → Bool
is_name_within most [] = false
is_name_within most (b ∷ bs) = not (is_digit b) && (list_all is_name_byte (b ∷ bs) && nat_le (length (b ∷ bs)) most)

-- a name of a project
abbrev pub is_name : List ℕ → Bool
is_name name = is_name_within NAME_BYTES name

abbrev pub operand_names : Operand → List (List ℕ)
operand_names (Var name) = name ∷ []
operand_names (Num n) = []

-- name0, name1 and so on, so many
abbrev pub numbered_names : List ℕ → ℕ → List (List ℕ)
numbered_names name zero = []
numbered_names name (suc k) = numbered_names name k ++ (name ++ decimal k) ∷ []

-- What an element names, and how many memory bits it has.
pub record Named : Type 0 where
  -- its bit
  pub bits : List (List ℕ)
  -- whether that begins with a letter of its kind
  pub is_right : Bool
  -- its variables, from left to right
  pub variables : List (List ℕ)
  -- the one that an analog input is read into
  pub analog : List (List ℕ)
  -- the one that the EEPROM keeps
  pub persistent : List (List ℕ)
  pub memories : ℕ

abbrev pub nothing : Named
nothing = record { bits = []; is_right = true; variables = []; analog = []; persistent = []; memories = 0 }

abbrev pub bit : List ℕ → Bool → Named
bit name right = record nothing { bits = name ∷ []; is_right = right }

abbrev pub memory : Named
memory = record nothing { memories = 1 }

abbrev pub variables : List (List ℕ) → Named
variables names = record nothing { variables = names }

abbrev pub variable : List ℕ → Named
variable name = variables (name ∷ [])

-- A contact's name begins with X, Y or R, and a coil's with Y or R. A counter and a shift register remember their input in a memory bit, as one-shots do.
abbrev pub named : LeafKind → Named
named (Contacts name neg) = bit name (is_input name || (is_output name || is_relay name))
named (Coil name mode) = bit name (is_output name || is_relay name)
named Osr = memory
named Osf = memory
named Short = nothing
named Open = nothing
named MasterRelay = nothing
named Placeholder = nothing
named (Comment text) = nothing
named (Timer how name delay) = variable name
named (Counter how name max) = record (variable name) { memories = 1 }
named (Reset name) = variable name
named (Move dest src) = variables (dest ∷ operand_names src)
named (Math how dest a b) = variables (dest ∷ (operand_names a ++ operand_names b))
named (Compare how a b) = variables (operand_names a ++ operand_names b)
named (Shift name places) = record (variables (numbered_names name places)) { memories = 1 }
named (Table dest index as_text values) = variables (dest ∷ operand_names index)
named (ReadAdc name) = record (variable name) { analog = name ∷ [] }
named (SetPwm name hz) = variable name
named (Recv name) = variable name
named (Send name) = variable name
named (Persist name) = record (variable name) { persistent = name ∷ [] }
named (Linear dest index points) = variables (dest ∷ operand_names index)
named (Formatted name text) = variable name

abbrev pub bit_names : LeafKind → List (List ℕ)
bit_names k = (named k).bits

abbrev pub variable_names : LeafKind → List (List ℕ)
variable_names k = (named k).variables

abbrev pub analog_names : LeafKind → List (List ℕ)
analog_names k = (named k).analog

abbrev pub persistent_names : LeafKind → List (List ℕ)
persistent_names k = (named k).persistent

abbrev pub memories : LeafKind → ℕ
memories k = (named k).memories

abbrev pub has_kind : LeafKind → Bool
has_kind k = (named k).is_right

-- all that elements name, in file order
abbrev pub all_named : (LeafKind → List (List ℕ)) → List leaf.Leaf → List (List ℕ)
all_named names [] = []
all_named names (l ∷ ls) = names l.kind ++ all_named names ls

-- the bits that elements name, in file order
abbrev pub all_bits : List leaf.Leaf → List (List ℕ)
all_bits ls = all_named bit_names ls

-- all appearances of bits of a kind
abbrev pub appearances : (List ℕ → Bool) → List leaf.Leaf → List (List ℕ)
appearances is_kind ls = filter is_kind (all_bits ls)

-- each name once, where it first appears
abbrev pub firsts_from : List (List ℕ) → List (List ℕ) → List (List ℕ)
firsts_from seen [] = seen
firsts_from seen (n ∷ ns) = if list_any (bytes_eq n) seen then firsts_from seen ns else firsts_from (seen ++ n ∷ []) ns

abbrev pub firsts : List (List ℕ) → List (List ℕ)
firsts names = firsts_from [] names

abbrev pub memories_in : List leaf.Leaf → ℕ
memories_in [] = 0
memories_in (l ∷ ls) = memories l.kind + memories_in ls

abbrev pub names_of : List Rung → Names
names_of gs = record {
  inputs = firsts (appearances is_input (all_leaves gs));
  outputs = firsts (appearances is_output (all_leaves gs));
  relays = firsts (appearances is_relay (all_leaves gs));
  variables = firsts (all_named variable_names (all_leaves gs));
  analog = firsts (all_named analog_names (all_leaves gs));
  persistent = firsts (all_named persistent_names (all_leaves gs));
  memories = memories_in (all_leaves gs);
}

-- Each bit that elements name is a name, and of its element's kind.
abbrev pub is_well_named : LeafKind → Bool
is_well_named k = has_kind k && list_all is_name (bit_names k)

abbrev pub all_well_named : List leaf.Leaf → Bool
all_well_named ls = list_all (λ l. is_well_named l.kind) ls
