-- Elements whose numbers operations can hold.
use Rattle.std.specs.Prelude.{ℕ, Bool, true, ◌&&◌, List, length, nat_le}
use Rattle.std.specs.List.{list_all}
use Rattle.ladder_tree.specs.declared.element.Leaf as leaf
use Rattle.ladder_tree.specs.declared.element.LeafKind.{LeafKind}
use Rattle.ladder_tree.specs.declared.element.LeafKind.TheVariants.{Contacts, Coil, Osr, Osf, Short, Open, MasterRelay, Placeholder, Comment, Timer, Counter}
use Rattle.ladder_tree.specs.declared.element.LeafKind.TheVariants.{Reset, Move, Math, Compare, Shift, Table, ReadAdc, SetPwm, Recv, Send, Persist, Linear}
use Rattle.ladder_tree.specs.declared.element.LeafKind.TheVariants.{Formatted}
use Rattle.ladder_tree.specs.declared.element.Operand.{Operand}
use Rattle.ladder_tree.specs.declared.element.Operand.TheVariants.{Var, Num}
use Rattle.ladder_tree.specs.declared.limits.TheConstants.{TABLE_VALUES, SHIFT_PLACES}
use Rattle.ladder_meaning.specs.Numbers.{period}
use Rattle.int_code.specs.Literals.{is_number, most_hertz}

abbrev pub is_fit_operand : Operand → Bool
is_fit_operand (Var name) = true
is_fit_operand (Num n) = is_number n

-- a timer's cycles and all numbers have 16 bits with a sign, and tables and shift registers have 60 places at most
abbrev pub is_fit : ℕ → LeafKind → Bool
is_fit cycle (Timer how name delay) = nat_le (period cycle delay) 32767
is_fit cycle (Counter how name max) = is_number max
is_fit cycle (Move dest src) = is_fit_operand src
is_fit cycle (Math how dest a b) = is_fit_operand a && is_fit_operand b
is_fit cycle (Compare how a b) = is_fit_operand a && is_fit_operand b
is_fit cycle (Shift name places) = nat_le places SHIFT_PLACES
is_fit cycle (Table dest index as_text values) = nat_le (length values) TABLE_VALUES && (is_fit_operand index && list_all is_number values)
is_fit cycle (SetPwm name hz) = nat_le hz most_hertz
-- in these there is no number
is_fit cycle (Contacts name neg) = true
is_fit cycle (Coil name mode) = true
is_fit cycle Osr = true
is_fit cycle Osf = true
is_fit cycle Short = true
is_fit cycle Open = true
is_fit cycle MasterRelay = true
is_fit cycle Placeholder = true
is_fit cycle (Comment text) = true
is_fit cycle (Reset name) = true
is_fit cycle (ReadAdc name) = true
is_fit cycle (Recv name) = true
is_fit cycle (Send name) = true
is_fit cycle (Persist name) = true
-- and these two are not built
is_fit cycle (Linear dest index points) = true
is_fit cycle (Formatted name text) = true

abbrev pub all_fit : ℕ → List leaf.Leaf → Bool
all_fit cycle ls = list_all (λ l. is_fit cycle l.kind) ls
