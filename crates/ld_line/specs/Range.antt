-- What lines can say: names that are names, and numbers in their ranges.
use Rattle.std.specs.Prelude.{Bool, true, false, ◌&&◌, ℤ, pos, neg_ℤ, int_le, nat_le, length}
use Rattle.std.specs.List.{list_all}
use Rattle.ladder_tree.specs.Names.{is_name}
use Rattle.ladder_tree.specs.declared.element.LeafKind.{LeafKind}
use Rattle.ladder_tree.specs.declared.element.LeafKind.TheVariants.{Contacts, Coil, Osr, Osf, Short, Open, MasterRelay, Placeholder, Comment, Timer, Counter, Reset, Move, Math, Compare, Shift, Table, ReadAdc, SetPwm, Recv, Send, Persist, Linear, Formatted}
use Rattle.ladder_tree.specs.declared.element.Operand.{Operand}
use Rattle.ladder_tree.specs.declared.element.Operand.TheVariants.{Var, Num}
use Rattle.ladder_tree.specs.declared.limits.TheConstants.{SHIFT_PLACES, TABLE_VALUES}
use Rattle.ld_line.specs.Numbers.{most_delay, most_setting, most_pin}
use Rattle.ld_line.specs.declared.pins.PinsLine.{PinsLine}
use Rattle.ld_line.specs.declared.pins.PinsLine.TheVariants as pins
use Rattle.ld_line.specs.declared.header.HeaderLine.{HeaderLine}
use Rattle.ld_line.specs.declared.header.HeaderLine.TheVariants as header

-- a number of 16 bits with its sign
abbrev pub is_integer : ℤ → Bool
is_integer n = int_le (neg_ℤ (pos 32768)) n && int_le n (pos 32767)

abbrev pub is_read_operand : Operand → Bool
is_read_operand (Var name) = is_name name
is_read_operand (Num n) = is_integer n

-- an element that a line can say
abbrev pub is_read_kind : LeafKind → Bool
is_read_kind (Contacts name neg) = is_name name
is_read_kind (Coil name mode) = is_name name
is_read_kind Osr = true
is_read_kind Osf = true
is_read_kind Short = true
is_read_kind Open = true
is_read_kind MasterRelay = true
is_read_kind Placeholder = true
is_read_kind (Comment text) = true
is_read_kind (Timer how name delay) = is_name name && nat_le delay most_delay
is_read_kind (Counter how name max) = is_name name && is_integer max
is_read_kind (Reset name) = is_name name
is_read_kind (Move dest src) = is_name dest && is_read_operand src
is_read_kind (Math how dest a b) = is_name dest && (is_read_operand a && is_read_operand b)
is_read_kind (Compare how a b) = is_read_operand a && is_read_operand b
is_read_kind (Shift name places) = is_name name && (nat_le 1 places && nat_le places SHIFT_PLACES)
is_read_kind (Table dest index as_text values) = is_name dest && ((is_read_operand index && list_all is_integer values) && nat_le (length values) TABLE_VALUES)
is_read_kind (ReadAdc name) = is_name name
is_read_kind (SetPwm name hz) = is_name name && nat_le hz most_setting
is_read_kind (Recv name) = is_name name
is_read_kind (Send name) = is_name name
is_read_kind (Persist name) = is_name name
is_read_kind (Linear dest index points) = false
is_read_kind (Formatted name text) = false

abbrev pub is_read_pin : PinsLine → Bool
is_read_pin (pins.Pin p) = is_name p.name && nat_le p.pin most_pin
is_read_pin pins.End = true

abbrev pub is_read_setting : HeaderLine → Bool
is_read_setting (header.Micro target) = true
is_read_setting (header.Cycle n) = nat_le n most_setting
is_read_setting (header.Crystal n) = nat_le n most_setting
is_read_setting (header.Baud n) = nat_le n most_setting
is_read_setting header.Compiled = true
is_read_setting header.Pins = true
is_read_setting header.Program = true
