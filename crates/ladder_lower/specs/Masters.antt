-- Whether a project has a MASTER_RELAY.
use Rattle.std.specs.Prelude.{Bool, true, false, List}
use Rattle.std.specs.List.{list_any}
use Rattle.ladder_tree.specs.declared.element.Leaf as leaf
use Rattle.ladder_tree.specs.declared.element.LeafKind.{LeafKind}
use Rattle.ladder_tree.specs.declared.element.LeafKind.TheVariants.{Contacts, Coil, Osr, Osf, Short, Open, MasterRelay, Placeholder, Comment, Timer, Counter}
use Rattle.ladder_tree.specs.declared.element.LeafKind.TheVariants.{Reset}
use Rattle.ladder_tree.specs.declared.element.LeafKind.TheVariants.{Move, Math, Compare, Shift, Table, ReadAdc, SetPwm, Recv, Send, Persist, Linear, Formatted}

abbrev pub is_master : LeafKind → Bool
is_master MasterRelay = true
is_master (Contacts name neg) = false
is_master (Coil name mode) = false
is_master Osr = false
is_master Osf = false
is_master Short = false
is_master Open = false
is_master Placeholder = false
is_master (Comment text) = false
is_master (Timer how name delay) = false
is_master (Counter how name max) = false
is_master (Reset name) = false
is_master (Move dest src) = false
is_master (Math how dest a b) = false
is_master (Compare how a b) = false
is_master (Shift name places) = false
is_master (Table dest index as_text values) = false
is_master (ReadAdc name) = false
is_master (SetPwm name hz) = false
is_master (Recv name) = false
is_master (Send name) = false
is_master (Persist name) = false
is_master (Linear dest index points) = false
is_master (Formatted name text) = false

abbrev pub any_master : List leaf.Leaf → Bool
any_master ls = list_any (λ l. is_master l.kind) ls
