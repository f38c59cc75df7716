-- When a store shows a ladder's state within a cycle, by names, and which names have places.
use Rattle.std.proofs.Common.{◌≡◌, ℕ, ◌<◌, Bool, true, false, cond, List, [], ◌∷◌, length}
use Rattle.std.specs.List.{list_any}
use Rattle.std.specs.Prelude.{slice_index_or}
use Rattle.std.specs.Str.{bytes_eq}
use Rattle.ladder_tree.specs.Names.{is_input, is_output, variable_names}
use Rattle.ladder_tree.specs.declared.element.Leaf as leaf
use Rattle.ladder_tree.specs.declared.element.LeafKind.TheVariants.{Contacts, Coil, MasterRelay, ReadAdc, Persist}
use Rattle.ladder_tree.specs.declared.element.LeafKind.{LeafKind}
use Rattle.ladder_tree.specs.declared.names.Names.{Names}
use Rattle.ladder_meaning.specs.State.{Now, place_of}
use Rattle.int_code.specs.Store.{Devices, Store}
use Rattle.ladder_lower.specs.Wires.{memory_bit, flag_bit, master}
use Rattle.ladder_lower.specs.declared.layout.Layout.{Layout}

abbrev pub held : List (List ℕ) → List ℕ → Bool
held names name = list_any (λ x. bytes_eq x name) names

-- the devices of a ladder within a cycle
abbrev pub devices_of : Now → Devices
devices_of s = record {
  eeprom = s.kept.eeprom;
  pending = s.kept.pending;
  duty = s.kept.duty;
  sending = s.sending;
  writing = s.writing;
  received = s.received;
  sent = s.sent;
}

pub record Stands (n : Layout) (s : Now) (t : Store) : Type 0 where
  pub relays : (name : List ℕ) → is_output name ≡ false → held n.relays name ≡ true → t.bit (place_of n.relays name) ≡ s.kept.bit name
  pub outputs : (name : List ℕ) → is_output name ≡ true → held n.outputs name ≡ true → t.output (place_of n.outputs name) ≡ s.kept.bit name
  pub memories : (k : ℕ) → k < n.memories → t.bit (memory_bit n k) ≡ s.kept.memory k
  pub numbers : (name : List ℕ) → held n.variables name ≡ true → t.number (place_of n.variables name) ≡ s.kept.number name
  pub loaded : (name : List ℕ) → held n.persistent name ≡ true → t.bit (flag_bit n name) ≡ s.kept.loaded name
  pub devices : t.devices ≡ devices_of s
  pub master : n.has_master ≡ true → t.bit (master n) ≡ s.master
  -- with no MASTER_RELAY the bit stays as it was at the start
  pub plain : n.has_master ≡ false → s.master ≡ true

-- a name is in the list of its kind
abbrev pub IsHeld : Layout → List ℕ → Type 0
IsHeld n name = cond (is_output name) (held n.outputs name) (held n.relays name) ≡ true

-- each of the names is in the list
abbrev pub AllHeld : List (List ℕ) → List (List ℕ) → Type 0
AllHeld list [] = Unit {0}
AllHeld list (x ∷ xs) = (held list x ≡ true) × AllHeld list xs

-- the name that an element writes or reads besides variables has a place
abbrev pub IsNamedPlace : Layout → LeafKind → Type 0
IsNamedPlace n (Contacts name neg) = cond (is_input name) (held n.inputs name) (cond (is_output name) (held n.outputs name) (held n.relays name)) ≡ true
IsNamedPlace n (Coil name mode) = IsHeld n name
IsNamedPlace n MasterRelay = n.has_master ≡ true
IsNamedPlace n (ReadAdc name) = held n.analog name ≡ true
IsNamedPlace n (Persist name) = held n.persistent name ≡ true
IsNamedPlace n kind = Unit {0}

-- all names of an element have places, and with it a MASTER_RELAY's wire
pub record IsNamed (n : Layout) (kind : LeafKind) : Type 0 where
  pub place : IsNamedPlace n kind
  pub variables : AllHeld n.variables (variable_names kind)

abbrev pub AllNamed : Layout → List leaf.Leaf → Type 0
AllNamed n [] = Unit {0}
AllNamed n (l ∷ ls) = IsNamed n l.kind × AllNamed n ls

-- names of one kind, each once
pub record IsListed (is_kind : Bool) (xs : List (List ℕ)) : Type 0 where
  pub place : (k : ℕ) → k < length xs → place_of xs (slice_index_or xs k []) ≡ k
  pub kind : (k : ℕ) → k < length xs → is_output (slice_index_or xs k []) ≡ is_kind

-- each of the names once
abbrev pub AllPlaced : List (List ℕ) → Type 0
AllPlaced xs = (k : ℕ) → k < length xs → place_of xs (slice_index_or xs k []) ≡ k

pub record Listed (n : Names) : Type 0 where
  pub outputs : IsListed true n.outputs
  pub relays : IsListed false n.relays
  pub variables : AllPlaced n.variables
  pub persistent : AllPlaced n.persistent
