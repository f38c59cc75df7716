-- Where names stand on a chip.
use Rattle.std.specs.Prelude.{◌≡◌, ◌≢◌, ℕ, ◌<◌, List, [], length, slice_index_or, All, Option, IsSome}
use Rattle.std.specs.Option.{option_and_then}
use Rattle.chip_tables.specs.Pins.{port_bit_at, channel_at}
use Rattle.chip_tables.specs.declared.pins.PortBit.{PortBit}
use Rattle.ladder_tree.specs.declared.names.Names.{Names}
use Rattle.ladder_tree.specs.declared.project.Project.{Project}
use Rattle.ladder_rules.specs.Pins.{pin_of}

-- the port bit at the pin of a name
abbrev pub name_bit : Project → List ℕ → Option PortBit
name_bit p name = option_and_then (port_bit_at p.target) (pin_of p.pins name)

-- the channel whose input is the pin of a name
abbrev pub name_channel : Project → List ℕ → Option ℕ
name_channel p name = option_and_then (channel_at p.target) (pin_of p.pins name)

-- each name has a place, and no two have one
pub record HavePlaces (X : Type 0) (place : List ℕ → Option X) (names : List (List ℕ)) : Type 0 where
  pub each : All (λ name. IsSome (place name)) names
  pub apart : (i j : ℕ) → i < length names → j < length names → place (slice_index_or names i []) ≡ place (slice_index_or names j []) → i ≡ j

-- inputs and outputs stand at port bits, and analog names at channels, each at one of its own; no input has the port bit of an output
pub record HavePins (p : Project) (n : Names) : Type 0 where
  pub inputs : HavePlaces PortBit (name_bit p) n.inputs
  pub outputs : HavePlaces PortBit (name_bit p) n.outputs
  pub analog : HavePlaces ℕ (name_channel p) n.analog
  pub crossed : (i j : ℕ) → i < length n.inputs → j < length n.outputs → name_bit p (slice_index_or n.inputs i []) ≢ name_bit p (slice_index_or n.outputs j [])
