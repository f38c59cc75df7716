-- What levels and numbers show of the first so many names.
use Rattle.std.specs.Prelude.{◌≡◌, ◌≢◌, ℕ, ◌<◌, ◌⊎◌, ◌↔◌, Bool, true, false, List, [], slice_index_or, ℤ, pos, Some}
use Rattle.chip_tables.specs.declared.pins.PortBit.{PortBit}
use Rattle.ladder_rules.specs.Assigned.{name_bit, name_channel}
use Rattle.ladder_tree.specs.declared.project.Project.{Project}
use Rattle.mem_plan.specs.Seen.{is_high}

-- an input among the first so many that stands at the port bit, with a high level
pub record HighInput (p : Project) (names : List (List ℕ)) (inputs : List Bool) (many : ℕ) (b : PortBit) : Type 0 where
  pub place : ℕ
  pub before : place < many
  pub there : name_bit p (slice_index_or names place []) ≡ Some b
  pub high : slice_index_or inputs place false ≡ true

-- high are the port bits of high inputs among the first so many, and no others
abbrev pub ShowsLevels : Project → List (List ℕ) → List Bool → ℕ → List ℕ → Type 0
ShowsLevels p names inputs many levels = (b : PortBit) → (is_high levels b ≡ true) ↔ HighInput p names inputs many b

-- an analog name among the first so many that stands at the channel, with the number
pub record AnalogInput (p : Project) (names : List (List ℕ)) (numbers : List ℤ) (many channel number : ℕ) : Type 0 where
  pub place : ℕ
  pub before : place < many
  pub there : name_channel p (slice_index_or names place []) ≡ Some channel
  pub shown : slice_index_or numbers place (pos 0) ≡ pos number

-- none of the first so many analog names stands at the channel, and the number is 0
pub record NoInput (p : Project) (names : List (List ℕ)) (many channel number : ℕ) : Type 0 where
  pub zero : number ≡ 0
  pub none : (place : ℕ) → place < many → name_channel p (slice_index_or names place []) ≢ Some channel

-- each channel has the number of an analog name that stands there among the first so many, or 0 where none does
abbrev pub ShowsNumbers : Project → List (List ℕ) → List ℤ → ℕ → List ℕ → Type 0
ShowsNumbers p names numbers many adc =
    (channel : ℕ) → AnalogInput p names numbers many channel (slice_index_or adc channel 0) ⊎ NoInput p names many channel (slice_index_or adc channel 0)
