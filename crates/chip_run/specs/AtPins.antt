-- The readings of a trace at a chip's pins.
use Rattle.std.specs.Prelude.{◌≡◌, ◌≤◌, true, None, List, length, map, All}
use Rattle.chip_tables.specs.declared.outside.PinReading.{PinReading}
use Rattle.ladder_meaning.specs.declared.reading.Reading.{Reading}
use Rattle.ladder_tree.specs.declared.limits.TheConstants.{ANALOG_NUMBER}
use Rattle.ladder_tree.specs.Names.{names_of}
use Rattle.ladder_tree.specs.declared.names.Names.{Names}
use Rattle.ladder_tree.specs.declared.project.Project.{Project}
use Rattle.ladder_rules.specs.Pins.{is_chip}
use Rattle.ladder_rules.specs.Verdict.{rule}
use Rattle.mem_plan.specs.Seen.{pins_seen, IsForChip, IsZeroElsewhere}

-- A byte for each of five ports and a number for each of eight channels: low levels and 0 where the project has no name, and numbers that the
-- analog-to-digital converter gives.
pub record IsPlain (p : Project) (n : Names) (r : PinReading) : Type 0 where
  pub ports : length r.levels ≡ 5
  pub channels : length r.adc ≡ 8
  pub elsewhere : IsZeroElsewhere p n r
  pub converted : All (λ k. k ≤ ANALOG_NUMBER) r.adc

-- of each reading at the pins the ladder sees the reading
pub record ArePinsOf (p : Project) (n : Names) (readings : List Reading) (pins : List PinReading) : Type 0 where
  pub seen : map (pins_seen p n) pins ≡ readings
  pub plain : All (IsPlain p n) pins

-- there is one such list of readings at the pins at most
abbrev pub ReadingsStandOnce : Type 0
ReadingsStandOnce = (p : Project) (n : Names) (readings : List Reading) (a b : List PinReading) → ArePinsOf p n readings a → ArePinsOf p n readings b → a ≡ b

-- and one at least, where the names have pins and the readings are those of a chip
abbrev pub ReadingsStand : Type 0
ReadingsStand =
    (p : Project) (readings : List Reading) → is_chip p.target ≡ true → rule p ≡ None → All (IsForChip (names_of p.rungs)) readings →
    (pins : List PinReading) × ArePinsOf p (names_of p.rungs) readings pins
