-- When a HEX file carries a project on the ATmega16.
use Rattle.std.specs.Prelude.{◌≡◌, ℕ, ◌≤◌, List, length, Some, Ok}
use Rattle.chip_tables.specs.declared.settings.Settings.{Settings}
use Rattle.chip_tables.specs.declared.target.Target.TheVariants.{Mega16}
use Rattle.ladder_tree.specs.declared.project.Project.{Project}
use Rattle.ladder_rules.specs.Needs.{word_need}
use Rattle.ladder_rules.specs.Settings.{settings_of}
use Rattle.intel_hex.specs.Text.{hex_text}
use Rattle.intel_hex.specs.Verdict.{hex_verdict}
use Rattle.intel_hex.specs.declared.image.Image.{Image}
use Rattle.chip_meaning.specs.Carries.{Carries}
use Rattle.avr_chip.specs.Machine.{IsReset, avr_chip}

-- The file is the text that is written for an image, is read as it, and its words, which are no more than the project's need, carry the project: from
-- reset, whatever RAM and registers hold, with the devices set as the project has them.
pub record CarriesHex (p : Project) (file : List ℕ) (cycles boot : ℕ) : Type 0 where
  pub image : Image
  pub text : file ≡ hex_text image
  pub read : hex_verdict Mega16 file ≡ Ok image
  pub few : length image.words ≤ word_need p
  pub settings : Settings
  pub set : settings_of p ≡ Some settings
  pub carries : Carries avr_chip (IsReset settings) p image.words cycles boot
