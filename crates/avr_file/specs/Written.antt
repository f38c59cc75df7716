-- How many words a HEX file has.
use Rattle.std.specs.Prelude.{◌≡◌, ℕ, List, length, Ok}
use Rattle.chip_tables.specs.declared.target.Target.TheVariants.{Mega16}
use Rattle.intel_hex.specs.Verdict.{hex_verdict}
use Rattle.intel_hex.specs.declared.image.Image.{Image}

-- the file is read as an image of so many
pub record HasWords (file : List ℕ) (words : ℕ) : Type 0 where
  pub image : Image
  pub read : hex_verdict Mega16 file ≡ Ok image
  pub count : length image.words ≡ words
