-- Which images files can hold.
use Rattle.std.specs.Prelude.{◌≡◌, ℕ, ◌<◌, ◌≤◌, Bool, true, if◌then◌else◌, length, Option, Some, None, All, ⊤}
use Rattle.intel_hex.specs.declared.image.Image.{Image}
use Rattle.intel_hex.specs.Areas.{is_pic, flash_of}

-- a PIC's words have 14 bits, an AVR's 16
abbrev pub word_limit : Bool → ℕ
word_limit pic = if pic then 0x4000 else 0x10000

-- only a PIC's file has a configuration word
abbrev pub IsConfig : Bool → Option ℕ → Type 0
IsConfig pic None = ⊤
IsConfig pic (Some word) = (pic ≡ true) × (word < word_limit pic)

-- the chip has room for the image, and each word is one of its words
pub record IsImage (image : Image) : Type 0 where
  pub room : length image.words ≤ flash_of image.target
  pub words : All (λ w. w < word_limit (is_pic image.target)) image.words
  pub config : IsConfig (is_pic image.target) image.config
