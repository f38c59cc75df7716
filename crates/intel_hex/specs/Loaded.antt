-- What is held of the lines that were read.
use Rattle.std.specs.Prelude.{◌≡◌, ℕ, List, length, Option, None}
use Rattle.std.proofs.Common.{get_or}
use Rattle.intel_hex.specs.declared.loaded.Loaded.{Loaded}
use Rattle.intel_hex.specs.declared.said.Said.{Said}
use Rattle.intel_hex.specs.Given.{upper, is_ended, given}

-- no chip has a byte at this address or past it
abbrev pub memory_size : ℕ
memory_size = 0x4400

-- the byte at an address, if one was given
abbrev pub held : List (Option ℕ) → ℕ → Option ℕ
held bytes address = get_or bytes address None

pub record Holds (before : List Said) (l : Loaded) : Type 0 where
  pub size : length l.bytes.items ≡ memory_size
  pub bytes : (address : ℕ) → held l.bytes.items address ≡ given before address
  pub upper : l.upper ≡ upper before
  pub ended : l.is_ended ≡ is_ended before
