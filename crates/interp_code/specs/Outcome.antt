-- How far lines were read.
use Rattle.std.specs.Prelude.{◌≡◌, ◌⊎◌, ℕ, ◌-◌, ◌<◌, ◌≤◌, List, length, take, Some, None}
use Rattle.interp_code.specs.declared.read.Reached.{Reached}
use Rattle.interp_code.specs.declared.read.Reached.TheVariants.{All, Stopped}
use Rattle.int_code.specs.declared.limits.TheConstants.{MOST_OPERATIONS}
use Rattle.interp_code.specs.Draft.{Draft, start, read}

-- the lines in front of it were read, and with it they may not be
pub record IsStopped (ls : List (List ℕ)) (line : ℕ) : Type 0 where
  pub some : 0 < line
  pub within : line ≤ length ls
  pub last : Draft
  pub before : read start (take (line - 1) ls) ≡ Some last
  pub few : length last.ops ≤ MOST_OPERATIONS
  pub cause : (read start (take line ls) ≡ None) ⊎ ((e : Draft) × (read start (take line ls) ≡ Some e) × (MOST_OPERATIONS < length e.ops))

-- how far lines were read, and what was read
abbrev pub IsOutcome : List (List ℕ) → Draft → Reached → Type 0
IsOutcome ls d (All count) = (read start ls ≡ Some d) × (length d.ops ≤ MOST_OPERATIONS) × (count ≡ length ls)
IsOutcome ls d (Stopped line) = IsStopped ls line
