-- The values of a table, one behind the other.
use Rattle.std.proofs.Common.{ℤ, List, ◌++◌, Option}
use Rattle.std.specs.Option.{option_map}

-- the values so far, and those of the words behind
abbrev pub and_those : List ℤ → Option (List ℤ) → Option (List ℤ)
and_those done more = option_map (λ ns. done ++ ns) more
