-- What one step of the loop over the operations does.
use Rattle.std.specs.Prelude.{◌≡◌, ℕ, ◌+◌, List, ◌++◌, drop}
use Rattle.int_code.specs.declared.op.IntOp.{IntOp}
use Rattle.byte_code.specs.declared.prim.Paced.{Paced}
use Rattle.byte_lower.specs.Lists.{lists_of}
use Rattle.byte_lower.specs.declared.layout.Layout.{Layout}

-- from operation k, whose number is k + 5, it goes on to the next, of which so many stand in the list that was appended
abbrev pub Goes : Layout → List IntOp → ℕ → List ℕ → List ℕ → ℕ → List Paced → List Paced → Type 0
Goes o ops k before after passed old new = new ++ lists_of o passed (drop (k + 1) ops) (k + 1 + 5) after ≡ old ++ lists_of o 0 (drop k ops) (k + 5) before
