use Rattle.std.proofs.Common.{◌≡◌, ◌+◌, ◌≤◌, ℕ, List, ◌++◌, length, Some}
use Rattle.texts.specs.Lines.{lines}
use Rattle.int_code.specs.declared.limits.TheConstants.{MOST_OPERATIONS}
use Rattle.interp_code.specs.Draft.{read, start}
use Rattle.interp_code.specs.Held.{draft}
use Rattle.interp_code.proofs.read.read_lines.Given as goal

abbrev pub invariant-loop-bytes : goal.invariant-loop-bytes
invariant-loop-bytes l = (passed : List (List ℕ)) × (lines l.fn.text ≡ passed ++ lines l.rest) × (l.line ≡ length passed)
    × (l.line + length l.rest ≤ length l.fn.text) × (read start passed ≡ Some (draft l.reader)) × (length l.reader.ops ≤ MOST_OPERATIONS)

abbrev pub decreases-loop-bytes : goal.decreases-loop-bytes
decreases-loop-bytes l = length l.rest
