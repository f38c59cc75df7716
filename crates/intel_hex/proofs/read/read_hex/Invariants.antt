use Rattle.std.proofs.Common.{◌≡◌, ◌+◌, ◌≤◌, List, length}
use Rattle.texts.specs.Lines.{lines}
use Rattle.intel_hex.specs.declared.said.Said.{Said}
use Rattle.intel_hex.specs.Loaded.{Holds}
use Rattle.intel_hex.specs.Verdict.{hex_verdict, sayings, verdict}
use Rattle.texts.specs.Limits.{is_over}
use Rattle.texts.specs.declared.limits.TheConstants.{FILE_BYTES}
use Rattle.intel_hex.proofs.read.read_hex.Given as goal

abbrev pub invariant-loop-bytes : goal.invariant-loop-bytes
invariant-loop-bytes l = (before : List Said) × Holds before l.loaded
    × (verdict l.target before (sayings (is_over FILE_BYTES l.text) (lines l.rest)) ≡ hex_verdict l.target l.text)
    × (l.line ≡ length before) × (l.line + length l.rest ≤ FILE_BYTES + 1)

abbrev pub decreases-loop-bytes : goal.decreases-loop-bytes
decreases-loop-bytes l = length l.rest
