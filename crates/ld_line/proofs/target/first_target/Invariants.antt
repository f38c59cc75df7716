use Rattle.std.proofs.Common.{◌≡◌, length}
use Rattle.texts.specs.Lines.{pieces}
use Rattle.ld_line.specs.Targets.{first_target}
use Rattle.ld_line.proofs.target.first_target.Given as goal

abbrev pub invariant-loop-word : goal.invariant-loop-word
invariant-loop-word l = first_target (pieces 32 l.rest) ≡ first_target (pieces 32 l.text)

abbrev pub decreases-loop-word : goal.decreases-loop-word
decreases-loop-word l = length l.rest
