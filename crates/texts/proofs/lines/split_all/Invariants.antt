use Rattle.std.proofs.Common.{◌≡◌, ◌++◌, length, map}
use Rattle.texts.specs.Lines.{pieces}
use Rattle.texts.proofs.lines.split_all.Given as goal

abbrev pub invariant-loop-piece : goal.invariant-loop-piece
invariant-loop-piece l = map (λ p. p.now) l.found.items ++ pieces l.separator l.rest ≡ pieces l.separator l.fn.text

abbrev pub decreases-loop-piece : goal.decreases-loop-piece
decreases-loop-piece l = length l.rest
