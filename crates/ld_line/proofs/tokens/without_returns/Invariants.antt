use Rattle.std.proofs.Common.{◌≡◌, length}
use Rattle.ld_line.specs.Tokens.{is_return, before}
use Rattle.ld_line.proofs.tokens.without_returns.Given as goal

abbrev pub invariant-loop-front : goal.invariant-loop-front
invariant-loop-front l = before is_return l.rest ≡ before is_return l.line

abbrev pub decreases-loop-front : goal.decreases-loop-front
decreases-loop-front l = length l.rest
