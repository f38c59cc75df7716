use Rattle.std.proofs.Common.{◌≡◌, ◌++◌, length, map}
use Rattle.ld_line.specs.Tokens.{runs, tokens}
use Rattle.ld_line.proofs.tokens.tokens.Given as goal

abbrev pub invariant-loop-token : goal.invariant-loop-token
invariant-loop-token l = map (λ t. t.now) l.found.items ++ runs l.rest ≡ tokens l.fn.line

abbrev pub decreases-loop-token : goal.decreases-loop-token
decreases-loop-token l = length l.rest
