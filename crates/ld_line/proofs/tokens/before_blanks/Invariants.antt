use Rattle.std.proofs.Common.{◌≡◌, length}
use Rattle.ld_line.specs.Tokens.{is_blank, before}
use Rattle.ld_line.proofs.tokens.before_blanks.Given as goal

abbrev pub invariant-loop-byte : goal.invariant-loop-byte
invariant-loop-byte l = before is_blank l.rest ≡ before is_blank l.bytes

abbrev pub decreases-loop-byte : goal.decreases-loop-byte
decreases-loop-byte l = length l.rest
