use Rattle.std.proofs.Common.{◌≡◌, length}
use Rattle.ld_line.specs.Tokens.{is_blank, behind}
use Rattle.ld_line.proofs.tokens.behind_blanks.Given as goal

abbrev pub invariant-loop-byte : goal.invariant-loop-byte
invariant-loop-byte l = behind is_blank l.rest ≡ behind is_blank l.bytes

abbrev pub decreases-loop-byte : goal.decreases-loop-byte
decreases-loop-byte l = length l.rest
