use Rattle.std.proofs.Common.{◌≡◌, ◌++◌, length, map}
use Rattle.std.specs.Prelude.{filter}
use Rattle.texts.specs.Lines.{pieces, is_some_bytes}
use Rattle.ladder_trace.specs.Line.{tokens}
use Rattle.ladder_trace.proofs.reader.tokens.Given as goal

abbrev pub invariant-loop-piece : goal.invariant-loop-piece
invariant-loop-piece l = map (λ p. p.now) l.found.items ++ filter is_some_bytes (pieces 32 l.rest) ≡ tokens l.fn.line

abbrev pub decreases-loop-piece : goal.decreases-loop-piece
decreases-loop-piece l = length l.rest
