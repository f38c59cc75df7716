use Rattle.std.proofs.Common.{◌≡◌, ◌+◌, ◌≤◌, length}
use Rattle.texts.specs.Lines.{lines}
use Rattle.ladder_trace.specs.Token.{IsReadingOf}
use Rattle.ladder_trace.specs.Trace.{read, read_from}
use Rattle.ladder_trace.specs.Held.{reading, draft}
use Rattle.ladder_trace.proofs.trace.read_lines.Given as goal

abbrev pub invariant-loop-bytes : goal.invariant-loop-bytes
invariant-loop-bytes l = record {
  fits : IsReadingOf l.names (reading l.reader.levels);
  count : l.line + length (lines l.rest) ≡ length (lines l.fn.text);
  within : l.line + length l.rest ≤ length l.fn.text;
  rest : read_from l.names l.line (draft l.reader) (lines l.rest) ≡ read l.names (lines l.fn.text);
}

abbrev pub decreases-loop-bytes : goal.decreases-loop-bytes
decreases-loop-bytes l = length l.rest
