use Rattle.std.proofs.Common.{◌≡◌, ◌++◌, drop}
use Rattle.std.specs.Fmt.{signed_decimal}
use Rattle.ladder_trace.specs.Shown.{all_named}
use Rattle.ladder_trace.proofs.shown.push_values.Given as goal

abbrev pub invariant-loop-place : goal.invariant-loop-place
invariant-loop-place l =
    l.line.items ++ all_named signed_decimal (drop l.place l.names) (drop l.place l.values) ≡ l.fn.line.items ++ all_named signed_decimal l.names l.values
