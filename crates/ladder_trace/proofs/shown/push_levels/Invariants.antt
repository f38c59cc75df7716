use Rattle.std.proofs.Common.{◌≡◌, ◌++◌, drop}
use Rattle.ladder_trace.specs.Shown.{level_text, all_named}
use Rattle.ladder_trace.proofs.shown.push_levels.Given as goal

abbrev pub invariant-loop-place : goal.invariant-loop-place
invariant-loop-place l =
    l.line.items ++ all_named level_text (drop l.place l.names) (drop l.place l.levels) ≡ l.fn.line.items ++ all_named level_text l.names l.levels
