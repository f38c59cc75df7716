use Rattle.std.proofs.Common.{◌≡◌, drop}
use Rattle.ladder_rules.specs.Owners.{line_from, line_of}
use Rattle.ladder_rules.proofs.owners.line_of.Given as goal

abbrev pub invariant-loop-place : goal.invariant-loop-place
invariant-loop-place l = line_from l.place (drop l.place l.pins) l.name ≡ line_of l.pins l.name
