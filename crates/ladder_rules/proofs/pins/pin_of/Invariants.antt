use Rattle.std.proofs.Common.{◌≡◌, drop}
use Rattle.ladder_rules.specs.Pins.{pin_of}
use Rattle.ladder_rules.proofs.pins.pin_of.Given as goal

abbrev pub invariant-loop-line : goal.invariant-loop-line
invariant-loop-line l = pin_of (drop l.line-index l.pins) l.name ≡ pin_of l.pins l.name
