use Rattle.std.proofs.Common.{◌≡◌, ◌<◌, drop}
use Rattle.ladder_rules.specs.Timers.{mark_from, mark_of}
use Rattle.ladder_rules.specs.declared.limits.TheConstants.{MARKS}
use Rattle.ladder_rules.proofs.timers.mark_of.Given as goal

abbrev pub invariant-loop-byte : goal.invariant-loop-byte
invariant-loop-byte l = record {
  small : l.mark < MARKS;
  mark : mark_from l.mark (drop l.byte-index l.byte-items) ≡ mark_of l.name;
}
