use Rattle.std.proofs.Common.{◌≡◌, max, drop}
use Rattle.ladder_lower.specs.Nesting.{nesting_of_all}
use Rattle.ladder_lower.proofs.survey.nesting.Given as goal

abbrev pub invariant-loop-rung : goal.invariant-loop-rung
invariant-loop-rung l = max l.deepest (nesting_of_all (drop l.rung-index l.rungs)) ≡ nesting_of_all l.rungs
