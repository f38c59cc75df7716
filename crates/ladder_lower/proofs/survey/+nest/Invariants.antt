use Rattle.std.proofs.Common.{◌≡◌, max, drop}
use Rattle.ladder_lower.specs.Nesting.{nesting_in}
use Rattle.ladder_lower.proofs.survey.+nest.Given as goal

abbrev pub invariant-nesting_in-loop-node : goal.invariant-nesting_in-loop-node
invariant-nesting_in-loop-node l = max l.deepest (nesting_in (drop l.node-index l.nodes)) ≡ nesting_in l.nodes
