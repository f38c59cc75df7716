use Rattle.std.proofs.Common.{◌≡◌, ◌+◌, drop}
use Rattle.ladder_rules.specs.Needs.{total, rungs_cost}
use Rattle.ladder_rules.proofs.cost.total.Given as goal

abbrev pub invariant-loop-rung : goal.invariant-loop-rung
invariant-loop-rung l = l.sum + rungs_cost l.column l.target (drop l.rung-index l.rungs) ≡ total l.column l.target l.rungs
