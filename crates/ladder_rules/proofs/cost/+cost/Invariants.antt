use Rattle.std.proofs.Common.{◌≡◌, ◌+◌, drop}
use Rattle.ladder_rules.specs.Needs.{nodes_cost}
use Rattle.ladder_rules.proofs.cost.+cost.Given as goal

abbrev pub invariant-nodes_cost-loop-node : goal.invariant-nodes_cost-loop-node
invariant-nodes_cost-loop-node l = l.sum + nodes_cost l.column l.target (drop l.node-index l.nodes) ≡ nodes_cost l.column l.target l.nodes
