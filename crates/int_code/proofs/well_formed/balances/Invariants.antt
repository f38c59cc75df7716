use Rattle.std.proofs.Common.{◌≡◌, ◌≤◌, drop}
use Rattle.int_code.specs.Closes.{balances}
use Rattle.int_code.proofs.well_formed.balances.Given as goal

abbrev pub invariant-loop-op : goal.invariant-loop-op
invariant-loop-op l = record {
  depth : l.depth ≤ l.op-index;
  rest : balances (drop l.op-index l.ops) l.depth ≡ balances l.ops 0;
}
