use Rattle.std.proofs.Common.{◌≡◌, ◌≤◌, false, drop}
use Rattle.int_code.specs.Closes.{closes}
use Rattle.int_code.proofs.well_formed.closes.Given as goal

abbrev pub invariant-loop-op : goal.invariant-loop-op
invariant-loop-op l = record {
  depth : l.depth ≤ l.op-index;
  rest : closes (drop l.op-index l.ops) l.depth l.had_els ≡ closes l.ops 0 false;
}
