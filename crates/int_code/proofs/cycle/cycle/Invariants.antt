use Rattle.std.proofs.Common.{◌≡◌, ◌≤◌, true, List, Bool, length, drop}
use Rattle.int_code.specs.Held.{store_of, SameSizes}
use Rattle.int_code.specs.WellFormed.{nests}
use Rattle.int_code.specs.Meaning.{Moment, run, begin}
use Rattle.int_code.specs.Stands.{Stands, IsIdle}
use Rattle.int_code.proofs.cycle.cycle.Given as goal

abbrev pub invariant-loop-op : goal.invariant-loop-op
invariant-loop-op l = record {
  depth : l.p.depth ≤ l.op-index;
  count : l.p.count ≤ l.op-index;
  sizes : SameSizes l.fn.state l.state;
  idle : IsIdle l.state;
  stands : (m : Moment) × (es : List Bool) × Stands m l.p l.state × (length es ≡ length m.ifs) × (nests (drop l.op-index l.ops) es ≡ true) ×
      (run l.reading (drop l.op-index l.ops) m ≡ run l.reading l.ops (begin l.reading (store_of l.fn.state)));
}
