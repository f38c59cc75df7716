use Rattle.std.proofs.Common.{◌≡◌}
use Rattle.byte_code.specs.Table.{cleared}
use Rattle.byte_code.proofs.store.Store.clear_cells.Given as goal

abbrev pub invariant-loop-k : goal.invariant-loop-k
invariant-loop-k l = l.self ≡ cleared l.k l.fn.self
