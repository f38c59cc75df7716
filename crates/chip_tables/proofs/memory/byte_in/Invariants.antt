use Rattle.std.proofs.Common.{◌≡◌, drop}
use Rattle.chip_tables.specs.Memory.{byte_at}
use Rattle.chip_tables.proofs.memory.byte_in.Given as goal

abbrev pub invariant-loop-range : goal.invariant-loop-range
invariant-loop-range g l = byte_at (drop l.range-index l.ranges) l.left ≡ byte_at l.ranges l.index
