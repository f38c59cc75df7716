use Rattle.std.proofs.Common.{◌≡◌, ◌+◌, ◌*◌, ◌≤◌}
use Rattle.intel_hex.specs.Kept.{word_count}
use Rattle.intel_hex.specs.Loaded.{held}
use Rattle.intel_hex.proofs.kept.word_count.Given as goal

abbrev pub invariant-loop-address : goal.invariant-loop-address
invariant-loop-address l = (l.count ≡ word_count (held l.bytes) l.address) × (2 * l.count ≤ l.address + 1)
