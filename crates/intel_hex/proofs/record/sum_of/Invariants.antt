use Rattle.std.proofs.Common.{◌≡◌, ◌+◌, ◌%◌, sum, drop}
use Rattle.intel_hex.proofs.record.sum_of.Given as goal

abbrev pub invariant-loop-byte : goal.invariant-loop-byte
invariant-loop-byte l = (l.sum + sum (drop l.byte-index l.bytes)) % 256 ≡ sum l.bytes % 256
