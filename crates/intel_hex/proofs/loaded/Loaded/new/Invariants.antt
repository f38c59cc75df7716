use Rattle.std.proofs.Common.{◌≡◌, replicate, None}
use Rattle.intel_hex.proofs.loaded.Loaded.new.Given as goal

abbrev pub invariant-loop : goal.invariant-loop
invariant-loop l = l.bytes.items ≡ replicate l.counter None
