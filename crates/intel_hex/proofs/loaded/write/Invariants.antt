use Rattle.std.proofs.Common.{◌≡◌, take, ℕ}
use Rattle.intel_hex.specs.Given.{byte_of, or_else}
use Rattle.intel_hex.specs.Loaded.{held}
use Rattle.intel_hex.proofs.loaded.write.Given as goal

abbrev pub invariant-loop-place : goal.invariant-loop-place
invariant-loop-place l = (a : ℕ) → held l.bytes a ≡ or_else (byte_of l.first (take l.place l.new) a) (held l.fn.bytes a)
