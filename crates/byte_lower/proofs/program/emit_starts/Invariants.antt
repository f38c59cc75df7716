use Rattle.std.proofs.Common.{◌≡◌, ◌++◌, drop}
use Rattle.byte_lower.specs.Code.{start_values}
use Rattle.byte_lower.proofs.program.emit_starts.Given as goal

abbrev pub invariant-loop-v : goal.invariant-loop-v
invariant-loop-v l = l.code ++ start_values l.layout (drop l.v l.starts) l.v ≡ l.fn.code ++ start_values l.layout l.starts 0
