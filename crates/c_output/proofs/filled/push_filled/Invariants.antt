use Rattle.std.proofs.Common.{◌≡◌, ◌++◌, drop}
use Rattle.c_output.specs.Filled.{filled}
use Rattle.c_output.proofs.filled.push_filled.Given as goal

abbrev pub invariant-loop-byte : goal.invariant-loop-byte
invariant-loop-byte l = l.text.items ++ filled (drop l.byte-index l.bytes) l.name l.first l.second ≡ l.fn.text.items ++ filled l.bytes l.name l.first l.second
