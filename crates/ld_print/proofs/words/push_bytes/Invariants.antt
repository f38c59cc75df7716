use Rattle.std.proofs.Common.{◌≡◌, ◌++◌, drop, map}
use Rattle.std.specs.Fmt.{decimal}
use Rattle.ld_print.specs.Words.{behind_spaces}
use Rattle.ld_print.proofs.words.push_bytes.Given as goal

abbrev pub invariant-loop-byte : goal.invariant-loop-byte
invariant-loop-byte l = l.line.items ++ behind_spaces (map decimal (drop l.byte-index l.bytes)) ≡ l.fn.line.items ++ behind_spaces (map decimal l.bytes)
