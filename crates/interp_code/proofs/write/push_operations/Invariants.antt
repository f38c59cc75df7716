use Rattle.std.proofs.Common.{◌≡◌, ◌++◌, take, map}
use Rattle.std.specs.String.{string_bytes}
use Rattle.texts.specs.Lines.{joined}
use Rattle.int_code.specs.Text.{op_words}
use Rattle.interp_code.proofs.write.push_operations.Given as goal

abbrev pub invariant-loop-op : goal.invariant-loop-op
invariant-loop-op l = string_bytes l.text ≡ string_bytes l.fn.text ++ joined (map op_words (take l.op-index l.ops))
