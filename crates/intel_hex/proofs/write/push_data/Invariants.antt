use Rattle.std.proofs.Common.{◌≡◌, ◌++◌, drop}
use Rattle.intel_hex.specs.Text.{word_bytes}
use Rattle.intel_hex.proofs.write.push_data.Given as goal

abbrev pub invariant-loop-word : goal.invariant-loop-word
invariant-loop-word l = l.bytes.items ++ word_bytes (drop l.word-index l.words) ≡ word_bytes l.words
