use Rattle.std.proofs.Common.{◌≡◌, map}
use Rattle.std.specs.List.{range_with_len}
use Rattle.intel_hex.specs.Kept.{word_at}
use Rattle.intel_hex.specs.Loaded.{held}
use Rattle.intel_hex.proofs.kept.words.Given as goal

abbrev pub invariant-loop-place : goal.invariant-loop-place
invariant-loop-place l = l.words ≡ map (word_at l.is_pic (held l.bytes)) (range_with_len 0 l.place)
