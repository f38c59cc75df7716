use Rattle.std.proofs.Common.{◌≡◌, ◌++◌, drop, map}
use Rattle.ladder_meaning.specs.Device.{word_of}
use Rattle.byte_lower.proofs.table.words_of.Given as goal

abbrev pub invariant-loop-place : goal.invariant-loop-place
invariant-loop-place l = l.words ++ map word_of (drop l.place l.values) ≡ map word_of l.values
