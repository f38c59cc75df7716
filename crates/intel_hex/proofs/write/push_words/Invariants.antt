use Rattle.std.proofs.Common.{◌≡◌, ◌++◌, ◌-◌, ◌*◌, length}
use Rattle.intel_hex.specs.Text.{data_lines, record_count}
use Rattle.intel_hex.proofs.write.push_words.Given as goal

abbrev pub invariant-loop-place : goal.invariant-loop-place
invariant-loop-place l =
    l.text.items ++ data_lines (record_count (length l.fn.words) - l.place) (16 * l.place) l.rest
    ≡ l.fn.text.items ++ data_lines (record_count (length l.fn.words)) 0 l.fn.words
