use Rattle.std.proofs.Common.{◌≡◌, ◌≤◌, ◌+◌, ◌*◌, drop, take}
use Rattle.avr_code.specs.Code.{table_code, values_from, size_in}
use Rattle.avr_counts.proofs.tables.table_words.Given as goal

abbrev pub invariant-loop-i : goal.invariant-loop-i
invariant-loop-i l =
    (l.count + size_in (values_from l.i l.before (drop l.i (take 256 l.values))) ≡ size_in (table_code (take 256 l.values))) × (l.count ≤ 4 * l.i)
