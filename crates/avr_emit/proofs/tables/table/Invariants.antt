use Rattle.std.proofs.Common.{◌≡◌, ◌++◌, drop}
use Rattle.avr_code.specs.Code.{table_code, values_from, words_of}
use Rattle.avr_emit.proofs.tables.table.Given as goal

abbrev pub invariant-loop-i : goal.invariant-loop-i
invariant-loop-i l = l.words ++ words_of (values_from l.i l.before (drop l.i l.values)) ≡ l.fn.words ++ words_of (table_code l.values)
