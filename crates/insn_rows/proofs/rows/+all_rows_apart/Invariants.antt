use Rattle.std.proofs.Common.{length}
use Rattle.insn_rows.proofs.rows.+all_rows_apart.Given as goal

abbrev pub decreases-all_rows_apart : goal.decreases-all_rows_apart
decreases-all_rows_apart l = length l.rows.now
