use Rattle.std.proofs.Common.{◌∙◌}
use Rattle.insn_rows.proofs.Only.{only_row}
use Rattle.insn_rows.proofs.rows.find_row.Goals as goal

pub returns-clause-only : goal.returns-clause-only
returns-clause-only g c =
    λ apart place row at m. c.first_match.ensures ∙ only_row c.args.rows.now c.args.word place row apart at m
