use Rattle.std.proofs.Common.{sym, ◌∙◌}
use Rattle.insn_rows.proofs.Apart.{tests_all, all_tests}
use Rattle.insn_rows.proofs.rows.rows_apart.Goals as goal

pub returns : goal.returns
returns g c =
    (λ t. tests_all c.args.rows.now (sym c.all_rows_apart.ensures ∙ t), λ h. c.all_rows_apart.ensures ∙ all_tests c.args.rows.now h)
