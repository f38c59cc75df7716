use Rattle.std.proofs.Common.{◌∙◌, ◌++◌, ap, codes}
use Rattle.texts.specs.Lines.{joined}
use Rattle.ld_print.specs.Printed.{nodes_lines}
use Rattle.ld_print.proofs.JoinedLemmas.{form_written}
use Rattle.ld_print.proofs.write.push_rung.Goals as goal

pub returns : goal.returns
returns c =
    form_written c.args.text.now.items c.push_line.new.text.items c.push_nodes.new.text.items c.push_line-2.new.text.items
    (codes "RUNG") (codes "END") (nodes_lines 4 c.args.rung.now.nodes)
    c.in_ok-push_line.ensures
    (c.in_ok-push_nodes.ensures ∙ ap (λ ns. c.push_line.new.text.items ++ joined (nodes_lines 4 ns)) c.as_slice.ensures)
    c.in_ok-push_line-2.ensures
