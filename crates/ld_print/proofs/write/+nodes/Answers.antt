use Rattle.std.proofs.Common.{◌+◌, ◌∙◌, ◌∷◌, [], ◌++◌, ap, drop, codes}
use Rattle.texts.specs.Lines.{joined}
use Rattle.ld_print.specs.Printed.{indented, node_lines, nodes_lines}
use Rattle.ld_print.proofs.JoinedLemmas.{front, lines_more, lines_settled, form_written}
use Rattle.ld_print.proofs.write.+nodes.Goals as goal

pub push_form-returns : goal.push_form-returns
push_form-returns t c =
    form_written c.args.text.now.items c.push_line.new.text.items c.push_nodes.new.text.items c.push_line-2.new.text.items
    (indented c.args.indent c.args.word.now) (indented c.args.indent (codes "END")) (nodes_lines (c.args.indent + 4) c.args.nodes.now)
    (c.in_ok-push_line.ensures ∙ ap (λ w. c.args.text.now.items ++ joined (indented c.args.indent w ∷ [])) c.as_bytes.ensures.value)
    (c.in_ok-push_nodes.ensures ∙ ap (λ ls. c.push_line.new.text.items ++ joined ls) (lines_settled c.args.nodes.now c.deeper.result (c.args.indent + 4)
    c.deeper.ensures))
    c.in_ok-push_line-2.ensures

pub push_nodes-loop-node-preserved : goal.push_nodes-loop-node-preserved
push_nodes-loop-node-preserved t c =
    let at = c.loop-node.node-index in
    lines_more c.loop-node.text.items c.push_node.new.text.items (node_lines c.node-item.result c.args.indent)
    (nodes_lines c.args.indent (drop (at + 1) c.args.nodes.now)) (nodes_lines c.args.indent (drop at c.args.nodes.now))
    (ap (nodes_lines c.args.indent) (front c.args.nodes.now at c.node-item.result c.loop-node-test.true c.node-item.is))
    c.in_ok-push_node.ensures
    ∙ c.loop-node.invariant
