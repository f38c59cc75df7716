use Rattle.std.proofs.Common.{◌≡◌, ◌++◌, drop}
use Rattle.texts.specs.Lines.{joined}
use Rattle.ld_print.specs.Printed.{nodes_lines}
use Rattle.ld_print.proofs.write.+nodes.Given as goal

abbrev pub invariant-push_nodes-loop-node : goal.invariant-push_nodes-loop-node
invariant-push_nodes-loop-node l =
    l.text.items ++ joined (nodes_lines l.indent (drop l.node-index l.nodes)) ≡ l.fn.text.items ++ joined (nodes_lines l.indent l.nodes)
