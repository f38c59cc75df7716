use Rattle.std.proofs.Common.{◌++◌, ◌∙◌, ap}
use Rattle.std.specs.Prelude.{codes}
use Rattle.c_output.specs.Filled.{each_at}
use Rattle.c_output.specs.Laid.{terms_of}
use Rattle.c_output.specs.Node.{rungs_text}
use Rattle.c_output.proofs.WholeLemmas.{six}
use Rattle.c_output.proofs.write.push_cycle.Goals as goal

pub returns : goal.returns
returns c =
    let n = c.args.names.now in
    six c.args.text.now.items c.extend_from_slice.new.self.items c.push_each_at.new.text.items c.extend_from_slice-2.new.self.items
    c.push_rungs.new.text.items c.push_each_at-2.new.text.items c.extend_from_slice-3.new.self.items
    (codes "void ld_cycle(void) {\n") (each_at (codes "b_@ = ld_in(#);\n") 0 n.inputs) (codes "r = ld_rx(); t = ld_tx(); e = ld_eebusy(); m = 1;\n")
    (rungs_text (terms_of c.args.layout.now) c.args.rungs.now 0) (each_at (codes "ld_out(#, b_@);\n") 0 n.outputs) (codes "}\n")
    c.in_ok-extend_from_slice.ensures.items
    (c.in_ok-push_each_at.ensures ∙ ap (λ ns. c.extend_from_slice.new.self.items ++ each_at (codes "b_@ = ld_in(#);\n") 0 ns) c.as_slice.ensures)
    c.in_ok-extend_from_slice-2.ensures.items
    c.in_ok-push_rungs.ensures
    (c.in_ok-push_each_at-2.ensures ∙ ap (λ ns. c.push_rungs.new.text.items ++ each_at (codes "ld_out(#, b_@);\n") 0 ns) c.as_slice-2.ensures)
    c.in_ok-extend_from_slice-3.ensures.items
