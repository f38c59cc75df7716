use Rattle.std.proofs.Common.{◌+◌, ◌∙◌, ap, drop}
use Rattle.ld_print.specs.Printed.{rung_lines, rungs_lines}
use Rattle.ld_print.proofs.JoinedLemmas.{front, lines_more}
use Rattle.ld_print.proofs.write.push_rungs.Goals as goal

pub loop-rung-preserved : goal.loop-rung-preserved
loop-rung-preserved c =
    let at = c.loop-rung.rung-index in
    lines_more c.loop-rung.text.items c.push_rung.new.text.items (rung_lines c.rung-item.result) (rungs_lines (drop (at + 1) c.args.rungs.now))
    (rungs_lines (drop at c.args.rungs.now))
    (ap rungs_lines (front c.args.rungs.now at c.rung-item.result c.loop-rung-test.true c.rung-item.is))
    c.in_ok-push_rung.ensures
    ∙ c.loop-rung.invariant
