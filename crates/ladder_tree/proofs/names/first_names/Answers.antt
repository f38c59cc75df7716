use Rattle.std.proofs.Common.{[]}
use Rattle.ladder_tree.proofs.FirstLemmas.{first_step}
use Rattle.ladder_tree.proofs.names.first_names.Goals as goal

pub loop-name-preserved : goal.loop-name-preserved
loop-name-preserved c = rw c.in_ok-insert.ensures.keys (first_step c.args.names.now c.loop-name.name-index (record { ref_ptr = (0, 0); now = [] })
    c.loop-name.firsts.keys _ c.loop-name-test.true c.loop-name.invariant)
