use Rattle.std.proofs.Common.{rules}
use Rattle.ladder_tree.proofs.NameLemmas.{one_more}
use Rattle.ladder_tree.proofs.names.push_numbered.Goals as goal

pub loop-place-init : goal.loop-place-init
loop-place-init c = search rules

pub loop-place-preserved : goal.loop-place-preserved
loop-place-preserved c = rw c.in_ok-push.ensures.ok (one_more c.args.names.now c.loop-place.names c.args.name.now c.in_ok-numbered_name.field-0
    c.loop-place.place c.loop-place.invariant c.in_ok-numbered_name.ensures)
