use Rattle.ladder_lower.proofs.PlaceLemmas.{place_step}
use Rattle.ladder_lower.proofs.places.hold_all.Goals as goal

pub loop-name-preserved : goal.loop-name-preserved
loop-name-preserved c =
    let place = c.loop-name.name-index in
    let name = c.name-item.result in
    rw c.in_ok-insert.ensures.keys
    (place_step c.args.names.now place name c.loop-name.set.keys c.as_slice.result c.requires c.loop-name-test.true c.name-item.is
    c.as_slice.ensures c.loop-name.invariant)
