use Rattle.std.proofs.Common.{arith}
use Rattle.intel_hex.proofs.WriteLemmas.{one_more}
use Rattle.intel_hex.proofs.loaded.write.Goals as goal

pub loop-place-preserved : goal.loop-place-preserved
loop-place-preserved c =
    one_more c.args.first c.loop-place.place c.args.new.now c.loop-place.bytes c.args.bytes.now (omega arith)
    (let here = c.requires c.loop-place.place (omega arith) in omega arith)
    c.loop-place.invariant
