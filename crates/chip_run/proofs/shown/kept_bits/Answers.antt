use Rattle.std.proofs.Common.{arith}
use Rattle.std.proofs.lemmas.List.FromFn.{map-range_with_len_more}
use Rattle.chip_run.specs.Shown.{kept_bit}
use Rattle.chip_run.proofs.shown.kept_bits.Goals as goal

pub loop-bit-preserved : goal.loop-bit-preserved
loop-bit-preserved g c =
    let plan = c.args.plan.now in
    let bit = kept_bit plan.target plan.sizes.variables (g.M.ChipMachine.chip.view c.args.machine.now) in
    let more = map-range_with_len_more bit 0 c.loop-bit.bit c.loop-bit.bit (omega arith) in
    rw (more, ← c.kept_bit.ensures, ← c.loop-bit.invariant) c.in_ok-push.ensures.ok
