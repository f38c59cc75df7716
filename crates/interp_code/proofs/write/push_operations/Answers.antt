use Rattle.std.proofs.Common.{arith, append_assoc}
use Rattle.std.proofs.lemmas.Grind.{common_steps}
use Rattle.int_code.specs.Text.{op_words}
use Rattle.interp_code.proofs.TextLemmas.{joined_more}
use Rattle.interp_code.proofs.write.push_operations.Goals as goal

pub loop-op-preserved : goal.loop-op-preserved
loop-op-preserved c =
    let more = joined_more op_words c.args.ops.now c.loop-op.op-index c.op-item.result c.loop-op-test.true in
    let written = c.in_ok-writeln.ensures.bytes in
    grind (arith, common_steps, append_assoc)
