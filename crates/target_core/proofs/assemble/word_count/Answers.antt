use Rattle.std.proofs.Common.{arith}
use Rattle.target_core.proofs.Images.{sum_next}
use Rattle.target_core.proofs.assemble.word_count.Goals as goal

pub overflow_add-sum : goal.overflow_add-sum
overflow_add-sum g c =
    let s = sum_next (λ p. (g.T.Machine16.target c.args.t.now).words_in p.prim) c.args.code.now c.loop-i.i c.get.result.now c.get.ensures in
    omega (arith, s, c.words_of-sum.ensures, c.loop-i.invariant, c.requires)

pub loop-i-preserved : goal.loop-i-preserved
loop-i-preserved g c =
    let s = sum_next (λ p. (g.T.Machine16.target c.args.t.now).words_in p.prim) c.args.code.now c.loop-i.i c.get.result.now c.get.ensures in
    omega (arith, s, c.words_of-sum.ensures, c.loop-i.invariant)
