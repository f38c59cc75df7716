use Rattle.std.proofs.Common.{arith}
use Rattle.target_core.proofs.Images.{sum_next, table_next}
use Rattle.target_core.proofs.assemble.label_table.Goals as goal

pub overflow_add-at : goal.overflow_add-at
overflow_add-at g c =
    let s = sum_next (λ p. (g.T.Machine16.target c.args.t.now).words_in p.prim) c.args.code.now c.loop-i.i c.get.result.now c.get.ensures in
    omega (arith, s, c.words_of-at.ensures, c.loop-i.invariant.at, c.requires.fits, c.requires.small)

pub loop-i-preserved : goal.loop-i-preserved
loop-i-preserved g c =
    let t = g.T.Machine16.target c.args.t.now in
    let s = sum_next (λ p. t.words_in p.prim) c.args.code.now c.loop-i.i c.get.result.now c.get.ensures in
    record {
      at = omega (arith, s, c.words_of-at.ensures, c.loop-i.invariant.at);
      told = rw (
        c.in_ok-mark.ensures,
        c.words_of-at.ensures,
        ← (table_next t.words_in c.loop-i.labels c.loop-i.at c.args.code.now c.loop-i.i c.get.result.now c.get.ensures),
      ) c.loop-i.invariant.told;
    }
