use Rattle.std.proofs.Common.{arith, append_assoc}
use Rattle.target_core.proofs.Images.{sum_next, image_next}
use Rattle.target_core.proofs.Assembly.{label_has}
use Rattle.target_core.proofs.assemble.emit_all.Goals as goal

pub emit-requires-clause-fits : goal.emit-requires-clause-fits
emit-requires-clause-fits g c =
    let s = sum_next (λ p. (g.T.Machine16.target c.args.t.now).words_in p.prim) c.args.code.now c.loop-i.i c.get.result.now c.get.ensures in
    omega (arith, s, c.loop-i.invariant.at, c.requires.fits)

pub emit-requires-clause-labels : goal.emit-requires-clause-labels
emit-requires-clause-labels g c = λ l named.
    let t = g.T.Machine16.target c.args.t.now in
    let h = label_has t c.args.code.now c.requires.whole c.requires.fits
    (g.met.T.Machine16.law c.args.t.now).0 c.loop-i.i l c.get.result.now c.get.ensures named in
    rw c.requires.labels (h.0, h.2)

pub overflow_add-at : goal.overflow_add-at
overflow_add-at g c =
    let s = sum_next (λ p. (g.T.Machine16.target c.args.t.now).words_in p.prim) c.args.code.now c.loop-i.i c.get.result.now c.get.ensures in
    omega (arith, s, c.words_of-at.ensures, c.loop-i.invariant.at, c.requires.fits, c.requires.small)

pub loop-i-preserved : goal.loop-i-preserved
loop-i-preserved g c =
    let t = g.T.Machine16.target c.args.t.now in
    let s = sum_next (λ p. t.words_in p.prim) c.args.code.now c.loop-i.i c.get.result.now c.get.ensures in
    record {
      at = omega (arith, s, c.words_of-at.ensures, c.loop-i.invariant.at);
      told = rw (
        c.in_ok-emit.ensures.ok,
        c.words_of-at.ensures,
        append_assoc,
        ← (image_next t c.args.labels.now c.loop-i.at c.args.code.now c.loop-i.i c.get.result.now c.get.ensures),
      ) c.loop-i.invariant.told;
    }
