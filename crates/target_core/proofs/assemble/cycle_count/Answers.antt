use Rattle.std.proofs.Common.{◌*◌, arith, ap}
use Rattle.target_core.proofs.Images.{sum_next}
use Rattle.target_core.proofs.assemble.cycle_count.Goals as goal

pub overflow_mul-sum : goal.overflow_mul-sum
overflow_mul-sum g c =
    let s = sum_next (λ p. (g.T.Machine16.target c.args.t.now).cycles_in p.prim * p.turns) c.args.code.now c.loop-i.i c.get-p.result.now c.get-p.ensures in
    omega (arith, s, ap (λ n. n * c.get-p.result.now.turns) c.cycles_of.ensures, c.loop-i.invariant, c.requires)

pub overflow_add-sum : goal.overflow_add-sum
overflow_add-sum g c =
    let s = sum_next (λ p. (g.T.Machine16.target c.args.t.now).cycles_in p.prim * p.turns) c.args.code.now c.loop-i.i c.get-p.result.now c.get-p.ensures in
    omega (arith, s, ap (λ n. n * c.get-p.result.now.turns) c.cycles_of.ensures, c.loop-i.invariant, c.requires)

pub loop-i-preserved : goal.loop-i-preserved
loop-i-preserved g c =
    let s = sum_next (λ p. (g.T.Machine16.target c.args.t.now).cycles_in p.prim * p.turns) c.args.code.now c.loop-i.i c.get-p.result.now c.get-p.ensures in
    omega (arith, s, ap (λ n. n * c.get-p.result.now.turns) c.cycles_of.ensures, c.loop-i.invariant)
