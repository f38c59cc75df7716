use Rattle.std.proofs.Common.{arith}
use Rattle.int_code.specs.Held.{held_sizes}
use Rattle.int_code.specs.WellFormed.{sizes_of}
use Rattle.int_code.proofs.RangeLemmas.{all_within}
use Rattle.int_sim.proofs.sim.Sim.cycle.Goals as goal

pub cycle-requires-clause-range : goal.cycle-requires-clause-range
cycle-requires-clause-range c =
    let m = c.self.inside in
    let w = c.self.invariant.0 in
    let inputs = rw (← c.self.view_is) at c.requires.inputs in
    let analogs = rw (← c.self.view_is) at c.requires.analogs in
    rw c.as_slice.ensures (all_within (sizes_of m.program) (held_sizes c.args.r.now m.state)
    record { bits = omega arith; outputs = omega arith; inputs = omega (arith, inputs); analogs = omega (arith, analogs); variables = omega arith; persistent = omega arith }
    m.program.ops w.runnable.well_formed.range)
