use Rattle.std.proofs.Common.{◌≡◌, ◌-◌, ◌+◌, ◌∷◌, [], replicate, ap, sym, ◌∙◌, arith, rules}
use Rattle.trace_run.specs.Held.{point_of}
use Rattle.trace_run.specs.Run.{behind}
use Rattle.trace_run.proofs.LineLemmas.{behind_append, so_far_more, so_far_part}
use Rattle.trace_run.proofs.StepLemmas.{one_left}
use Rattle.trace_run.proofs.run.Run.step.Goals as goal

pub returns-in_err-cycle-clause-part : goal.returns-in_err-cycle-clause-part
returns-in_err-cycle-clause-part g c = λ t.
    let o = g.O.Out in
    let run = c.args.self.now in
    let program = run.sim.program in
    let r = c.args.step.now.reading in
    let times = c.args.step.now.times in
    let left = replicate (times - (c.loop.counter + 1)) r in
    let same = c.loop.invariant.same in
    so_far_part run.duty run.names.now program (point_of run) (replicate times r) (point_of c.loop.self) (r ∷ []) left
    (o.written c.args.out.now) (o.written c.loop.out) (o.written c.cycle.new.out)
    (rw (one_left r times c.loop.counter c.loop-test.true) at (c.loop.invariant.lines t))
    (rw (same.duty, same.names, same.program) at (c.cycle.ensures.part t))

pub loop-preserved : goal.loop-preserved
loop-preserved g c =
    let o = g.O.Out in
    let run = c.args.self.now in
    let program = run.sim.program in
    let r = c.args.step.now.reading in
    let times = c.args.step.now.times in
    let k = c.loop.counter in
    let left = replicate (times - (k + 1)) r in
    let now = c.loop.self in
    let same = c.loop.invariant.same in
    let one = one_left r times k c.loop-test.true in
    let moved : point_of c.cycle.new.self ≡ behind program (point_of now) (r ∷ []) = rw (same.program) at (c.in_ok-cycle.ensures.point) in
    record {
      same = record {
        names = c.cycle.ensures.same.names ∙ same.names;
        duty = c.cycle.ensures.same.duty ∙ same.duty;
        program = c.cycle.ensures.same.program ∙
            same.program;
      };
      later = search rules;
      few = omega (arith, ap (λ q. q.passed) moved, c.loop.invariant.few, c.loop-test.true);
      point = rw moved (sym (behind_append program (point_of now) (r ∷ []) left) ∙ (rw one at (c.loop.invariant.point)));
      lines = λ t. rw moved (so_far_more run.duty run.names.now program (point_of run) (replicate times r) (point_of now) (r ∷ []) left
          (o.written c.args.out.now) (o.written c.loop.out) (o.written c.cycle.new.out)
          (rw one at (c.loop.invariant.lines t))
          (rw (same.duty, same.names, same.program) at (c.in_ok-cycle.ensures.whole t)));
    }
