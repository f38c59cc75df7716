use Rattle.std.proofs.Common.{◌≡◌, ◌+◌, [], drop, replicate, ap, sym, ◌∙◌, append-nil, arith, rules}
use Rattle.std.proofs.lemmas.List.Sums.{sum_by-drop_more}
use Rattle.ladder_trace.specs.Simulated.{readings}
use Rattle.int_sim.specs.Machine.{state_of}
use Rattle.trace_run.specs.Held.{point_of}
use Rattle.trace_run.proofs.LineLemmas.{so_far_more, so_far_part, so_far_end}
use Rattle.trace_run.proofs.StepLemmas.{step_left, none_left, passed_behind_step}
use Rattle.trace_run.proofs.run.run_sim.Goals as goal

pub returns-in_err-step-clause-part : goal.returns-in_err-step-clause-part
returns-in_err-step-clause-part g c = λ t.
    let o = g.O.Out in
    let names = c.args.names.now in
    let sim = c.args.sim in
    let steps = c.as_slice-step-items.result.now in
    let k = c.loop-step.step-index in
    let s = c.step-item.result in
    let same = c.loop-step.invariant.same in
    rw (← c.as_slice-step-items.ensures)
    (so_far_part c.args.duty names sim.program (record { passed = 0; store = state_of sim }) (readings steps) (point_of c.loop-step.run)
    (replicate s.times s.reading) (readings (drop (k + 1) steps))
    (o.written c.args.out.now) (o.written c.loop-step.out) (o.written c.step.new.out)
    (rw (step_left steps k s c.loop-step-test.true c.step-item.is) at (c.loop-step.invariant.lines t))
    (rw (same.duty, same.names, same.program) at (c.step.ensures.part t)))

pub loop-step-preserved : goal.loop-step-preserved
loop-step-preserved g c =
    let o = g.O.Out in
    let names = c.args.names.now in
    let sim = c.args.sim in
    let steps = c.as_slice-step-items.result.now in
    let k = c.loop-step.step-index in
    let s = c.step-item.result in
    let now = c.loop-step.run in
    let same = c.loop-step.invariant.same in
    let also = c.step.ensures.same in
    let moved = c.in_ok-step.ensures.point in
    let passed : c.step.new.self.passed ≡ now.passed + s.times =
    ap (λ q. q.passed) moved ∙ passed_behind_step now.sim.program (point_of now) s.times s.reading in
    let sum = sum_by-drop_more (λ s. s.times) steps k s c.loop-step-test.true in
    record {
      same = record { names = also.names ∙ same.names; duty = also.duty ∙ same.duty; program = also.program ∙ same.program };
      later = search rules;
      few = omega (arith, passed, c.loop-step.invariant.few, rw (← c.step-item.is) at sum);
      lines = λ t. rw (moved, same.program)
          (so_far_more c.args.duty names sim.program (record { passed = 0; store = state_of sim }) (readings steps) (point_of now)
          (replicate s.times s.reading) (readings (drop (k + 1) steps))
          (o.written c.args.out.now) (o.written c.loop-step.out) (o.written c.step.new.out)
          (rw (step_left steps k s c.loop-step-test.true c.step-item.is) at (c.loop-step.invariant.lines t))
          (rw (same.duty, same.names, same.program) at (c.in_ok-step.ensures.whole t)));
    }

pub returns-clause-whole : goal.returns-clause-whole
returns-clause-whole g c = λ t.
    let o = g.O.Out in
    let names = c.args.names.now in
    let sim = c.args.sim in
    let steps = c.as_slice-step-items.result.now in
    rw (← c.as_slice-step-items.ensures)
    (so_far_end c.args.duty names sim.program (record { passed = 0; store = state_of sim }) (readings steps) (point_of c.loop-step.run)
    (o.written c.args.out.now) (o.written c.loop-step.out)
    (rw (none_left steps c.loop-step.step-index c.loop-step-test.false) at (c.loop-step.invariant.lines t)))

pub returns-clause-part : goal.returns-clause-part
returns-clause-part g c = λ t. (_, [], sym (append-nil _), returns-clause-whole g c t)
