use Rattle.std.proofs.Common.{◌≡◌, ◌+◌, ◌≤◌, true, drop, sum_by}
use Rattle.ladder_trace.specs.Line.{most_cycles}
use Rattle.ladder_trace.specs.Simulated.{readings}
use Rattle.trace_run.specs.Held.{point_of, IsSame}
use Rattle.trace_run.proofs.LineLemmas.{IsSoFar}
use Rattle.trace_run.proofs.run.run_sim.Given as goal

abbrev pub invariant-loop-step : goal.invariant-loop-step
invariant-loop-step g l =
    let o = g.O.Out in
    let run = l.initial.run in
    let left = drop l.step-index l.step-items in
    record {
      same : IsSame run l.run;
      later : o.fault_count l.fn.out ≤ o.fault_count l.out;
      few : l.run.passed + sum_by (λ s. s.times) left ≤ most_cycles;
      lines : o.tells ≡ true → IsSoFar run.duty run.names.now run.sim.program (point_of run) (readings l.step-items) (point_of l.run) (readings left)
          (o.written l.fn.out) (o.written l.out);
    }
