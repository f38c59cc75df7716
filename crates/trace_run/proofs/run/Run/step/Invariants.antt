use Rattle.std.proofs.Common.{◌≡◌, ◌+◌, ◌-◌, ◌≤◌, true, replicate}
use Rattle.ladder_trace.specs.Line.{most_cycles}
use Rattle.trace_run.specs.Held.{point_of, IsSame}
use Rattle.trace_run.specs.Run.{behind}
use Rattle.trace_run.proofs.LineLemmas.{IsSoFar}
use Rattle.trace_run.proofs.run.Run.step.Given as goal

abbrev pub invariant-loop : goal.invariant-loop
invariant-loop g l =
    let o = g.O.Out in
    let run = l.fn.self in
    let program = run.sim.program in
    let all = replicate l.fn.step.times l.fn.step.reading in
    let left = replicate (l.end - l.counter) l.fn.step.reading in
    record {
      same : IsSame run l.self;
      later : o.fault_count l.fn.out ≤ o.fault_count l.out;
      few : l.self.passed + (l.end - l.counter) ≤ most_cycles;
      point : behind program (point_of l.self) left ≡ behind program (point_of run) all;
      lines : o.tells ≡ true → IsSoFar run.duty run.names.now program (point_of run) all (point_of l.self) left (o.written l.fn.out) (o.written l.out);
    }
