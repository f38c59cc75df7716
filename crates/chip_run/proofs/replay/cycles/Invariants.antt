use Rattle.std.proofs.Common.{◌≡◌, ◌≤◌, true, drop}
use Rattle.chip_run.specs.Replay.{replay_from, cycle_of}
use Rattle.chip_run.proofs.LineLemmas.{IsSoFar}
use Rattle.chip_run.proofs.replay.cycles.Given as goal

abbrev pub invariant-loop-reading : goal.invariant-loop-reading
invariant-loop-reading g l =
    let o = g.O.Out in
    let chip = g.M.ChipMachine.chip in
    let fn = l.fn in
    let project = fn.loaded.project.now in
    let run = replay_from (cycle_of chip.step fn.loaded.flash.now fn.limit) in
    let whole = run 0 fn.machine fn.readings in
    let left = run l.passed l.machine (drop l.reading-index fn.readings) in
    record {
      later : o.fault_count fn.out ≤ o.fault_count l.out;
      passed : l.passed ≡ l.reading-index;
      end : left.end ≡ whole.end;
      lines : o.tells ≡ true → IsSoFar project.project project.names chip.view whole l.passed left (o.written fn.out) (o.written l.out);
    }
