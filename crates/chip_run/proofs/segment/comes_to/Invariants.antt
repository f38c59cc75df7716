use Rattle.std.proofs.Common.{◌≡◌, ◌+◌, ◌-◌, ◌≤◌}
use Rattle.chip_run.specs.Replay.{comes_to}
use Rattle.chip_run.proofs.segment.comes_to.Given as goal

abbrev pub invariant-loop : goal.invariant-loop
invariant-loop g l =
    let step = g.M.ChipMachine.chip.step in
    let fn = l.fn in
    record {
      small : l.cost ≤ fn.limit + 255;
      same : comes_to step fn.flash fn.limit (l.end - l.counter) l.machine l.cost l.sent ≡
          comes_to step fn.flash fn.limit (fn.limit + 1) fn.machine fn.spent fn.first;
    }
