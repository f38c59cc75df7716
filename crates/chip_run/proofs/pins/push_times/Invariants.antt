use Rattle.std.proofs.Common.{◌≡◌, ◌++◌, replicate}
use Rattle.chip_run.proofs.pins.push_times.Given as goal

abbrev pub invariant-loop : goal.invariant-loop
invariant-loop l = l.pins ≡ l.fn.pins ++ replicate l.counter l.reading
