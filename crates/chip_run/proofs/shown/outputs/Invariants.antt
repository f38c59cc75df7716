use Rattle.std.proofs.Common.{◌≡◌, map, take}
use Rattle.ladder_rules.specs.Assigned.{name_bit}
use Rattle.chip_run.specs.Shown.{latch_at}
use Rattle.chip_run.proofs.shown.outputs.Given as goal

abbrev pub invariant-loop-name : goal.invariant-loop-name
invariant-loop-name g l =
    l.levels ≡ map (λ name. latch_at (g.M.ChipMachine.chip.view l.fn.machine) (name_bit l.fn.project name)) (take l.name-index l.fn.names)
