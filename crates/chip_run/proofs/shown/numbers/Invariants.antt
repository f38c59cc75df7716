use Rattle.std.proofs.Common.{◌≡◌}
use Rattle.ladder_meaning.specs.View.{firsts}
use Rattle.chip_run.specs.Shown.{number_at}
use Rattle.chip_run.proofs.shown.numbers.Given as goal

abbrev pub invariant-loop-variable : goal.invariant-loop-variable
invariant-loop-variable g l = l.numbers ≡ firsts l.variable (number_at l.target (g.M.ChipMachine.chip.view l.machine))
