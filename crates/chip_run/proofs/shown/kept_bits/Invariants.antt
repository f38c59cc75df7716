use Rattle.std.proofs.Common.{◌≡◌}
use Rattle.ladder_meaning.specs.View.{firsts}
use Rattle.chip_run.specs.Shown.{kept_bit}
use Rattle.chip_run.proofs.shown.kept_bits.Given as goal

abbrev pub invariant-loop-bit : goal.invariant-loop-bit
invariant-loop-bit g l = l.levels ≡ firsts l.bit (kept_bit l.plan.target l.plan.sizes.variables (g.M.ChipMachine.chip.view l.machine))
