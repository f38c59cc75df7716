use Rattle.std.proofs.Common.{◌≡◌}
use Rattle.ladder_meaning.specs.View.{firsts}
use Rattle.chip_run.proofs.shown.first_bytes.Given as goal

abbrev pub invariant-loop-address : goal.invariant-loop-address
invariant-loop-address g l = l.bytes ≡ firsts l.address (g.M.ChipMachine.chip.view l.machine).eeprom
