use Rattle.std.proofs.Common.{◌≡◌, drop}
use Rattle.chip_tables.specs.Settings.{timer_among}
use Rattle.chip_tables.proofs.settings.first_timer.Given as goal

abbrev pub invariant-loop-prescaler : goal.invariant-loop-prescaler
invariant-loop-prescaler g l =
    timer_among (drop l.prescaler-index l.prescalers) l.clocks l.cycle l.hz ≡ timer_among l.prescalers l.clocks l.cycle l.hz
