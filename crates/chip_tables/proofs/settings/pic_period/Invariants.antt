use Rattle.std.proofs.Common.{◌≡◌, drop}
use Rattle.chip_tables.specs.Settings.{pic_pwm_among}
use Rattle.chip_tables.proofs.settings.pic_period.Given as goal

abbrev pub invariant-loop-prescaler : goal.invariant-loop-prescaler
invariant-loop-prescaler g l =
    pic_pwm_among (drop l.prescaler-index l.prescalers) l.hz l.freq ≡ pic_pwm_among l.prescalers l.hz l.freq
