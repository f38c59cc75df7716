-- The settings of the devices that a project uses.
use Rattle.std.specs.Prelude.{if◌then◌else◌, Option, None}
use Rattle.std.specs.Option.{option_map, option_and_then}
use Rattle.chip_tables.specs.Settings.{timer_of, baud_of, pwm_of}
use Rattle.chip_tables.specs.declared.settings.Settings.{Settings}
use Rattle.chip_tables.specs.declared.settings.BaudSetting.{BaudSetting}
use Rattle.chip_tables.specs.declared.settings.PwmSetting.{PwmSetting}
use Rattle.ladder_tree.specs.Leaves.{all_leaves}
use Rattle.ladder_tree.specs.declared.project.Project.{Project}
use Rattle.ladder_tree.specs.Peripherals.{any_uart}
use Rattle.ladder_rules.specs.Rules.{first_rate}

-- of the serial port, where an element uses it
abbrev pub baud_in : Project → Option BaudSetting
baud_in p = if any_uart (all_leaves p.rungs) then baud_of p.target p.crystal p.baud else None

-- of the pulse-width modulator, at the rate of the first SET_PWM
abbrev pub pwm_in : Project → Option PwmSetting
pwm_in p = option_and_then (λ hz. pwm_of p.target p.crystal hz) (first_rate (all_leaves p.rungs))

-- a target that is no chip has none
abbrev pub settings_of : Project → Option Settings
settings_of p = option_map (λ timer. record { timer = timer; baud = baud_in p; pwm = pwm_in p }) (timer_of p.target p.cycle p.crystal)
