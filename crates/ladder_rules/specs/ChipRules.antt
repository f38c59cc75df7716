-- The rules for single elements that concern chips alone.
use Rattle.std.specs.Prelude.{Bool, false, ◌&&◌, Option, is_none}
use Rattle.std.specs.Bool.{then_some}
use Rattle.std.specs.Option.{option_map, option_map_or}
use Rattle.chip_tables.specs.Pins.{pwm_at}
use Rattle.chip_tables.specs.Settings.{baud_of, pwm_of}
use Rattle.chip_tables.specs.declared.target.Target.{Target}
use Rattle.chip_tables.specs.declared.target.Target.TheVariants.{F628, F877, Mega16, Interp, AnsiC}
use Rattle.ladder_tree.specs.Peripherals.{uses_adc, uses_pwm, uses_uart, rate_of}
use Rattle.ladder_tree.specs.declared.element.Leaf as element
use Rattle.ladder_tree.specs.declared.element.LeafKind.{LeafKind}
use Rattle.ladder_tree.specs.declared.fault.ProjectFault.{ProjectFault}
use Rattle.ladder_tree.specs.declared.fault.ProjectFault.TheVariants as fault
use Rattle.ladder_tree.specs.declared.project.Project.{Project}
use Rattle.ladder_rules.specs.Pins.{is_unassigned, wrong_pin, taken_pin}
use Rattle.ladder_rules.specs.declared.chip_rule.ChipRule.{ChipRule}
use Rattle.ladder_rules.specs.declared.chip_rule.ChipRule.TheVariants.{NoAdc, NoPwm, PinUnassigned, NoSuchPin, PinTaken, BaudRange, PwmRange}

-- whether an element reads an analog input, of which the target has none
abbrev pub lacks_adc : Target → LeafKind → Bool
lacks_adc F628 k = uses_adc k
lacks_adc F877 k = false
lacks_adc Mega16 k = false
lacks_adc Interp k = uses_adc k
lacks_adc AnsiC k = uses_adc k

-- whether it sets a pulse-width modulator, and the target has none
abbrev pub lacks_pwm : Target → LeafKind → Bool
lacks_pwm t k = uses_pwm k && is_none (pwm_at t)

-- whether it uses the serial port, and the chip cannot make the rate
abbrev pub lacks_baud : Project → LeafKind → Bool
lacks_baud p k = uses_uart k && is_none (baud_of p.target p.crystal p.baud)

-- whether it sets the pulse-width modulator, and the chip cannot make the rate
abbrev pub lacks_rate : Project → LeafKind → Bool
lacks_rate p k = option_map_or (λ hz. is_none (pwm_of p.target p.crystal hz)) (rate_of k) false

-- The fault of an element of a chip's project, where it breaks the rule.
abbrev pub chip_fault : ChipRule → Project → element.Leaf → Option ProjectFault
chip_fault NoAdc p l = then_some (lacks_adc p.target l.kind) (fault.NoAdc l.line)
chip_fault NoPwm p l = then_some (lacks_pwm p.target l.kind) (fault.NoPwm l.line)
chip_fault PinUnassigned p l = then_some (is_unassigned p.pins l.kind) (fault.PinUnassigned l.line)
chip_fault NoSuchPin p l = option_map (λ pin. fault.NoSuchPin l.line pin) (wrong_pin p l.kind)
chip_fault PinTaken p l = option_map (λ pin. fault.PinTaken l.line pin) (taken_pin p l.kind)
chip_fault BaudRange p l = then_some (lacks_baud p l.kind) (fault.BaudRange l.line)
chip_fault PwmRange p l = then_some (lacks_rate p l.kind) (fault.PwmRange l.line)
