-- How the duty of the PWM is shown.
use Rattle.std.specs.Prelude.{ℕ, ◌*◌, ◌/◌, nat_eq, Bool, true, false, Option, Some, None}
use Rattle.std.specs.List.{find, range_with_len}
use Rattle.std.specs.Option.{unwrap_or}
use Rattle.chip_tables.specs.declared.settings.PwmSetting.{PwmSetting}
use Rattle.ladder_trace.specs.declared.duty.DutyShown.{DutyShown}
use Rattle.ladder_trace.specs.declared.duty.DutyShown.TheVariants.{Hidden, Exact, Least}
use Rattle.ladder_trace.specs.declared.duty.TheConstants.{DUTIES, NO_DUTY}

-- the value of a chip's duty register at a duty in percent
abbrev pub duty_register : PwmSetting → ℕ → ℕ
duty_register s duty = duty * s.top / 100

-- the least duty with which the register has the value
abbrev pub least_duty : PwmSetting → ℕ → ℕ
least_duty s value = unwrap_or (find (λ duty. nat_eq (duty_register s duty) value) (range_with_len 0 DUTIES)) NO_DUTY

-- what is shown of a duty: on a chip the least one that its register does not tell from it
abbrev pub duty_as : DutyShown → ℕ → Option ℕ
duty_as Hidden duty = None
duty_as Exact duty = Some duty
duty_as (Least s) duty = Some (least_duty s (duty_register s duty))

-- how a duty is shown that is set or not, on a chip with a setting or on a target without
abbrev pub shown_where : Bool → Option PwmSetting → DutyShown
shown_where false setting = Hidden
shown_where true None = Exact
shown_where true (Some s) = Least s
