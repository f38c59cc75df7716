use Rattle.std.proofs.Common.{◌≡◌, ◌-◌, nat_eq}
use Rattle.std.specs.List.{find, range_with_len}
use Rattle.ladder_trace.specs.Duty.{duty_register}
use Rattle.ladder_trace.specs.declared.duty.TheConstants.{DUTIES}
use Rattle.ladder_trace.proofs.duty.least_duty.Given as goal

abbrev pub invariant-loop-duty : goal.invariant-loop-duty
invariant-loop-duty l =
    find (λ duty. nat_eq (duty_register l.setting duty) l.register) (range_with_len l.duty (DUTIES - l.duty))
    ≡ find (λ duty. nat_eq (duty_register l.setting duty) l.register) (range_with_len 0 DUTIES)
