use Rattle.std.proofs.Common.{◌≡◌, ◌<◌, ◌≤◌, ℕ, Bool, nat_eq, sym, ap, subst, ◌∙◌}
use Rattle.std.specs.Option.{unwrap_or}
use Rattle.ladder_trace.specs.Duty.{duty_register}
use Rattle.ladder_trace.specs.declared.duty.TheConstants.{DUTIES, NO_DUTY}
use Rattle.ladder_trace.proofs.DutyLemmas.{found_behind, found_here, found_none, test_true, test_false, least_passes}
use Rattle.ladder_trace.proofs.duty.least_duty.Goals as goal

pub returns-then-duty_register-register-clause-value : goal.returns-then-duty_register-register-clause-value
returns-then-duty_register-register-clause-value c =
    let has : ℕ → Bool = λ duty. nat_eq (duty_register c.args.setting duty) c.args.register in
    let duty = c.loop-duty.duty in
    let passes = test_true (duty_register c.args.setting duty) c.args.register (sym c.duty_register.ensures ∙ c.if-duty_register-register.true) in
    ap (λ o. unwrap_or o NO_DUTY) (sym (found_here has duty DUTIES c.loop-duty-test.true passes) ∙ c.loop-duty.invariant)

pub returns-then-duty_register-register-clause-least : goal.returns-then-duty_register-register-clause-least
returns-then-duty_register-register-clause-least c =
    subst (λ least. (duty : ℕ) → duty < DUTIES → duty_register c.args.setting duty ≡ c.args.register → (duty_register c.args.setting least ≡ c.args.register) ×
    (least ≤ duty))
    (sym (returns-then-duty_register-register-clause-value c)) (least_passes c.args.setting c.args.register)

pub loop-duty-preserved : goal.loop-duty-preserved
loop-duty-preserved c =
    let has : ℕ → Bool = λ duty. nat_eq (duty_register c.args.setting duty) c.args.register in
    let duty = c.loop-duty.duty in
    let fails = test_false (duty_register c.args.setting duty) c.args.register (λ e. c.if-duty_register-register.false (c.duty_register.ensures ∙ e)) in
    found_behind has duty DUTIES c.loop-duty-test.true fails ∙ c.loop-duty.invariant

pub returns-clause-value : goal.returns-clause-value
returns-clause-value c =
    let has : ℕ → Bool = λ duty. nat_eq (duty_register c.args.setting duty) c.args.register in
    ap (λ o. unwrap_or o NO_DUTY) (sym (found_none has c.loop-duty.duty DUTIES c.loop-duty-test.false) ∙ c.loop-duty.invariant)

pub returns-clause-least : goal.returns-clause-least
returns-clause-least c =
    subst (λ least. (duty : ℕ) → duty < DUTIES → duty_register c.args.setting duty ≡ c.args.register → (duty_register c.args.setting least ≡ c.args.register) ×
    (least ≤ duty))
    (sym (returns-clause-value c)) (least_passes c.args.setting c.args.register)
