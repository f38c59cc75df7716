use Rattle.std.proofs.Common.{◌≡◌, ◌+◌, ◌-◌, ◌*◌, ◌<◌, true, get_or, drop, refl, sym, ◌∙◌, arith}
use Rattle.std.proofs.lemmas.Bool.Decides.{nat_tests}
use Rattle.texts.specs.Digits.{is_digit}
use Rattle.texts.proofs.DigitLemmas.{digit_more, too_much}
use Rattle.texts.proofs.digits.digits_to.Goals as goal

pub returns-then-value-from-clause-value : goal.returns-then-value-from-clause-value
returns-then-value-from-clause-value c =
    let ds = c.args.digits.now in
    let i = c.loop-digit.digit-index in
    let digit : is_digit (get_or ds i 0) ≡ true = grind (arith, nat_tests) in
    let over : c.args.most < 10 * c.loop-digit.value + (get_or ds i 0 - 48) = omega arith in
    sym (too_much c.args.most (10 * c.loop-digit.value + (get_or ds i 0 - 48)) (drop (i + 1) ds) over)
    ∙ digit_more c.args.most c.loop-digit.value ds i (get_or ds i 0) c.loop-digit-test.true refl digit
    ∙ c.loop-digit.invariant.same
