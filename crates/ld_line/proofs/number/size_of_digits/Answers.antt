use Rattle.std.proofs.Common.{◌≡◌, true, get_or, refl, ◌∙◌, arith, ap, ◌+◌, ◌-◌, ◌*◌, ◌^◌, min, drop}
use Rattle.std.proofs.lemmas.Bool.Decides.{nat_tests}
use Rattle.texts.specs.Digits.{is_digit}
use Rattle.ld_line.proofs.NumberLemmas.{digit_more, rest_of}
use Rattle.ld_line.proofs.number.size_of_digits.Goals as goal

pub loop-digit-preserved : goal.loop-digit-preserved
loop-digit-preserved c =
    let ds = c.args.token.now in
    let i = c.loop-digit.digit-index in
    let v = c.loop-digit.size in
    let digit : is_digit (get_or ds i 0) ≡ true = grind (arith, nat_tests) in
    let sized : c.min-size.result ≡ min (2 ^ 32 - 1) (10 * v + (get_or ds i 0 - 48)) = omega arith in
    record {
      small = omega arith;
      same = ap (λ n. rest_of n (drop (i + 1) ds)) sized ∙ digit_more v ds i (get_or ds i 0) c.loop-digit-test.true refl digit ∙ c.loop-digit.invariant.same;
    }
