use Rattle.std.proofs.Common.{◌≡◌, true, ap, ◌∙◌, arith, pos}
use Rattle.std.specs.Int.{cast_signed, cast_unsigned, w16}
use Rattle.std.proofs.lemmas.Int.{ints}
use Rattle.int_code.specs.Store.{Store, with}
use Rattle.int_code.proofs.state.State.receive.Goals as goal

pub returns-in-Some-clause-store : goal.returns-in-Some-clause-store
returns-in-Some-clause-store c =
    let same : cast_signed w16 (cast_unsigned w16 c.from.result) ≡ pos c.in-Some.byte = omega (arith, ints, c.from.ensures) in
    let number = rw same at (c.set_number.ensures.store) in
    rw c.in-Some.is (c.set_bit-in-Some.ensures.store ∙ ap (λ (t : Store). with t c.args.b true) number)
