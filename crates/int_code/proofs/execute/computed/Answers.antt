use Rattle.std.proofs.Common.{◌≡◌, refl, ◌∙◌, pos}
use Rattle.std.specs.Int.{w16}
use Rattle.std.proofs.lemmas.Int.{to_z-of_z}
use Rattle.int_code.proofs.QuotientLemmas.{quotient_is, divided}
use Rattle.int_code.proofs.execute.computed.Goals as goal

pub returns-in-Div-2 : goal.returns-in-Div-2
returns-in-Div-2 c =
    let a = c.from-a.ensures ∙ to_z-of_z w16 c.args.a c.ranges.a in
    let b = c.from-b.ensures ∙ to_z-of_z w16 c.args.b c.ranges.b in
    let result = rw (a, b, quotient_is c.args.a c.args.b c.ranges.a c.ranges.b) at (c.wrap16-in-Div-2.ensures.value) in
    let some : c.args.b ≡ pos 0 → ⊥ = λ e. c.if-b-eq0.false (rw (b, e) refl) in
    rw (to_z-of_z w16 c.wrap16-in-Div-2.result (record { sfits = c.wrap16-in-Div-2.type_inv }), c.in-Div-2.is)
    (divided c.args.a c.args.b c.wrap16-in-Div-2.result some result)
