use Rattle.std.proofs.Common.{◌≡◌, refl, ◌∙◌, pos}
use Rattle.std.specs.Int.{w16}
use Rattle.std.proofs.lemmas.Int.{to_z-of_z}
use Rattle.int_code.proofs.QuotientLemmas.{quotient_is, divided}
use Rattle.byte_lower.proofs.calls.known_quotient.Goals as goal

pub returns : goal.returns
returns c =
    let n = c.from-n.ensures ∙ to_z-of_z w16 c.args.n c.ranges.n in
    let m = c.from-m.ensures ∙ to_z-of_z w16 c.args.m c.ranges.m in
    let result = rw (n, m, quotient_is c.args.n c.args.m c.ranges.n c.ranges.m) at (c.wrap16.ensures.value) in
    let some : c.args.m ≡ pos 0 → ⊥ = λ e. c.if-m-eq0.false (rw (m, e) refl) in
    rw (to_z-of_z w16 c.wrap16.result (record { sfits = c.wrap16.type_inv }))
    (divided c.args.n c.args.m c.wrap16.result some result)
