use Rattle.std.proofs.Common.{◌≡◌, ◌+◌, ◌++◌, ◌∙◌, drop, get_or, pos, to_z, of_z, ap, arith, rules, FitsSigned}
use mir.Syntax.{w16}
use Rattle.std.proofs.lemmas.Int.{to_z-of_z}
use Rattle.std.specs.Prelude.{codes}
use Rattle.std.specs.Fmt.{decimal, signed_decimal}
use Rattle.c_output.specs.Element.{cases_text}
use Rattle.c_output.specs.Filled.{filled}
use Rattle.c_output.proofs.TextLemmas.{grown, cases_step}
use Rattle.c_output.proofs.element.push_cases.Goals as goal

pub loop-index-preserved : goal.loop-index-preserved
loop-index-preserved c =
    let dest = c.args.dest.now in
    let values = c.args.values.now in
    let i = c.loop-index.index in
    let value = get_or values i (pos 0) in
    let short : FitsSigned w16 value = search rules in
    let same : to_z w16 (of_z w16 value) ≡ value = grind (arith, to_z-of_z) in
    grown c.loop-index.text.items c.push_limited.new.text.items
    (filled (codes " case #: v_@ = w16($L); break;") dest (decimal i) (signed_decimal value))
    (cases_text dest (i + 1) (drop (i + 1) values)) (cases_text dest i (drop i values))
    (cases_step dest values i c.loop-index-test.true) (c.in_ok-push_limited.ensures
    ∙ ap (λ v. c.loop-index.text.items ++ filled (codes " case #: v_@ = w16($L); break;") dest (decimal i) (signed_decimal v)) same)
    ∙ c.loop-index.invariant
