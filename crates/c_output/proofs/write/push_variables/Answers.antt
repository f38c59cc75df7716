use Rattle.std.proofs.Common.{◌≡◌, ◌+◌, ◌++◌, ◌∙◌, [], drop, get_or, pos, to_z, of_z, ap, arith, rules, FitsSigned}
use mir.Syntax.{w16}
use Rattle.std.proofs.lemmas.Int.{to_z-of_z}
use Rattle.std.specs.Prelude.{codes}
use Rattle.std.specs.Fmt.{signed_decimal}
use Rattle.c_output.specs.Filled.{filled}
use Rattle.c_output.specs.Text.{variables_text}
use Rattle.c_output.proofs.TextLemmas.{grown, variables_step}
use Rattle.c_output.proofs.write.push_variables.Goals as goal

pub loop-place-preserved : goal.loop-place-preserved
loop-place-preserved c =
    let names = c.args.names.now in
    let starts = c.args.starts.now in
    let i = c.loop-place.place in
    let name = c.index-names-place.result in
    let start = get_or starts i (pos 0) in
    let short : FitsSigned w16 start = search rules in
    let same : to_z w16 (of_z w16 start) ≡ start = grind (arith, to_z-of_z) in
    grown c.loop-place.text.items c.push_variable.new.text.items (filled (codes "static int v_@ = #;\n") name (signed_decimal start) [])
    (variables_text (drop (i + 1) names) (drop (i + 1) starts)) (variables_text (drop i names) (drop i starts))
    (variables_step names starts i name c.requires c.loop-place-test.true c.index-names-place.is)
    (c.in_ok-push_variable.ensures ∙ ap (λ v. c.loop-place.text.items ++ filled (codes "static int v_@ = #;\n") name (signed_decimal v) []) same)
    ∙ c.loop-place.invariant
