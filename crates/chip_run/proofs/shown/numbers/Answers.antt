use Rattle.std.proofs.Common.{◌≡◌, ◌++◌, ◌∷◌, [], ap, ◌∙◌, to_z, of_z, FitsSigned, arith, rules}
use mir.Syntax.{w16}
use Rattle.std.proofs.lemmas.Int.{to_z-of_z}
use Rattle.std.proofs.lemmas.List.FromFn.{map-range_with_len_more}
use Rattle.chip_run.specs.Shown.{number_at}
use Rattle.chip_run.proofs.shown.numbers.Goals as goal

pub loop-variable-preserved : goal.loop-variable-preserved
loop-variable-preserved g c =
    let number = number_at c.args.target (g.M.ChipMachine.chip.view c.args.machine.now) in
    let k = c.loop-variable.variable in
    let more = map-range_with_len_more number 0 k k (omega arith) in
    let short : FitsSigned w16 c.number.result = search rules in
    let same : to_z w16 (of_z w16 c.number.result) ≡ c.number.result = grind (arith, to_z-of_z) in
    rw (more, ← c.number.ensures, ← c.loop-variable.invariant) (c.in_ok-push.ensures.ok ∙ ap (λ z. c.loop-variable.numbers ++ z ∷ []) same)
