use Rattle.std.proofs.Common.{◌-◌, ◌++◌, ◌∙◌, sym, ap, arith, append-nil}
use Rattle.std.specs.Prelude.{codes}
use Rattle.std.specs.Fmt.{decimal}
use Rattle.c_output.specs.Element.{moves_text}
use Rattle.c_output.specs.Filled.{filled}
use Rattle.c_output.proofs.TextLemmas.{grown, moves_step, moves_done}
use Rattle.c_output.proofs.element.push_moves.Goals as goal

pub loop-place-preserved : goal.loop-place-preserved
loop-place-preserved c =
    let name = c.args.name.now in
    let place = c.loop-place.place in
    grown c.loop-place.text.items c.push_pair.new.text.items (filled (codes " v_@# = v_@$;") name (decimal (place - 1)) (decimal (place - 1 - 1)))
    (moves_text name (place - 1)) (moves_text name place)
    (moves_step name place c.loop-place-test.true) c.in_ok-push_pair.ensures
    ∙ c.loop-place.invariant

pub returns : goal.returns
returns c =
    sym (append-nil c.loop-place.text.items)
    ∙ ap (λ x. c.loop-place.text.items ++ x) (sym (moves_done c.args.name.now c.loop-place.place (omega (arith, c.loop-place-test.false))))
    ∙ c.loop-place.invariant
