use Rattle.std.proofs.Common.{◌++◌, ◌∙◌, [], ap}
use Rattle.std.specs.Prelude.{codes}
use Rattle.c_output.specs.Element.{cases_text}
use Rattle.c_output.specs.Filled.{filled}
use Rattle.c_output.specs.Operand.{operand_text}
use Rattle.c_output.proofs.NodeLemmas.{three}
use Rattle.c_output.proofs.element.push_table.Goals as goal

pub returns : goal.returns
returns c =
    let t = c.args.text.now.items in
    three t c.push_filled.new.text.items c.push_cases.new.text.items c.extend_from_slice.new.self.items
    (filled (codes "if (f) switch (#) {") [] (operand_text c.args.index.now) []) (cases_text c.args.dest.now 0 c.args.values.now) (codes " }\n")
    (c.in_ok-push_filled.ensures ∙ ap (λ v. t ++ filled (codes "if (f) switch (#) {") [] v []) (c.deref.ensures.value ∙ c.in_ok-index.ensures))
    c.in_ok-push_cases.ensures
    c.in_ok-extend_from_slice.ensures.items
