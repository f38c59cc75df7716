use Rattle.std.proofs.lemmas.Result.{on_ok_weaker}
use Rattle.std.specs.Prelude.{codes}
use Rattle.c_output.specs.Element.{moves_text}
use Rattle.c_output.specs.Filled.{numbered}
use Rattle.c_output.proofs.NodeLemmas.{three}
use Rattle.c_output.proofs.element.push_shift.Goals as goal

pub returns : goal.returns
returns c =
    on_ok_weaker c.push_numbered-2.result
    (three c.args.text.now.items c.push_numbered.new.text.items c.push_moves.new.text.items c.push_numbered-2.new.text.items
    (numbered (codes "if (f && !k_#) {") c.args.memory) (moves_text c.args.name.now c.args.places) (numbered (codes " } k_# = f;\n") c.args.memory)
    c.in_ok-push_numbered.ensures c.in_ok-push_moves.ensures)
    c.push_numbered-2.ensures
