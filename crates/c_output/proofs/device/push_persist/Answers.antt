use Rattle.std.proofs.Common.{ℕ, ◌+◌, ◌*◌, List, ◌++◌, ◌∙◌, ap}
use Rattle.std.proofs.lemmas.Result.{on_ok_weaker}
use Rattle.std.specs.Fmt.{decimal}
use Rattle.c_output.specs.Element.{load_template, differs_template, save_template, persist_text}
use Rattle.c_output.specs.Filled.{filled}
use Rattle.c_output.proofs.NodeLemmas.{three}
use Rattle.c_output.proofs.device.push_persist.Goals as goal

pub returns : goal.returns
returns c =
    let name = c.args.name.now in
    let low = 2 * c.persistent_of.result in
    let piece : List ℕ → List ℕ = λ t. filled t name (decimal low) (decimal (low + 1)) in
    on_ok_weaker c.push_pair-3.result
    (λ e. three c.args.text.now.items c.push_pair.new.text.items c.push_pair-2.new.text.items c.push_pair-3.new.text.items
    (piece load_template) (piece differs_template) (piece save_template) c.in_ok-push_pair.ensures c.in_ok-push_pair-2.ensures e
    ∙ ap (λ k. c.args.text.now.items ++ persist_text name (2 * k)) c.persistent_of.ensures)
    c.push_pair-3.ensures
