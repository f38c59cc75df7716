use Rattle.std.proofs.Common.{◌++◌, List, ℕ, codes, map, ap, ◌∙◌}
use Rattle.std.specs.String.{string_bytes}
use Rattle.texts.specs.Lines.{joined}
use Rattle.interp_code.specs.Text.{line_text, variables}
use Rattle.interp_code.proofs.TextLemmas.{names_written}
use Rattle.interp_code.proofs.WholeText.{six}
use Rattle.interp_code.proofs.write.push_all_names.Goals as goal

pub returns-clause-text : goal.returns-clause-text
returns-clause-text c =
    let names = c.args.names.now in
    let starts = c.args.starts.now in
    let word : List ℕ → List (List ℕ) → List ℕ = λ w ns. joined (map (λ n. w ++ n) ns) in
    six (string_bytes c.args.text.now) (string_bytes c.push_names.new.text) (string_bytes c.push_names-2.new.text) (string_bytes c.push_names-3.new.text)
    (string_bytes c.push_variables.new.text) (string_bytes c.push_names-4.new.text) (string_bytes c.push_names-5.new.text)
    (word (codes "input ") names.inputs) (word (codes "output ") names.outputs) (word (codes "analog ") names.analog)
    (joined (map line_text (variables names.variables starts))) (word (codes "relay ") names.relays) (word (codes "persist ") names.persistent)
    (c.in_ok-push_names.ensures ∙ ap (λ ns. string_bytes c.args.text.now ++ word (codes "input ") ns) c.as_slice.ensures)
    (c.in_ok-push_names-2.ensures ∙ ap (λ ns. string_bytes c.push_names.new.text ++ word (codes "output ") ns) c.as_slice-2.ensures)
    (c.in_ok-push_names-3.ensures ∙ ap (λ ns. string_bytes c.push_names-2.new.text ++ word (codes "analog ") ns) c.as_slice-3.ensures)
    (c.in_ok-push_variables.ensures.text ∙ ap (λ ns. string_bytes c.push_names-3.new.text ++ joined (map line_text (variables ns starts))) c.as_slice-4.ensures)
    (c.in_ok-push_names-4.ensures ∙ ap (λ ns. string_bytes c.push_variables.new.text ++ word (codes "relay ") ns) c.as_slice-5.ensures)
    (c.in_ok-push_names-5.ensures ∙ ap (λ ns. string_bytes c.push_names-4.new.text ++ word (codes "persist ") ns) c.as_slice-6.ensures)
    ∙ ap (λ t. string_bytes c.args.text.now ++ t) (names_written names starts)
