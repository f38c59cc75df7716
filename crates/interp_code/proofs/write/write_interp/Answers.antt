use Rattle.std.proofs.Common.{◌≡◌, ◌++◌, List, ℕ, sym, ap, ◌∙◌, subst}
use Rattle.texts.specs.Lines.{lines}
use Rattle.interp_code.specs.Text.{interp_text}
use Rattle.interp_code.specs.Program.{IsProgram, read_as}
use Rattle.interp_code.proofs.write.write_interp.Goals as goal

text_is : (c : goal.After-from_vec) → c.from_vec.result ≡ interp_text c.args.cycle c.args.names.now c.args.program.now
text_is c =
    let text = interp_text c.args.cycle c.args.names.now c.args.program.now in
    c.from_vec.ensures ∙ ap (λ v. v.items) c.into_bytes.ensures.value
    ∙ c.in_ok-push_program.ensures.text ∙ ap (λ front. front ++ text) c.new-text.ensures.bytes

pub returns-clause-text : goal.returns-clause-text
returns-clause-text c = text_is c

pub returns-clause-reads_back : goal.returns-clause-reads_back
returns-clause-reads_back c =
    let P : List ℕ → Type 0 = λ t. IsProgram (lines t) (read_as c.args.cycle c.args.names.now c.args.program.now) in
    subst P (sym (text_is c)) c.in_ok-push_program.ensures.reads_back
