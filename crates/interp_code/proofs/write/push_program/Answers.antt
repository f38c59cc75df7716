use Rattle.std.proofs.Common.{◌∷◌, [], ◌++◌, codes, map, ap, ◌∙◌, arith}
use Rattle.std.specs.String.{string_bytes}
use Rattle.texts.specs.Lines.{joined}
use Rattle.int_code.specs.Text.{op_words}
use Rattle.interp_code.specs.Line.{Magic, Cycle, BitCount, Code}
use Rattle.interp_code.specs.Text.{line_text}
use Rattle.interp_code.specs.Written.{name_lines}
use Rattle.interp_code.proofs.TextLemmas.{groups_written}
use Rattle.interp_code.proofs.WholeText.{five, text_says}
use Rattle.interp_code.proofs.write.push_program.Goals as goal

pub returns-clause-text : goal.returns-clause-text
returns-clause-text c =
    let names = c.args.names.now in
    let program = c.args.program.now in
    five (string_bytes c.args.text.now) (string_bytes c.push_head.new.text) (string_bytes c.push_all_names.new.text) (string_bytes c.push_sizes.new.text)
    (string_bytes c.push_operations.new.text) (string_bytes c.push_str.new.self)
    (joined (map line_text (Magic ∷ (Cycle c.args.cycle ∷ [])))) (joined (map line_text (name_lines names program.starts)))
    (joined (map line_text (BitCount program.bits ∷ (Code ∷ [])))) (joined (map op_words program.ops)) (codes "end\n")
    c.in_ok-push_head.ensures
    (c.in_ok-push_all_names.ensures.text ∙ ap (λ starts. string_bytes c.push_head.new.text ++ joined (map line_text (name_lines names starts)))
    c.as_slice.ensures)
    c.in_ok-push_sizes.ensures
    (c.in_ok-push_operations.ensures ∙ ap (λ ops. string_bytes c.push_sizes.new.text ++ joined (map op_words ops)) c.as_slice-2.ensures)
    c.in_ok-push_str.ensures.bytes
    ∙ ap (λ t. string_bytes c.args.text.now ++ t) (groups_written c.args.cycle names program)

pub returns-clause-reads_back : goal.returns-clause-reads_back
returns-clause-reads_back c = text_says c.args.cycle c.args.names.now c.args.program.now c.requires record {
  sizes = record { bits = omega arith; outputs = omega arith; inputs = omega arith; analogs = omega arith; variables = omega arith; persistent = omega arith };
  starts = rw c.as_slice.ensures at c.in_ok-push_all_names.ensures.numbers;
}
