use Rattle.std.proofs.Common.{◌∷◌, [], ◌++◌, ◌∙◌, codes, ap}
use Rattle.texts.specs.Lines.{joined}
use Rattle.ld_print.specs.Printed.{head_lines, pin_lines, rungs_lines}
use Rattle.ld_print.proofs.JoinedLemmas.{whole_written}
use Rattle.ld_print.proofs.write.write_project.Goals as goal

pub returns : goal.returns
returns c =
    c.from_vec.ensures ∙
    whole_written c.push_head.new.text.items c.push_pins.new.text.items c.extend_from_slice.new.self.items c.push_rungs.new.text.items
    (head_lines c.args.project.now) (pin_lines c.args.project.now.pins) (codes "END" ∷ [] ∷ codes "PROGRAM" ∷ []) (rungs_lines c.args.project.now.rungs)
    (c.in_ok-push_head.ensures ∙ ap (λ t. t ++ joined (head_lines c.args.project.now)) c.new-text.ensures.items)
    (c.in_ok-push_pins.ensures ∙ ap (λ ps. c.push_head.new.text.items ++ joined (pin_lines ps)) c.as_slice.ensures)
    c.in_ok-extend_from_slice.ensures.items
    (c.in_ok-push_rungs.ensures ∙ ap (λ gs. c.extend_from_slice.new.self.items ++ joined (rungs_lines gs)) c.as_slice-2.ensures)
