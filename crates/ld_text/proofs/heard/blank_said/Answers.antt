use Rattle.std.proofs.Common.{sym, ap, ◌∙◌}
use Rattle.ld_text.specs.Place.{said_in}
use Rattle.ld_text.proofs.heard.blank_said.Goals as goal

pub returns-in-First : goal.returns-in-First
returns-in-First c number = c.first_said.ensures number ∙ sym (ap (λ x. said_in x number c.args.line.now) c.in-First.is)
