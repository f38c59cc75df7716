use Rattle.std.proofs.Common.{sym, ap, ◌∙◌}
use Rattle.ld_text.specs.Reading.{Accepts, mind_of}
use Rattle.ld_text.proofs.ReaderLemmas.{ends_well, ends_badly}
use Rattle.ld_text.proofs.reader.Reader.end.Goals as goal

pub returns-in-Ok-clause-read : goal.returns-in-Ok-clause-read
returns-in-Ok-clause-read c text h =
    (ends_well c.args.self.first (mind_of c.args.self) text c.finish.result c.in-Ok.target c.project.result c.in-Ok.is h c.finish.ensures.failed
    (λ n. c.in-Ok.ensures.accepts n ∙ ap Accepts (sym c.project.ensures))).0

pub returns-in-Ok-clause-within : goal.returns-in-Ok-clause-within
returns-in-Ok-clause-within c text h =
    (ends_well c.args.self.first (mind_of c.args.self) text c.finish.result c.in-Ok.target c.project.result c.in-Ok.is h c.finish.ensures.failed
    (λ n. c.in-Ok.ensures.accepts n ∙ ap Accepts (sym c.project.ensures))).1

pub returns-in-Err-clause-refused : goal.returns-in-Err-clause-refused
returns-in-Err-clause-refused c text h =
    ends_badly c.args.self.first (mind_of c.args.self) text c.finish.result c.in-Err.e c.in-Err.is h c.finish.ensures.failed c.in-Err.ensures.rejects
