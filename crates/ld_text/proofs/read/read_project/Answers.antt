use Rattle.std.proofs.Common.{[], subst, IfOk, IfErr}
use Rattle.ld_text.specs.Text.{IsReadAs, IsCause, text_fault}
use Rattle.ld_text.proofs.ReaderLemmas.{early_cause}
use Rattle.ld_text.proofs.read.read_project.Goals as goal

pub returns-in-Err-clause-refused : goal.returns-in-Err-clause-refused
returns-in-Err-clause-refused c =
    subst (λ t. IsCause (text_fault t) c.in-Err.e) c.judged.ensures.front
    (early_cause c.judged.result.now c.in-Err.e (c.in-Err.ensures.refused [] c.new-reader.ensures))

pub returns-clause-read : goal.returns-clause-read
returns-clause-read c =
    subst (λ t. IfOk c.end.result (IsReadAs t)) c.judged.ensures.front
    (c.end.ensures.read c.judged.result.now (c.in_default.ensures.stands [] c.new-reader.ensures))

pub returns-clause-within : goal.returns-clause-within
returns-clause-within c = c.end.ensures.within c.judged.result.now (c.in_default.ensures.stands [] c.new-reader.ensures)

pub returns-clause-refused : goal.returns-clause-refused
returns-clause-refused c =
    subst (λ t. IfErr c.end.result (IsCause (text_fault t))) c.judged.ensures.front
    (c.end.ensures.refused c.judged.result.now (c.in_default.ensures.stands [] c.new-reader.ensures))
