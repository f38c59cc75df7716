use Rattle.std.proofs.Common.{◌≡◌, subst, sym, ◌∙◌, IfOk, IfErr}
use Rattle.ld_text.specs.Text.{project_of}
use Rattle.ld_text.specs.Reading.{Accepts, IsRejected, next, settings_of, standing_of}
use Rattle.ld_text.proofs.StandLemmas.{ends_in_line}
use Rattle.ld_text.proofs.reader.Reader.finish.Goals as goal

pub returns-clause-accepts : goal.returns-clause-accepts
returns-clause-accepts c none =
    let r = c.args.self.now in
    let t = c.take_line.new.self in
    let ends =
    ends_in_line (next r.counts.lines) (next t.counts.lines) r.line.items t.line.items c.len-size.result (standing_of r) (standing_of t)
    (sym c.is_empty.ensures ∙ c.if-is_empty.false) c.len-size.ensures.value c.in_ok-take_line.ensures.goes in
    subst (λ v. IfOk c.end_text-2.result (λ target. v ≡ Accepts (project_of (settings_of t) target t.rungs))) (sym ends) c.end_text-2.ensures.accepts

pub returns-clause-rejects : goal.returns-clause-rejects
returns-clause-rejects c none =
    let r = c.args.self.now in
    let t = c.take_line.new.self in
    let ends =
    ends_in_line (next r.counts.lines) (next t.counts.lines) r.line.items t.line.items c.len-size.result (standing_of r) (standing_of t)
    (sym c.is_empty.ensures ∙ c.if-is_empty.false) c.len-size.ensures.value c.in_ok-take_line.ensures.goes in
    subst (λ v. IfErr c.end_text-2.result (IsRejected v)) (sym ends) c.end_text-2.ensures.rejects
