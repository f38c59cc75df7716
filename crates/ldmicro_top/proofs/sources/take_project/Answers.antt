use Rattle.std.proofs.Common.{inr, refl, ap, Err, subst}
use Rattle.ladder_tree.specs.declared.project.Project.{Project}
use Rattle.ld_text.specs.declared.fault.TextError.{TextError}
use Rattle.project_file.specs.Source.{IfRefused}
use Rattle.project_file.specs.declared.fault.SourceFault.{SourceFault}
use Rattle.ldmicro_top.specs.Judged.{IsTurnedDown}
use Rattle.ldmicro_top.proofs.JudgeLemmas.{RefusesText, source_declined, turned_down, holds_project}
use Rattle.ldmicro_top.proofs.sources.take_project.Goals as goal

pub returns-in-Err-clause-declined : goal.returns-in-Err-clause-declined
returns-in-Err-clause-declined g c =
    let F = g.F.Files in
    let held = F.held c.args.files.now in
    let name = c.args.source.now in
    let told = c.in-Err.ensures in
    rw c.status_of_source.ensures
    (source_declined F.tells held name (F.counts c.args.files.now) (F.counts c.read_source.new.files) c.in-Err.fault
    (λ e. told.counts.failed (ap Err e))
    (λ e. (told.counts.absent (ap Err e)).0)
    (λ y e. told.absent y (ap Err e))
    (λ y f e. subst (λ (x : SourceFault). IfRefused {T = Project} (Err x) (RefusesText held name)) e (told.refused y)))

pub returns-in-Ok-judge-clause-holds : goal.returns-in-Ok-judge-clause-holds
returns-in-Ok-judge-clause-holds g c y =
    let accepted = c.in-Ok-judge.ensures.accepted in
    holds_project (g.F.Files.held c.args.files.now) c.args.source.now c.in-Ok.project c.in-Ok-judge.legal.project (c.in-Ok.ensures.read y) accepted.0 accepted.1

pub returns-in-Err-Refused-clause-declined : goal.returns-in-Err-Refused-clause-declined
returns-in-Err-Refused-clause-declined g c = record {
  why = inr (inr (
    refl,
    refl,
    λ y. turned_down (g.F.Files.held c.args.files.now) c.args.source.now c.in-Ok.project c.in-Err-Refused.fault (c.in-Ok.ensures.read y)
        (subst (λ (e : TextError). IsTurnedDown c.in-Ok.project e) c.in-Err-Refused.field-0-is c.in-Err-Refused.ensures.refused),
  ));
}
