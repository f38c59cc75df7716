use Rattle.std.proofs.Common.{inr, refl, ◌∙◌, subst}
use Rattle.interp_code.specs.Caused.{IsCaused}
use Rattle.interp_code.specs.declared.read.InterpError.{InterpError}
use Rattle.ldmicro_top.proofs.JudgeLemmas.{holds_code, other_project, refused_code}
use Rattle.ldmicro_top.proofs.sources.take_code.Goals as goal

pub returns-then-not-same_names-clause-declined : goal.returns-then-not-same_names-clause-declined
returns-then-not-same_names-clause-declined g c = record {
  why = inr (inr (
    refl,
    refl,
    λ y.
        let b = c.in-Ok.ensures.bytes y in
        other_project (g.F.Files.held c.args.files.now) c.args.name.now c.deref.result.now c.args.names.now c.in-Ok-read_interp.said
        (b.0, b.1, c.deref.ensures.value ∙ b.2)
        (c.in-Ok-read_interp.ensures.program, c.in-Ok-read_interp.ensures.within)
        (λ same. let yes = c.same_names.ensures.1 same in cc),
  ));
}

pub returns-in-Ok-read_interp-clause-holds : goal.returns-in-Ok-read_interp-clause-holds
returns-in-Ok-read_interp-clause-holds g c y =
    let b = c.in-Ok.ensures.bytes y in
    holds_code (g.F.Files.held c.args.files.now) c.args.name.now c.deref.result.now c.args.names.now c.in-Ok-read_interp.said
    (b.0, b.1, c.deref.ensures.value ∙ b.2)
    (c.in-Ok-read_interp.ensures.program, c.in-Ok-read_interp.ensures.within)
    (c.same_names.ensures.0 cc)

pub returns-in-Err-Fault-clause-only : goal.returns-in-Err-Fault-clause-only
returns-in-Err-Fault-clause-only g c =
    let counts = c.read_file.ensures.counts in
    record { reads = counts.reads; absences = counts.absences; writes = counts.writes; same = c.read_file.ensures.held }

pub returns-in-Err-Fault-clause-declined : goal.returns-in-Err-Fault-clause-declined
returns-in-Err-Fault-clause-declined g c = record {
  why = inr (inr (
    refl,
    refl,
    λ y.
        let b = c.in-Ok.ensures.bytes y in
        refused_code (g.F.Files.held c.args.files.now) c.args.name.now c.deref.result.now c.args.names.now c.in-Err-Fault.fault.line
        (b.0, b.1, c.deref.ensures.value ∙ b.2)
        (subst (λ (e : InterpError). IsCaused c.deref.result.now e) c.in-Err-Fault.field-0-is c.in-Err-Fault.ensures.error),
  ));
}
