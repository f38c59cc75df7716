use Rattle.std.proofs.Common.{inr, refl, ◌∙◌, subst}
use Rattle.ladder_trace.specs.Trace.{IsCaused}
use Rattle.ladder_trace.specs.declared.trace.TraceError.{TraceError}
use Rattle.ldmicro_top.proofs.JudgeLemmas.{holds_trace, refused_trace}
use Rattle.ldmicro_top.proofs.sources.take_trace.Goals as goal

pub returns-in-Ok-read_trace-clause-holds : goal.returns-in-Ok-read_trace-clause-holds
returns-in-Ok-read_trace-clause-holds g c y =
    let b = c.in-Ok.ensures.bytes y in
    holds_trace (g.F.Files.held c.args.files.now) c.args.name.now c.deref.result.now c.args.names.now c.in-Ok-read_trace.trace
    (b.0, b.1, c.deref.ensures.value ∙ b.2) c.in-Ok-read_trace.ensures.trace

pub returns-in-Err-Fault-clause-only : goal.returns-in-Err-Fault-clause-only
returns-in-Err-Fault-clause-only g c =
    let counts = c.read_file.ensures.counts in
    record { reads = counts.reads; absences = counts.absences; writes = counts.writes; same = c.read_file.ensures.held }

pub returns-in-Err-Fault-clause-declined : goal.returns-in-Err-Fault-clause-declined
returns-in-Err-Fault-clause-declined g c = record {
  why = inr (inr (
    refl,
    refl,
    λ y.
        let b = c.in-Ok.ensures.bytes y in
        refused_trace (g.F.Files.held c.args.files.now) c.args.name.now c.deref.result.now c.args.names.now c.in-Err-Fault.line
        (b.0, b.1, c.deref.ensures.value ∙ b.2)
        (subst (λ (e : TraceError). IsCaused c.args.names.now c.deref.result.now e) c.in-Err-Fault.field-0-is c.in-Err-Fault.ensures.error),
  ));
}
