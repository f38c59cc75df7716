use Rattle.std.proofs.Common.{inr, refl, ◌∙◌, subst, ap}
use Rattle.chip_tables.specs.declared.target.Target.TheVariants.{Mega16}
use Rattle.intel_hex.specs.Verdict.{hex_verdict, IsCause}
use Rattle.intel_hex.specs.declared.fault.HexError.{HexError}
use Rattle.ldmicro_top.proofs.JudgeLemmas.{holds_hex, refused_hex}
use Rattle.ldmicro_top.proofs.sources.take_hex.Goals as goal

pub returns-in-Ok-read_hex-clause-holds : goal.returns-in-Ok-read_hex-clause-holds
returns-in-Ok-read_hex-clause-holds g c y =
    let b = c.in-Ok.ensures.bytes y in
    holds_hex (g.F.Files.held c.args.files.now) c.args.name.now c.deref.result.now c.in-Ok-read_hex.image
    (b.0, b.1, c.deref.ensures.value ∙ b.2) c.in-Ok-read_hex.ensures.image

pub returns-in-Err-Fault-clause-only : goal.returns-in-Err-Fault-clause-only
returns-in-Err-Fault-clause-only g c =
    let counts = c.read_file.ensures.counts in
    record { reads = counts.reads; absences = counts.absences; writes = counts.writes; same = c.read_file.ensures.held }

pub returns-in-Err-Fault-clause-declined : goal.returns-in-Err-Fault-clause-declined
returns-in-Err-Fault-clause-declined g c = record {
  why = inr (inr (
    refl,
    refl,
    λ y.
        let b = c.in-Ok.ensures.bytes y in
        refused_hex (g.F.Files.held c.args.files.now) c.args.name.now c.deref.result.now c.in-Err-Fault.fault
        (b.0, b.1, c.deref.ensures.value ∙ b.2)
        (subst (λ (e : HexError). IsCause (hex_verdict Mega16 c.deref.result.now) e) c.in-Err-Fault.field-0-is c.in-Err-Fault.ensures.error),
  ));
}
