use Rattle.std.proofs.Common.{◌≡◌, ℕ, List, refl, sym, ap, ◌∙◌, subst}
use Rattle.std.proofs.lemmas.Result.{err_from_is_err_and}
use Rattle.ladder_tree.specs.Names.{names_of}
use Rattle.ladder_tree.specs.declared.names.Names.{Names}
use Rattle.ldmicro_top.specs.Expected.{HeldAnswers, HexAnswers, TraceAnswers, RunAnswers, ReplayAnswers}
use Rattle.ldmicro_top.specs.declared.status.Status.{Status}
use Rattle.ldmicro_top.proofs.JudgeLemmas.{NoRun, both_read, declined_more, declined_behind, held_before, hex_more, hex_taken, trace_before, trace_more}
use Rattle.ldmicro_top.proofs.RoomLemmas.{is_plan}
use Rattle.ldmicro_top.proofs.TargetLemmas.{replays_hex}
use Rattle.ldmicro_top.proofs.sources.take_avr.Goals as goal

pub new-requires-clause-plan : goal.new-requires-clause-plan
new-requires-clause-plan g c = is_plan c.args.legal.project c.args.legal.names _ c.requires.target c.plan_of-plan.ensures.target c.plan_of-plan.ensures.sizes

pub returns-in_err-image-clause-declined : goal.returns-in_err-image-clause-declined
returns-in_err-image-clause-declined g c =
    let F = g.F.Files in
    let old = F.held c.args.files.now in
    let p = c.args.legal.project in
    let next : List ℕ → Status → Type 0 = λ code. HeldAnswers (TraceAnswers (names_of p.rungs) (RunAnswers p code)) (old c.args.trace.now) in
    let e = c.in_err-image.field-0.0 in
    let up = err_from_is_err_and c.from_residual.result c.from_residual.ensures.1 in
    rw (up.1, up.2)
    (declined_more F.tells (HeldAnswers (HexAnswers (λ a. ⊥)) (old c.args.file.now)) (ReplayAnswers old c.args.file.now c.args.trace.now p)
    (F.counts c.args.files.now) (F.counts c.take_hex.new.files) old e
    (λ y t h. hex_more p next (old c.args.file.now) t c.requires.target h)
    c.in_err-image.ensures.declined)

pub returns-in_err-trace-clause-declined : goal.returns-in_err-trace-clause-declined
returns-in_err-trace-clause-declined g c =
    let F = g.F.Files in
    let old = F.held c.args.files.now in
    let last = F.held c.take_hex.new.files in
    let p = c.args.legal.project in
    let m = c.names.result.now in
    let named : m ≡ names_of p.rungs = c.names.ensures ∙ c.requires.judged.can.names in
    let next : List ℕ → Status → Type 0 = λ code. HeldAnswers (TraceAnswers (names_of p.rungs) (RunAnswers p code)) (old c.args.trace.now) in
    let reads = c.take_hex.ensures.only in
    let e = c.in_err-trace.field-0.0 in
    let up = err_from_is_err_and c.from_residual-in_err-trace.result c.from_residual-in_err-trace.ensures.1 in
    rw (up.1, up.2)
    (declined_behind F.tells (HeldAnswers (TraceAnswers m NoRun) (last c.args.trace.now)) (ReplayAnswers old c.args.file.now c.args.trace.now p)
    (F.counts c.args.files.now) (F.counts c.take_hex.new.files) (F.counts c.take_trace.new.files) old last e
    reads
    (λ y t h.
    let image = c.in_ok-image.ensures.holds y in
    hex_taken p next old c.args.file.now c.in_ok-image.image t c.requires.target image
    (trace_more (names_of p.rungs) (RunAnswers p image.text) (old c.args.trace.now) t
    (subst (λ (k : Names). HeldAnswers (TraceAnswers k NoRun) (old c.args.trace.now) t) named
    (held_before (TraceAnswers m NoRun) old last c.args.trace.now t (reads.same y) h))))
    c.in_err-trace.ensures.declined)

pub returns-in-Ok-clause-replayed : goal.returns-in-Ok-clause-replayed
returns-in-Ok-clause-replayed g c y =
    let F = g.F.Files in
    let old = F.held c.args.files.now in
    let last = F.held c.take_hex.new.files in
    let p = c.args.legal.project in
    let steps = c.in_ok-trace.trace in
    let reads = c.take_hex.ensures.only in
    let image = c.in_ok-image.ensures.holds y in
    record {
      code = image.text;
      read = image.read;
      steps = steps;
      given = trace_before old last c.args.trace.now c.names.result.now (names_of p.rungs) steps (reads.same y)
          (c.names.ensures ∙ c.requires.judged.can.names) (c.in_ok-trace.ensures.holds y);
      runs = replays_hex p image.text steps _ _ c.requires.target
          (record { image = c.in_ok-image.image; read = image.is; end = _; runs = c.in-Ok.ensures.runs; ends = refl });
    }

pub returns-in-Ok-clause-only : goal.returns-in-Ok-clause-only
returns-in-Ok-clause-only g c =
    let F = g.F.Files in
    let old = F.held c.args.files.now in
    let last = F.held c.take_hex.new.files in
    both_read F.tells (F.counts c.args.files.now) (F.counts c.take_hex.new.files) (F.counts c.take_trace.new.files) old last (F.held c.take_trace.new.files)
    c.take_hex.ensures.only c.take_trace.ensures.only
