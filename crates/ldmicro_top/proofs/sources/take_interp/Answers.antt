use Rattle.std.proofs.Common.{◌≡◌, ℕ, List, refl, sym, ap, ◌∙◌, subst}
use Rattle.std.proofs.lemmas.Result.{err_from_is_err_and}
use Rattle.ladder_tree.specs.Names.{names_of}
use Rattle.ladder_tree.specs.declared.names.Names.{Names}
use Rattle.ladder_trace.specs.Simulated.{duty_shown}
use Rattle.trace_run.specs.Run.{run_lines}
use Rattle.ldmicro_top.specs.Expected.{HeldAnswers, CodeAnswers, TraceAnswers, RunAnswers, ReplayAnswers}
use Rattle.ldmicro_top.specs.declared.status.Status.{Status}
use Rattle.ldmicro_top.proofs.JudgeLemmas.{NoRun, both_read, declined_more, declined_behind, held_before, held_replays, file_more, file_taken, code_before, trace_before, trace_more}
use Rattle.ldmicro_top.proofs.sources.take_interp.Goals as goal

pub returns-in_err-said-clause-declined : goal.returns-in_err-said-clause-declined
returns-in_err-said-clause-declined g c =
    let F = g.F.Files in
    let old = F.held c.args.files.now in
    let p = c.args.legal.project in
    let n = c.names.result.now in
    let named : n ≡ names_of p.rungs = c.names.ensures ∙ c.requires.judged.can.names in
    let next : List ℕ → Status → Type 0 = λ code. HeldAnswers (TraceAnswers (names_of p.rungs) (RunAnswers p code)) (old c.args.trace.now) in
    let e = c.in_err-said.field-0.0 in
    let up = err_from_is_err_and c.from_residual.result c.from_residual.ensures.1 in
    rw (up.1, up.2)
    (declined_more F.tells (HeldAnswers (CodeAnswers n (λ a. ⊥)) (old c.args.file.now)) (ReplayAnswers old c.args.file.now c.args.trace.now p)
    (F.counts c.args.files.now) (F.counts c.take_code.new.files) old e
    (λ y t h. file_more p next (old c.args.file.now) t c.requires.target
    (subst (λ (m : Names). HeldAnswers (CodeAnswers m (λ a. ⊥)) (old c.args.file.now) t) named h))
    c.in_err-said.ensures.declined)

pub returns-in_err-trace-clause-declined : goal.returns-in_err-trace-clause-declined
returns-in_err-trace-clause-declined g c =
    let F = g.F.Files in
    let old = F.held c.args.files.now in
    let last = F.held c.take_code.new.files in
    let p = c.args.legal.project in
    let n = c.names.result.now in
    let named : n ≡ names_of p.rungs = c.names.ensures ∙ c.requires.judged.can.names in
    let m = c.names-2.result.now in
    let named_again : m ≡ names_of p.rungs = c.names-2.ensures ∙ c.requires.judged.can.names in
    let next : List ℕ → Status → Type 0 = λ code. HeldAnswers (TraceAnswers (names_of p.rungs) (RunAnswers p code)) (old c.args.trace.now) in
    let reads = c.take_code.ensures.only in
    let e = c.in_err-trace.field-0.0 in
    let up = err_from_is_err_and c.from_residual-in_err-trace.result c.from_residual-in_err-trace.ensures.1 in
    rw (up.1, up.2)
    (declined_behind F.tells (HeldAnswers (TraceAnswers m NoRun) (last c.args.trace.now)) (ReplayAnswers old c.args.file.now c.args.trace.now p)
    (F.counts c.args.files.now) (F.counts c.take_code.new.files) (F.counts c.take_trace.new.files) old last e
    reads
    (λ y t h.
    let said = code_before old old c.args.file.now n (names_of p.rungs) c.in_ok-said.said.program (λ name. refl) named (c.in_ok-said.ensures.holds y) in
    file_taken p next old c.args.file.now c.in_ok-said.said.program t c.requires.target said
    (trace_more (names_of p.rungs) (RunAnswers p said.text) (old c.args.trace.now) t
    (subst (λ (k : Names). HeldAnswers (TraceAnswers k NoRun) (old c.args.trace.now) t) named_again
    (held_before (TraceAnswers m NoRun) old last c.args.trace.now t (reads.same y) h))))
    c.in_err-trace.ensures.declined)

pub returns-in-Ok-clause-replayed : goal.returns-in-Ok-clause-replayed
returns-in-Ok-clause-replayed g c y =
    let F = g.F.Files in
    let old = F.held c.args.files.now in
    let last = F.held c.take_code.new.files in
    let p = c.args.legal.project in
    let named = c.requires.judged.can.names in
    let program = c.in_ok-said.said.program in
    let steps = c.in_ok-trace.trace in
    let reads = c.take_code.ensures.only in
    let said = code_before old old c.args.file.now c.names.result.now (names_of p.rungs) program (λ name. refl) (c.names.ensures ∙ named)
    (c.in_ok-said.ensures.holds y) in
    record {
      code = said.text;
      read = said.read;
      steps = steps;
      given = trace_before old last c.args.trace.now c.names-2.result.now (names_of p.rungs) steps (reads.same y) (c.names-2.ensures ∙ named)
          (c.in_ok-trace.ensures.holds y);
      runs = held_replays p old c.args.file.now program steps _ c.requires.target said
          (c.in-Ok.ensures.lines ∙ ap (λ (names : Names). run_lines (duty_shown p) names program steps) named);
    }

pub returns-in-Ok-clause-only : goal.returns-in-Ok-clause-only
returns-in-Ok-clause-only g c =
    let F = g.F.Files in
    let old = F.held c.args.files.now in
    let last = F.held c.take_code.new.files in
    both_read F.tells (F.counts c.args.files.now) (F.counts c.take_code.new.files) (F.counts c.take_trace.new.files) old last (F.held c.take_trace.new.files)
    c.take_code.ensures.only c.take_trace.ensures.only

pub returns-in-Err-clause-only : goal.returns-in-Err-clause-only
returns-in-Err-clause-only g c =
    let F = g.F.Files in
    let old = F.held c.args.files.now in
    let last = F.held c.take_code.new.files in
    both_read F.tells (F.counts c.args.files.now) (F.counts c.take_code.new.files) (F.counts c.take_trace.new.files) old last (F.held c.take_trace.new.files)
    c.take_code.ensures.only c.take_trace.ensures.only
