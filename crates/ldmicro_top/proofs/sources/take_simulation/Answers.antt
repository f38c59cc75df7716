use Rattle.std.proofs.Common.{◌≡◌, ◌∙◌, subst}
use Rattle.std.proofs.lemmas.Result.{err_from_is_err_and}
use Rattle.ladder_tree.specs.Names.{names_of}
use Rattle.ladder_tree.specs.declared.names.Names.{Names}
use Rattle.ladder_trace.specs.declared.trace.Trace.{Trace}
use Rattle.ldmicro_top.specs.Command.{Simulate}
use Rattle.ldmicro_top.specs.Expected.{HeldAnswers, TraceAnswers, SimulateAnswers, Expected}
use Rattle.ldmicro_top.specs.declared.status.Status.{Status}
use Rattle.ldmicro_top.specs.declared.status.Status.TheVariants.{Ok}
use Rattle.ldmicro_top.proofs.JudgeLemmas.{NoRun, declined_behind, held_before, project_on, trace_before, trace_more}
use Rattle.ldmicro_top.proofs.SimulatedLemmas.{simulated_of}
use Rattle.ldmicro_top.proofs.sources.take_simulation.Goals as goal

pub returns-in_err-trace-clause-declined : goal.returns-in_err-trace-clause-declined
returns-in_err-trace-clause-declined g c =
    let F = g.F.Files in
    let old = F.held c.args.files.now in
    let mid = F.held c.take_project.new.files in
    let p = c.in_ok-legal.legal.project in
    let m = c.names-2.result.now in
    let named : m ≡ names_of p.rungs = c.names-2.ensures ∙ c.in_ok-legal.ensures.judged.can.names in
    let go_on : Trace → Status → Type 0 = λ t answer. answer ≡ Ok in
    let e = c.in_err-trace.field-0.0 in
    let up = err_from_is_err_and c.from_residual-in_err-trace.result c.from_residual-in_err-trace.ensures.1 in
    rw (up.1, up.2)
    (declined_behind F.tells (HeldAnswers (TraceAnswers m NoRun) (mid c.args.trace.now)) (Expected (Simulate c.args.source.now c.args.trace.now) old)
    (F.counts c.args.files.now) (F.counts c.take_project.new.files) (F.counts c.take_trace.new.files) old mid e
    c.take_project.ensures.only
    (λ y t h. project_on (SimulateAnswers old c.args.trace.now) old c.args.source.now p t (c.in_ok-legal.ensures.holds y)
    (trace_more (names_of p.rungs) go_on (old c.args.trace.now) t
    (subst (λ (k : Names). HeldAnswers (TraceAnswers k NoRun) (old c.args.trace.now) t) named
    (held_before (TraceAnswers m NoRun) old mid c.args.trace.now t (c.take_project.ensures.only.same y) h))))
    c.in_err-trace.ensures.declined)

pub returns-in-Ok-simulation-clause-simulated : goal.returns-in-Ok-simulation-clause-simulated
returns-in-Ok-simulation-clause-simulated g c y =
    let F = g.F.Files in
    let p = c.in_ok-legal.legal.project in
    let n = c.in_ok-legal.legal.names in
    let named = c.in_ok-legal.ensures.judged.can.names in
    let lowered = rw (c.names.ensures, c.project.ensures) at c.in-Ok.ensures in
    let steps = c.in_ok-trace.trace in
    record {
      project = p;
      source = c.in_ok-legal.ensures.holds y;
      steps = steps;
      given = trace_before (F.held c.args.files.now) (F.held c.take_project.new.files) c.args.trace.now c.names-2.result.now (names_of p.rungs) steps
          (c.take_project.ensures.only.same y) (c.names-2.ensures ∙ named) (c.in_ok-trace.ensures.holds y);
      lines = c.in-Ok-simulation.ensures.lines ∙ simulated_of p n c.in-Ok.program steps named lowered;
    }
