use Rattle.std.proofs.Common.{◌≡◌, ◌+◌, ◌<◌, Some, ap, sym, ◌∙◌, arith, rules}
use Rattle.chip_tables.specs.declared.outside.StepEnd.TheVariants as step_end
use Rattle.runs.specs.Chip.{steps_over}
use Rattle.runs.specs.Run.{ask_of}
use Rattle.chip_run.specs.Replay.{answer, without_reading}
use Rattle.chip_run.proofs.TurnLemmas.{turn_went}
use Rattle.chip_run.proofs.segment.comes_to.Goals as goal

pub loop-preserved : goal.loop-preserved
loop-preserved g c =
    let step = g.M.ChipMachine.chip.step in
    let flash = c.args.flash.now in
    let limit = c.args.limit in
    let now = c.loop in
    let ready = c.in-Some.ready in
    let went = c.in-Went.went in
    let early : now.cost < limit = omega (arith, c.if-limit-cost.false) in
    let byte : went.cycles < 256 = search rules in
    let asks : Some ready ≡ answer (ask_of (steps_over step flash) now.machine) = sym c.in-Some.is ∙ c.answer.ensures ∙ ap answer c.asks.ensures in
    let state : c.step.new.self ≡ (step flash (without_reading ready) now.machine).state =
    c.step.ensures.state ∙ ap (λ env. (step flash env now.machine).state) c.without_reading.ensures in
    let end : step_end.Went went ≡ (step flash (without_reading ready) now.machine).end =
    sym c.in-Went.is ∙ c.step.ensures.end ∙ ap (λ env. (step flash env now.machine).end) c.without_reading.ensures in
    let turn = turn_went step flash limit (limit + 1) now.counter now.machine now.cost now.sent ready went c.loop-test.true asks early end in
    record {
      small = omega (arith, byte, early, c.from-cost-in-Went.ensures);
      same = rw (state, c.from-cost-in-Went.ensures, c.or-sent.ensures) (sym turn ∙ now.invariant.same);
    }
