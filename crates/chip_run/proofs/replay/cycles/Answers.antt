use Rattle.std.proofs.Common.{◌≡◌, ◌+◌, drop, ap, sym, ◌∙◌, arith, rules}
use Rattle.std.proofs.lemmas.List.{drop_more}
use Rattle.chip_run.specs.Replay.{replay_from, cycle_of, with_cycle, outcome}
use Rattle.chip_run.proofs.LineLemmas.{one_more, so_far_more, so_far_part}
use Rattle.chip_run.proofs.replay.cycles.Goals as goal

pub loop-reading-preserved : goal.loop-reading-preserved
loop-reading-preserved g c =
    let o = g.O.Out in
    let chip = g.M.ChipMachine.chip in
    let project = c.args.loaded.now.project.now in
    let run = cycle_of chip.step c.args.loaded.now.flash.now c.args.limit in
    let readings = c.args.readings.now in
    let now = c.loop-reading in
    let k = now.reading-index in
    let next = c.cycle.new.machine in
    let rest = drop (k + 1) readings in
    let sent = c.in-Ok.sent in
    let done = sym c.in-Ok.is ∙ c.outcome.ensures ∙ ap (outcome (now.passed + 1)) c.cycle.ensures.end in
    let more : replay_from run now.passed now.machine (drop k readings) ≡ with_cycle next sent (replay_from run (now.passed + 1) next rest) =
    ap (replay_from run now.passed now.machine) (drop_more readings k _ c.loop-reading-test.true)
    ∙ one_more run now.passed now.machine _ rest next sent c.cycle.ensures.state done in
    record {
      later = search rules;
      passed = omega (arith, now.invariant.passed);
      end = ap (λ x. x.end) (sym more) ∙ now.invariant.end;
      lines = λ t. so_far_more project.project project.names chip.view (replay_from run 0 c.args.machine.now readings) now.passed next sent
          (replay_from run (now.passed + 1) next rest) (o.written c.args.out.now) (o.written now.out) (o.written c.write_line.new.out)
          (rw more at (now.invariant.lines t)) (c.in_ok-write_line-in-Ok.ensures.whole t);
    }

pub returns-in_err-write_line-in-Ok-clause-part : goal.returns-in_err-write_line-in-Ok-clause-part
returns-in_err-write_line-in-Ok-clause-part g c = λ t.
    let o = g.O.Out in
    let chip = g.M.ChipMachine.chip in
    let project = c.args.loaded.now.project.now in
    let run = cycle_of chip.step c.args.loaded.now.flash.now c.args.limit in
    let readings = c.args.readings.now in
    let now = c.loop-reading in
    let k = now.reading-index in
    let next = c.cycle.new.machine in
    let rest = drop (k + 1) readings in
    let sent = c.in-Ok.sent in
    let done = sym c.in-Ok.is ∙ c.outcome.ensures ∙ ap (outcome (now.passed + 1)) c.cycle.ensures.end in
    let more : replay_from run now.passed now.machine (drop k readings) ≡ with_cycle next sent (replay_from run (now.passed + 1) next rest) =
    ap (replay_from run now.passed now.machine) (drop_more readings k _ c.loop-reading-test.true)
    ∙ one_more run now.passed now.machine _ rest next sent c.cycle.ensures.state done in
    so_far_part project.project project.names chip.view (replay_from run 0 c.args.machine.now readings) now.passed next sent
    (replay_from run (now.passed + 1) next rest) (o.written c.args.out.now) (o.written now.out) (o.written c.write_line.new.out)
    (rw more at (now.invariant.lines t)) (c.write_line.ensures.part t)
