use Rattle.std.proofs.Common.{inl, arith, []}
use Rattle.ldmicro_top.specs.Command.{Command, Replay}
use Rattle.ldmicro_top.specs.World.{world}
use Rattle.ldmicro_top.specs.Steps.{lines_of_file, end_of_file}
use Rattle.ldmicro_top.proofs.GoodLemmas.{replayed_good}
use Rattle.ldmicro_top.proofs.RanLemmas.{Later, declined, ended, is_end_of_file}
use Rattle.ldmicro_top.proofs.run.replay.Goals as goal

pub returns-in-Err : goal.returns-in-Err
returns-in-Err g c =
    let F = g.F.Files in
    let O = g.O.Out in
    let only = c.take_replay.ensures.only in
    let command : Command = Replay c.args.source.now c.args.file.now c.args.trace.now in
    let old = world F O c.args.files.now c.args.out.now in
    let new = world F O c.take_replay.new.files c.tell.new.out in
    let later : Later old new = record { reads = only.reads; absences = only.absences; writes = omega (arith, only.writes); faults = c.tell.ensures.later } in
    declined F.tells O.tells command old new later c.in-Err.status c.tell.result tt c.in-Err.ensures.declined only.same c.tell.ensures

pub returns-in-Ok : goal.returns-in-Ok
returns-in-Ok g c =
    let F = g.F.Files in
    let O = g.O.Out in
    let only = c.take_replay.ensures.only in
    let command : Command = Replay c.args.source.now c.args.file.now c.args.trace.now in
    let printed = lines_of_file c.in-Ok.run' in
    let ending = end_of_file c.in-Ok.run' in
    let old = world F O c.args.files.now c.args.out.now in
    let new = world F O c.take_replay.new.files c.show_file.new.out in
    let later : Later old new = record { reads = only.reads; absences = only.absences; writes = omega (arith, only.writes); faults = c.show_file.ensures.later } in
    ended F.tells O.tells command old new later [] printed ending c.show_file.result (is_end_of_file c.in-Ok.run')
    (λ y. replayed_good c.args.source.now c.args.file.now c.args.trace.now old.held printed ending (c.in-Ok.ensures.replayed y))
    c.in-Ok.ensures.replayed only.same (λ y. inl (only.same y)) c.show_file.ensures
