use Rattle.std.proofs.Common.{ℕ, List, ◌++◌, Err, ap, subst, ◌∙◌}
use Rattle.avr_file.specs.Run as avr
use Rattle.ldmicro_top.specs.Replays.{status_of_run}
use Rattle.ldmicro_top.specs.StatusLine.{line_of}
use Rattle.ldmicro_top.specs.Steps.{Told}
use Rattle.ldmicro_top.specs.declared.status.Status.{Status}
use Rattle.ldmicro_top.proofs.RanLemmas.{told_behind, unfinished}
use Rattle.ldmicro_top.proofs.run.show_avr.Goals as goal

pub returns-in-Ok : goal.returns-in-Ok
returns-in-Ok g c =
    let O = g.O.Out in
    let lines = avr.lines_of_run c.args.run in
    let f = O.fault_count c.args.out.now in
    let h = O.fault_count c.tell.new.out in
    let w = O.written c.args.out.now in
    let y = O.written c.tell.new.out in
    subst (λ (s : Status). Told O.tells f h w y (lines ++ line_of s) s c.tell.result) (c.status_of_run.ensures ∙ ap status_of_run c.in-Ok.ensures.end)
    (told_behind O.tells f (O.fault_count c.print.new.out) h w (O.written c.print.new.out) y lines (line_of c.status_of_run.result) c.status_of_run.result
    c.tell.result c.print.ensures.count.later c.in-Ok.ensures.whole c.tell.ensures)

pub returns-in-Err : goal.returns-in-Err
returns-in-Err g c =
    let O = g.O.Out in
    let r = c.args.run in
    let lines = avr.lines_of_run r in
    let ending = status_of_run (avr.end_of_run r) in
    unfinished O.tells (O.fault_count c.args.out.now) (O.fault_count c.print.new.out) (O.written c.args.out.now) (O.written c.print.new.out) lines ending
    c.in-Err.fault c.status_of.result c.status_of.ensures c.print.ensures.count.later (λ e. c.in-Err.ensures.count.failed (ap Err e)) c.print.ensures.part
