use Rattle.chip_run.proofs.ViewLemmas.{is_view}
use Rattle.chip_run.proofs.replay.write_line.Goals as goal

pub shown_line-requires : goal.shown_line-requires
shown_line-requires g c =
    let l = c.args.loaded.now.project.now in
    rw (c.in_ok-view.ensures, c.names.ensures) (is_view l.project l.names (g.M.ChipMachine.chip.view c.args.machine.now) c.args.sent)
