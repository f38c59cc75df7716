use Rattle.int_sim.specs.Machine.{state_of}
use Rattle.trace_run.proofs.ViewLemmas.{is_view}
use Rattle.trace_run.proofs.run.Run.cycle.Goals as goal

pub shown_line-requires : goal.shown_line-requires
shown_line-requires g c =
    let run = c.args.self.now in
    let sim = c.cycle.new.self in
    rw c.in_ok-view.ensures (is_view run.duty run.names.now sim.program (state_of sim) (rw c.cycle.ensures.program c.requires.program.places))
