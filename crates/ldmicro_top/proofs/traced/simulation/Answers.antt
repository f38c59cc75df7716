use Rattle.std.specs.Prelude.{slice_index_or}
use Rattle.ladder_trace.specs.Simulated.{duty_shown}
use Rattle.trace_run.proofs.StepLemmas.{lines_from_start}
use Rattle.ldmicro_top.proofs.traced.simulation.Goals as goal

pub returns-clause-lines : goal.returns-clause-lines
returns-clause-lines c =
    let p = c.args.legal.project in
    rw c.begun.ensures
    (lines_from_start (duty_shown p) c.args.legal.names c.args.program c.in_ok-sim.sim c.args.trace (λ k. slice_index_or c.eeprom.result k 0)
    c.in_ok-sim.ensures.program c.in_ok-sim.ensures.start c.eeprom.ensures.each)
