-- What a run that can begin writes, and how it ends.
use Rattle.std.specs.Prelude.{◌≡◌, ℕ, ◌^◌, ◌<◌, List, length}
use Rattle.chip_run.specs.Lines.{lines_of}
use Rattle.chip_run.specs.Replay.{Replayed, replayed}
use Rattle.chip_run.specs.Shown.{IsPlanOf}
use Rattle.chip_run.specs.declared.end.RunEnd.{RunEnd}
use Rattle.avr_mach.specs.declared.state.AvrState.{AvrState}
use Rattle.avr_chip.specs.Machine.{avr_chip}
use Rattle.avr_file.specs.declared.run.AvrRun.{AvrRun}

abbrev pub run_of : AvrRun → Replayed AvrState
run_of r = replayed avr_chip.step r.image.words r.machine r.pins

abbrev pub lines_of_run : AvrRun → List ℕ
lines_of_run r = lines_of r.legal.project r.legal.names avr_chip.view 0 (run_of r)

abbrev pub end_of_run : AvrRun → RunEnd
end_of_run r = (run_of r).end

-- it has the project's plan, and a number of readings that 32 bits can say
pub record CanRun (r : AvrRun) : Type 0 where
  pub plan : IsPlanOf r.legal.project r.legal.names r.plan
  pub few : length r.pins < 2 ^ 32
