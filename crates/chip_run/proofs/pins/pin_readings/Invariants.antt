use Rattle.std.proofs.Common.{take}
use Rattle.ladder_trace.specs.Simulated.{readings}
use Rattle.chip_run.specs.AtPins.{ArePinsOf}
use Rattle.chip_run.proofs.pins.pin_readings.Given as goal

abbrev pub invariant-loop-step : goal.invariant-loop-step
invariant-loop-step l = ArePinsOf l.l.project l.l.names (readings (take l.step-index l.step-items)) l.pins
