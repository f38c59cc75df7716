use Rattle.chip_run.proofs.PinLemmas.{pins_more}
use Rattle.chip_run.proofs.pins.pin_readings.Goals as goal

pub loop-step-preserved : goal.loop-step-preserved
loop-step-preserved c =
    let l = c.args.l.now in
    let steps = c.as_slice-step-items.result.now in
    let s = c.step-item.result in
    let pins = c.pin_reading in
    pins_more l.project l.names steps c.loop-step.step-index s pins.result c.loop-step.pins c.push_times.new.pins c.loop-step-test.true c.step-item.is
    pins.ensures.seen (record {
      ports = pins.ensures.ports;
      channels = pins.ensures.channels;
      elsewhere = pins.ensures.elsewhere;
      converted = pins.ensures.converted;
    }) c.in_ok-push_times.ensures c.loop-step.invariant
