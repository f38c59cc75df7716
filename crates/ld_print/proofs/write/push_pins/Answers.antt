use Rattle.std.proofs.Common.{◌+◌, ◌∙◌, ◌∷◌, [], ap, drop}
use Rattle.ld_print.specs.Printed.{pin_line, pin_lines}
use Rattle.ld_print.proofs.JoinedLemmas.{front, lines_more}
use Rattle.ld_print.proofs.write.push_pins.Goals as goal

pub loop-pin-preserved : goal.loop-pin-preserved
loop-pin-preserved c =
    let at = c.loop-pin.pin-index in
    lines_more c.loop-pin.text.items c.push_pin.new.text.items (pin_line c.pin-item.result ∷ []) (pin_lines (drop (at + 1) c.args.pins.now))
    (pin_lines (drop at c.args.pins.now))
    (ap pin_lines (front c.args.pins.now at c.pin-item.result c.loop-pin-test.true c.pin-item.is))
    c.in_ok-push_pin.ensures
    ∙ c.loop-pin.invariant
