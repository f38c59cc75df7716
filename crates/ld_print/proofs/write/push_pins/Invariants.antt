use Rattle.std.proofs.Common.{◌≡◌, ◌++◌, drop}
use Rattle.texts.specs.Lines.{joined}
use Rattle.ld_print.specs.Printed.{pin_lines}
use Rattle.ld_print.proofs.write.push_pins.Given as goal

abbrev pub invariant-loop-pin : goal.invariant-loop-pin
invariant-loop-pin l = l.text.items ++ joined (pin_lines (drop l.pin-index l.pins)) ≡ l.fn.text.items ++ joined (pin_lines l.pins)
