use Rattle.std.proofs.Common.{◌≡◌, ◌++◌, drop}
use Rattle.texts.specs.Lines.{joined}
use Rattle.ld_print.specs.Printed.{rungs_lines}
use Rattle.ld_print.proofs.write.push_rungs.Given as goal

abbrev pub invariant-loop-rung : goal.invariant-loop-rung
invariant-loop-rung l = l.text.items ++ joined (rungs_lines (drop l.rung-index l.rungs)) ≡ l.fn.text.items ++ joined (rungs_lines l.rungs)
