use Rattle.std.proofs.Common.{◌∙◌, sym}
use Rattle.intel_hex.proofs.SaidLemmas.{no_mark, long_line}
use Rattle.intel_hex.proofs.said.read_line.Goals as goal
use Rattle.intel_hex.proofs.said.read_line.Goals.{then-mark-ne58-via-then-mark-ne58, then-mark-ne58-via-else-mark-ne58+then-digits-gt-MOST_DIGITS}

pub returns-then-mark-ne58 : goal.returns-then-mark-ne58
returns-then-mark-ne58 c =
    let parts = sym c.without_return.ensures ∙ c.in-Some.ensures.cases.0 in
    elim c.then-mark-ne58.branch [
      | then-mark-ne58-via-then-mark-ne58 w ↦ sym (no_mark _ _ _ parts w.if-mark-ne58.true)
      | then-mark-ne58-via-else-mark-ne58+then-digits-gt-MOST_DIGITS w ↦ sym (long_line _ _ _ parts w.if-mark-ne58.false w.if-digits-gt-MOST_DIGITS.true)
    ]
