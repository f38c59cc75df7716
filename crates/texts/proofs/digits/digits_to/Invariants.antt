use Rattle.std.proofs.Common.{◌≡◌, ◌≤◌, drop}
use Rattle.texts.specs.Digits.{digits_to}
use Rattle.texts.proofs.DigitLemmas.{rest_to}
use Rattle.texts.proofs.digits.digits_to.Given as goal

abbrev pub invariant-loop-digit : goal.invariant-loop-digit
invariant-loop-digit l = record {
  small : l.value ≤ l.most;
  same : rest_to l.most l.value (drop l.digit-index l.digits) ≡ digits_to l.most l.digits;
}
