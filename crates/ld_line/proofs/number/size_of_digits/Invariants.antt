use Rattle.std.proofs.Common.{◌≡◌, ◌≤◌, ◌-◌, ◌^◌, min, drop}
use Rattle.std.specs.Option.{option_map}
use Rattle.texts.specs.Digits.{digits}
use Rattle.ld_line.proofs.NumberLemmas.{rest_of}
use Rattle.ld_line.proofs.number.size_of_digits.Given as goal

abbrev pub invariant-loop-digit : goal.invariant-loop-digit
invariant-loop-digit l = record {
  small : l.size ≤ 2 ^ 32 - 1;
  same : rest_of l.size (drop l.digit-index l.token) ≡ option_map (min (2 ^ 32 - 1)) (digits l.token);
}
