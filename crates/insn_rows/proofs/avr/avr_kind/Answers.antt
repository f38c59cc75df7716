use Rattle.std.proofs.Common.{◌≡◌, true, refl}
use Rattle.insn_rows.specs.Rows.{all_apart}
use Rattle.insn_rows.specs.Avr.{avr_rows}
use Rattle.insn_rows.proofs.Apart.{tests_all}
use Rattle.insn_rows.proofs.avr.avr_kind.Goals as goal

tested : all_apart avr_rows ≡ true
tested = refl

pub returns-clause-apart : goal.returns-clause-apart
returns-clause-apart c = tests_all avr_rows tested
