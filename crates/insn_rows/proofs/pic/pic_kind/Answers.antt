use Rattle.std.proofs.Common.{◌≡◌, true, refl}
use Rattle.insn_rows.specs.Rows.{all_apart}
use Rattle.insn_rows.specs.Pic.{pic_rows}
use Rattle.insn_rows.proofs.Apart.{tests_all}
use Rattle.insn_rows.proofs.pic.pic_kind.Goals as goal

tested : all_apart pic_rows ≡ true
tested = refl

pub returns-clause-apart : goal.returns-clause-apart
returns-clause-apart c = tests_all pic_rows tested
