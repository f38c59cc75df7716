use Rattle.std.proofs.Common.{arith}
use Rattle.std.proofs.lemmas.Grind.{common_steps}
use Rattle.int_code.proofs.TextLemmas.{values_text-more}
use Rattle.int_code.proofs.text.ValuesDisplay.fmt.Goals as goal

pub loop-n-preserved : goal.loop-n-preserved
loop-n-preserved g c p = grind (arith, common_steps, values_text-more)
