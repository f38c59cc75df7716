use Rattle.std.proofs.Common.{take}
use Rattle.std.specs.Fmt.{HasWritten, IsPlainFormatter}
use Rattle.int_code.specs.Text.{values_text}
use Rattle.int_code.proofs.text.ValuesDisplay.fmt.Given as goal

abbrev pub invariant-loop-n : goal.invariant-loop-n
invariant-loop-n g l =
    IsPlainFormatter l.initial.f → HasWritten g.W.Write.write_str_gives l.initial.f (values_text (take l.n-index l.n-items)) l.f
