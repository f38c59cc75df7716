-- No other instruction is of the group.
use Rattle.pic16_mach.proofs.GroupLemmas.{only_for_zero}
use Rattle.pic16_mach.proofs.state.PicState.operate_for_zero.Goals as goal

pub returns-in_default : goal.returns-in_default
returns-in_default c = let n = c.in_default in
    absurd (only_for_zero c.args.insn c.requires.group n.not-Andwf n.not-Comf n.not-Decf n.not-Incf n.not-Iorwf n.not-Movf n.not-Xorwf)
