-- No other instruction is of the group.
use Rattle.pic16_mach.proofs.GroupLemmas.{only_control}
use Rattle.pic16_mach.proofs.state.PicState.control.Goals as goal

pub returns-in_default : goal.returns-in_default
returns-in_default c = let n = c.in_default in
    absurd (only_control c.args.insn c.requires.group n.not-Clrw n.not-Nop n.not-Addlw n.not-Andlw n.not-Iorlw n.not-Movlw n.not-Sublw n.not-Xorlw
    n.not-Call n.not-Goto n.not-Retlw n.not-Return n.not-Retfie n.not-Clrwdt n.not-Sleep)
