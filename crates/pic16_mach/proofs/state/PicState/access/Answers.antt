-- No other instruction is of the group.
use Rattle.pic16_mach.proofs.GroupLemmas.{only_access}
use Rattle.pic16_mach.proofs.state.PicState.access.Goals as goal

pub returns-in_default : goal.returns-in_default
returns-in_default c = let n = c.in_default in
    absurd (only_access c.args.insn c.requires.group n.not-Clrf n.not-Movwf n.not-Bcf n.not-Bsf n.not-Btfsc n.not-Btfss)
