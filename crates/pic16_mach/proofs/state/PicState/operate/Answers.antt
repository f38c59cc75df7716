-- No other instruction is of the group.
use Rattle.pic16_mach.proofs.GroupLemmas.{only_operation}
use Rattle.pic16_mach.proofs.state.PicState.operate.Goals as goal

pub returns-in_default : goal.returns-in_default
returns-in_default c = let n = c.in_default in
    absurd (only_operation c.args.insn c.requires.group n.not-Addwf n.not-Decfsz n.not-Incfsz n.not-Rlf n.not-Rrf n.not-Subwf n.not-Swapf)
