-- No other instruction is of the group.
use Rattle.avr_mach.proofs.GroupLemmas.{only_control}
use Rattle.avr_mach.proofs.state.AvrState.control.Goals as goal

pub returns-in_default : goal.returns-in_default
returns-in_default c = let n = c.in_default in absurd (only_control c.args.insn c.requires.group n.not-Brbs n.not-Brbc n.not-Bset n.not-Bclr n.not-Rjmp
    n.not-Rcall n.not-Jmp n.not-Call n.not-Ret n.not-Sbrc n.not-Sbrs n.not-Nop)
