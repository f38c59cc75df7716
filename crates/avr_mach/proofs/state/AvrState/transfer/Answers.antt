-- No other instruction is of the group.
use Rattle.avr_mach.proofs.GroupLemmas.{only_transfer}
use Rattle.avr_mach.proofs.state.AvrState.transfer.Goals as goal

pub returns-in_default : goal.returns-in_default
returns-in_default c = let n = c.in_default in absurd (only_transfer c.args.insn c.requires.group n.not-Mov n.not-Ldi n.not-Lds n.not-Sts n.not-Ldd n.not-Std
    n.not-St)
