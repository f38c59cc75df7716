-- No other instruction is of the group.
use Rattle.avr_mach.proofs.GroupLemmas.{only_access}
use Rattle.avr_mach.proofs.state.AvrState.access.Goals as goal

pub returns-in_default : goal.returns-in_default
returns-in_default c = let n = c.in_default in absurd (only_access c.args.insn c.requires.group n.not-In n.not-Out n.not-Cbi n.not-Sbi n.not-Sbic n.not-Sbis)
