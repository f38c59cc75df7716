-- No other instruction is of the group.
use Rattle.avr_mach.proofs.GroupLemmas.{only_arithmetic}
use Rattle.avr_mach.proofs.state.AvrState.arithmetic.Goals as goal

pub returns-in_default : goal.returns-in_default
returns-in_default c = let n = c.in_default in absurd (only_arithmetic c.args.insn c.requires.group n.not-Add n.not-Adc n.not-Sub n.not-Sbc n.not-Cp n.not-Cpc
    n.not-Cpi n.not-And n.not-Eor n.not-Or n.not-Com n.not-Inc n.not-Dec n.not-Lsr n.not-Ror)
