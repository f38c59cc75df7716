use Rattle.pic16_mach.proofs.Undone.{undone}
use Rattle.pic16_mach.proofs.insn.encode.Goals as goal

pub returns-clause-back : goal.returns-clause-back
returns-clause-back c = undone c.args.i.now c.requires
