-- Assembled words of a project's program carry the project.
use Rattle.byte_lower.proofs.CycleLemmas.{carries}
use Rattle.byte_lower.specs.Code.{code_of}
use Rattle.chip_compile.proofs.Carried.{carried}
use Rattle.avr_code.specs.Target.{avr_target}
use Rattle.avr_chip.proofs.Served.{served}
use Rattle.avr_chip.specs.Machine.{IsReset, avr_chip}
use Rattle.avr_gen.proofs.Legal.{board_of_legal}
use Rattle.avr_gen.specs.Admission.{board_of}
use Rattle.avr_gen.specs.Carried.{AssembledCarry}

pub assembled_carry : AssembledCarry
assembled_carry p o settings program words cycles boot target kept set linked can runs =
    let board = board_of o settings in
    let fits = board_of_legal p o settings target kept linked.target linked.inputs linked.outputs set in
    carried avr_chip (IsReset settings) (avr_target board) p o program (code_of o program) words cycles boot (served board o fits.layout) linked
    (carries o program can o.chip o.plan.ram_fits) runs
