-- Groups of instructions: of kinds by the fields of their words, and of instructions by the function that executes them.
use Rattle.std.specs.Prelude.{Bool, true, false}
use Rattle.pic16_mach.specs.declared.exec.Group.{Group}
use Rattle.pic16_mach.specs.declared.exec.Group.TheVariants.{Operation, ForZero, Access, Control}
use Rattle.pic16_mach.specs.declared.insn.PicInsn.{PicInsn}
use Rattle.pic16_mach.specs.declared.insn.PicInsn.TheVariants as insn
use Rattle.insn_rows.specs.declared.pic.PicKind.{PicKind}
use Rattle.insn_rows.specs.declared.pic.PicKind.TheVariants.{Addwf, Andwf, Clrf, Comf, Decf, Decfsz, Incf, Incfsz, Iorwf, Movf, Movwf, Rlf, Rrf, Subwf, Swapf, Xorwf}

-- it has a file register and no bit of it
abbrev pub is_of_file : PicKind → Bool
is_of_file Addwf = true
is_of_file Andwf = true
is_of_file Clrf = true
is_of_file Comf = true
is_of_file Decf = true
is_of_file Decfsz = true
is_of_file Incf = true
is_of_file Incfsz = true
is_of_file Iorwf = true
is_of_file Movf = true
is_of_file Movwf = true
is_of_file Rlf = true
is_of_file Rrf = true
is_of_file Subwf = true
is_of_file Swapf = true
is_of_file Xorwf = true
is_of_file kind = false

-- the group of an instruction
abbrev pub group_of : PicInsn → Group
group_of (insn.Addwf f d) = Operation
group_of (insn.Andwf f d) = ForZero
group_of (insn.Clrf f) = Access
group_of insn.Clrw = Control
group_of (insn.Comf f d) = ForZero
group_of (insn.Decf f d) = ForZero
group_of (insn.Decfsz f d) = Operation
group_of (insn.Incf f d) = ForZero
group_of (insn.Incfsz f d) = Operation
group_of (insn.Iorwf f d) = ForZero
group_of (insn.Movf f d) = ForZero
group_of (insn.Movwf f) = Access
group_of insn.Nop = Control
group_of (insn.Rlf f d) = Operation
group_of (insn.Rrf f d) = Operation
group_of (insn.Subwf f d) = Operation
group_of (insn.Swapf f d) = Operation
group_of (insn.Xorwf f d) = ForZero
group_of (insn.Bcf f b) = Access
group_of (insn.Bsf f b) = Access
group_of (insn.Btfsc f b) = Access
group_of (insn.Btfss f b) = Access
group_of (insn.Addlw k) = Control
group_of (insn.Andlw k) = Control
group_of (insn.Iorlw k) = Control
group_of (insn.Movlw k) = Control
group_of (insn.Sublw k) = Control
group_of (insn.Xorlw k) = Control
group_of (insn.Call k) = Control
group_of (insn.Goto k) = Control
group_of (insn.Retlw k) = Control
group_of insn.Return = Control
group_of insn.Retfie = Control
group_of insn.Clrwdt = Control
group_of insn.Sleep = Control
