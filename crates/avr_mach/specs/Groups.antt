-- Groups of instructions: of kinds by the fields of their words, and of instructions by the function that executes them.
use Rattle.std.specs.Prelude.{Bool, true, false}
use Rattle.avr_mach.specs.declared.exec.Group.{Group}
use Rattle.avr_mach.specs.declared.exec.Group.TheVariants.{Arithmetic, Control, Transfer, Access}
use Rattle.avr_mach.specs.declared.insn.AvrInsn.{AvrInsn}
use Rattle.avr_mach.specs.declared.insn.AvrInsn.TheVariants as insn
use Rattle.insn_rows.specs.declared.avr.AvrKind.{AvrKind}
use Rattle.insn_rows.specs.declared.avr.AvrKind.TheVariants.{Brbs, Brbc, Bset, Bclr, Rjmp, Rcall, Jmp, Call, In, Out, Cbi, Sbi, Sbic, Sbis, Sbrc, Sbrs, Lds, Sts, Ldd, Std}

-- it has a bit of the status register, or a place of program flash
abbrev pub is_of_flow : AvrKind → Bool
is_of_flow Brbs = true
is_of_flow Brbc = true
is_of_flow Bset = true
is_of_flow Bclr = true
is_of_flow Rjmp = true
is_of_flow Rcall = true
is_of_flow Jmp = true
is_of_flow Call = true
is_of_flow kind = false

-- it has a bit of a byte, an I/O address, a data address or a displacement
abbrev pub is_of_data : AvrKind → Bool
is_of_data In = true
is_of_data Out = true
is_of_data Cbi = true
is_of_data Sbi = true
is_of_data Sbic = true
is_of_data Sbis = true
is_of_data Sbrc = true
is_of_data Sbrs = true
is_of_data Lds = true
is_of_data Sts = true
is_of_data Ldd = true
is_of_data Std = true
is_of_data kind = false

-- the group of an instruction
abbrev pub group_of : AvrInsn → Group
group_of (insn.Add d r) = Arithmetic
group_of (insn.Adc d r) = Arithmetic
group_of (insn.Sub d r) = Arithmetic
group_of (insn.Sbc d r) = Arithmetic
group_of (insn.Cp d r) = Arithmetic
group_of (insn.Cpc d r) = Arithmetic
group_of (insn.Cpi d k) = Arithmetic
group_of (insn.And d r) = Arithmetic
group_of (insn.Eor d r) = Arithmetic
group_of (insn.Or d r) = Arithmetic
group_of (insn.Com d) = Arithmetic
group_of (insn.Inc d) = Arithmetic
group_of (insn.Dec d) = Arithmetic
group_of (insn.Lsr d) = Arithmetic
group_of (insn.Ror d) = Arithmetic
group_of (insn.Brbs s k) = Control
group_of (insn.Brbc s k) = Control
group_of (insn.Bset s) = Control
group_of (insn.Bclr s) = Control
group_of (insn.Rjmp k) = Control
group_of (insn.Rcall k) = Control
group_of (insn.Jmp place) = Control
group_of (insn.Call place) = Control
group_of insn.Ret = Control
group_of (insn.Sbrc r b) = Control
group_of (insn.Sbrs r b) = Control
group_of insn.Nop = Control
group_of (insn.Mov d r) = Transfer
group_of (insn.Ldi d k) = Transfer
group_of (insn.Lds d address) = Transfer
group_of (insn.Sts address r) = Transfer
group_of (insn.Ldd d q) = Transfer
group_of (insn.Std q r) = Transfer
group_of (insn.St r) = Transfer
group_of (insn.In d a) = Access
group_of (insn.Out a r) = Access
group_of (insn.Cbi a b) = Access
group_of (insn.Sbi a b) = Access
group_of (insn.Sbic a b) = Access
group_of (insn.Sbis a b) = Access
