-- What a word of program flash stands for: AVR Instruction Set Manual, the opcode of each instruction.
use Rattle.std.specs.Prelude.{ℕ, ◌+◌, ◌*◌, ◌/◌, ◌%◌, ◌^◌, ◌<◌, ◌≤◌, Option, option_map}
use Rattle.insn_rows.specs.declared.avr.AvrKind.{AvrKind}
use Rattle.insn_rows.specs.Avr.{avr_kind_of}
use Rattle.avr_mach.specs.declared.insn.AvrInsn.{AvrInsn}
use Rattle.avr_mach.specs.declared.insn.AvrInsn.TheVariants.{Add, Adc, Sub, Sbc, Cp, Cpc, And, Eor, Or, Mov, Cpi, Ldi, Com, Inc, Lsr, Ror, Dec, Brbs, Brbc, Bset, Bclr, Rjmp, Rcall, Jmp, Call, Ret, In, Out, Cbi, Sbi, Sbic, Sbis, Sbrc, Sbrs, Lds, Sts, Ldd, Std, St, Nop}

-- the fields of a word: registers, constants, I/O addresses and displacements, by their bits
abbrev pub reg_d : ℕ → ℕ
reg_d w = w / 16 % 32

abbrev pub reg_r : ℕ → ℕ
reg_r w = w / 512 % 2 * 16 + w % 16

abbrev pub high_reg : ℕ → ℕ
high_reg w = 16 + w / 16 % 16

abbrev pub constant : ℕ → ℕ
constant w = w / 256 % 16 * 16 + w % 16

abbrev pub io_address : ℕ → ℕ
io_address w = w / 512 % 4 * 16 + w % 16

abbrev pub displacement : ℕ → ℕ
displacement w = w / 8192 % 2 * 32 + w / 1024 % 4 * 8 + w % 8

-- a place of 22 bits: six in the first word, the others in the next one
abbrev pub long_place : ℕ → ℕ → ℕ
long_place w next = (w / 16 % 32 * 2 + w % 2) * 65536 + next

-- a word of this kind, and the word after it
abbrev pub insn_of : AvrKind → ℕ → ℕ → AvrInsn
insn_of AvrKind.Add w next = Add (reg_d w) (reg_r w)
insn_of AvrKind.Adc w next = Adc (reg_d w) (reg_r w)
insn_of AvrKind.Sub w next = Sub (reg_d w) (reg_r w)
insn_of AvrKind.Sbc w next = Sbc (reg_d w) (reg_r w)
insn_of AvrKind.Cp w next = Cp (reg_d w) (reg_r w)
insn_of AvrKind.Cpc w next = Cpc (reg_d w) (reg_r w)
insn_of AvrKind.And w next = And (reg_d w) (reg_r w)
insn_of AvrKind.Eor w next = Eor (reg_d w) (reg_r w)
insn_of AvrKind.Or w next = Or (reg_d w) (reg_r w)
insn_of AvrKind.Mov w next = Mov (reg_d w) (reg_r w)
insn_of AvrKind.Cpi w next = Cpi (high_reg w) (constant w)
insn_of AvrKind.Ldi w next = Ldi (high_reg w) (constant w)
insn_of AvrKind.Com w next = Com (reg_d w)
insn_of AvrKind.Inc w next = Inc (reg_d w)
insn_of AvrKind.Lsr w next = Lsr (reg_d w)
insn_of AvrKind.Ror w next = Ror (reg_d w)
insn_of AvrKind.Dec w next = Dec (reg_d w)
insn_of AvrKind.Brbs w next = Brbs (w % 8) (w / 8 % 128)
insn_of AvrKind.Brbc w next = Brbc (w % 8) (w / 8 % 128)
insn_of AvrKind.Bset w next = Bset (w / 16 % 8)
insn_of AvrKind.Bclr w next = Bclr (w / 16 % 8)
insn_of AvrKind.Rjmp w next = Rjmp (w % 4096)
insn_of AvrKind.Rcall w next = Rcall (w % 4096)
insn_of AvrKind.Jmp w next = Jmp (long_place w next)
insn_of AvrKind.Call w next = Call (long_place w next)
insn_of AvrKind.Ret w next = Ret
insn_of AvrKind.In w next = In (reg_d w) (io_address w)
insn_of AvrKind.Out w next = Out (io_address w) (reg_d w)
insn_of AvrKind.Cbi w next = Cbi (w / 8 % 32) (w % 8)
insn_of AvrKind.Sbi w next = Sbi (w / 8 % 32) (w % 8)
insn_of AvrKind.Sbic w next = Sbic (w / 8 % 32) (w % 8)
insn_of AvrKind.Sbis w next = Sbis (w / 8 % 32) (w % 8)
insn_of AvrKind.Sbrc w next = Sbrc (reg_d w) (w % 8)
insn_of AvrKind.Sbrs w next = Sbrs (reg_d w) (w % 8)
insn_of AvrKind.Lds w next = Lds (reg_d w) next
insn_of AvrKind.Sts w next = Sts next (reg_d w)
insn_of AvrKind.Ldd w next = Ldd (reg_d w) (displacement w)
insn_of AvrKind.Std w next = Std (displacement w) (reg_d w)
insn_of AvrKind.St w next = St (reg_d w)
insn_of AvrKind.Nop w next = Nop

-- what a word and the next one stand for, where the word matches a row
abbrev pub avr_decode : ℕ → ℕ → Option AvrInsn
avr_decode w next = option_map (λ kind. insn_of kind w next) (avr_kind_of w)

-- each field is within its bits
abbrev pub FieldsFit : AvrInsn → Type 0
FieldsFit (Add d r) = (d < 32) × (r < 32)
FieldsFit (Adc d r) = (d < 32) × (r < 32)
FieldsFit (Sub d r) = (d < 32) × (r < 32)
FieldsFit (Sbc d r) = (d < 32) × (r < 32)
FieldsFit (Cp d r) = (d < 32) × (r < 32)
FieldsFit (Cpc d r) = (d < 32) × (r < 32)
FieldsFit (And d r) = (d < 32) × (r < 32)
FieldsFit (Eor d r) = (d < 32) × (r < 32)
FieldsFit (Or d r) = (d < 32) × (r < 32)
FieldsFit (Mov d r) = (d < 32) × (r < 32)
FieldsFit (Cpi d k) = (16 ≤ d) × (d < 32) × (k < 256)
FieldsFit (Ldi d k) = (16 ≤ d) × (d < 32) × (k < 256)
FieldsFit (Com d) = d < 32
FieldsFit (Inc d) = d < 32
FieldsFit (Lsr d) = d < 32
FieldsFit (Ror d) = d < 32
FieldsFit (Dec d) = d < 32
FieldsFit (Brbs s k) = (s < 8) × (k < 128)
FieldsFit (Brbc s k) = (s < 8) × (k < 128)
FieldsFit (Bset s) = s < 8
FieldsFit (Bclr s) = s < 8
FieldsFit (Rjmp k) = k < 4096
FieldsFit (Rcall k) = k < 4096
FieldsFit (Jmp place) = place < 2 ^ 22
FieldsFit (Call place) = place < 2 ^ 22
FieldsFit Ret = Unit {0}
FieldsFit (In d a) = (d < 32) × (a < 64)
FieldsFit (Out a r) = (a < 64) × (r < 32)
FieldsFit (Cbi a b) = (a < 32) × (b < 8)
FieldsFit (Sbi a b) = (a < 32) × (b < 8)
FieldsFit (Sbic a b) = (a < 32) × (b < 8)
FieldsFit (Sbis a b) = (a < 32) × (b < 8)
FieldsFit (Sbrc r b) = (r < 32) × (b < 8)
FieldsFit (Sbrs r b) = (r < 32) × (b < 8)
FieldsFit (Lds d address) = (d < 32) × (address < 2 ^ 16)
FieldsFit (Sts address r) = (address < 2 ^ 16) × (r < 32)
FieldsFit (Ldd d q) = (d < 32) × (q < 64)
FieldsFit (Std q r) = (q < 64) × (r < 32)
FieldsFit (St r) = r < 32
FieldsFit Nop = Unit {0}
