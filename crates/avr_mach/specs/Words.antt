-- The words of an instruction, and what it is to read them back.
use Rattle.std.specs.Prelude.{◌≡◌, ℕ, ◌+◌, ◌-◌, ◌*◌, ◌/◌, ◌%◌, List, [], ◌∷◌, Some}
use Rattle.avr_mach.specs.declared.insn.AvrInsn.{AvrInsn}
use Rattle.avr_mach.specs.declared.insn.AvrInsn.TheVariants.{Add, Adc, Sub, Sbc, Cp, Cpc, And, Eor, Or, Mov, Cpi, Ldi, Com, Inc, Lsr, Ror, Dec, Brbs, Brbc, Bset, Bclr, Rjmp, Rcall, Jmp, Call, Ret, In, Out, Cbi, Sbi, Sbic, Sbis, Sbrc, Sbrs, Lds, Sts, Ldd, Std, St, Nop}
use Rattle.avr_mach.specs.Insn.{avr_decode}

-- fixed bits with the fields of a form
abbrev pub two_regs : ℕ → ℕ → ℕ → ℕ
two_regs bits d r = bits + (r / 16 * 512 + d * 16 + r % 16)

abbrev pub with_constant : ℕ → ℕ → ℕ → ℕ
with_constant bits d k = bits + (k / 16 * 256 + (d - 16) * 16 + k % 16)

abbrev pub with_long_place : ℕ → ℕ → ℕ
with_long_place bits place = bits + (place / 131072 * 16 + place / 65536 % 2)

abbrev pub displaced : ℕ → ℕ → ℕ → ℕ
displaced bits d q = bits + (q / 32 * 8192 + q / 8 % 4 * 1024 + d * 16 + q % 8)

abbrev pub first_word : AvrInsn → ℕ
first_word (Add d r) = two_regs 0x0c00 d r
first_word (Adc d r) = two_regs 0x1c00 d r
first_word (Sub d r) = two_regs 0x1800 d r
first_word (Sbc d r) = two_regs 0x0800 d r
first_word (Cp d r) = two_regs 0x1400 d r
first_word (Cpc d r) = two_regs 0x0400 d r
first_word (And d r) = two_regs 0x2000 d r
first_word (Eor d r) = two_regs 0x2400 d r
first_word (Or d r) = two_regs 0x2800 d r
first_word (Mov d r) = two_regs 0x2c00 d r
first_word (Cpi d k) = with_constant 0x3000 d k
first_word (Ldi d k) = with_constant 0xe000 d k
first_word (Com d) = 0x9400 + d * 16
first_word (Inc d) = 0x9403 + d * 16
first_word (Lsr d) = 0x9406 + d * 16
first_word (Ror d) = 0x9407 + d * 16
first_word (Dec d) = 0x940a + d * 16
first_word (Brbs s k) = 0xf000 + (k * 8 + s)
first_word (Brbc s k) = 0xf400 + (k * 8 + s)
first_word (Bset s) = 0x9408 + s * 16
first_word (Bclr s) = 0x9488 + s * 16
first_word (Rjmp k) = 0xc000 + k
first_word (Rcall k) = 0xd000 + k
first_word (Jmp place) = with_long_place 0x940c place
first_word (Call place) = with_long_place 0x940e place
first_word Ret = 0x9508
first_word (In d a) = two_regs 0xb000 d a
first_word (Out a r) = two_regs 0xb800 r a
first_word (Cbi a b) = 0x9800 + (a * 8 + b)
first_word (Sbi a b) = 0x9a00 + (a * 8 + b)
first_word (Sbic a b) = 0x9900 + (a * 8 + b)
first_word (Sbis a b) = 0x9b00 + (a * 8 + b)
first_word (Sbrc r b) = 0xfc00 + (r * 16 + b)
first_word (Sbrs r b) = 0xfe00 + (r * 16 + b)
first_word (Lds d address) = 0x9000 + d * 16
first_word (Sts address r) = 0x9200 + r * 16
first_word (Ldd d q) = displaced 0x8008 d q
first_word (Std q r) = displaced 0x8208 r q
first_word (St r) = 0x920d + r * 16
first_word Nop = 0x0000

-- the second word, and 0 where there is none
abbrev pub second_word : AvrInsn → ℕ
second_word (Jmp place) = place % 65536
second_word (Call place) = place % 65536
second_word (Lds d address) = address
second_word (Sts address r) = address
second_word (Add d r) = 0
second_word (Adc d r) = 0
second_word (Sub d r) = 0
second_word (Sbc d r) = 0
second_word (Cp d r) = 0
second_word (Cpc d r) = 0
second_word (And d r) = 0
second_word (Eor d r) = 0
second_word (Or d r) = 0
second_word (Mov d r) = 0
second_word (Cpi d k) = 0
second_word (Ldi d k) = 0
second_word (Com d) = 0
second_word (Inc d) = 0
second_word (Lsr d) = 0
second_word (Ror d) = 0
second_word (Dec d) = 0
second_word (Brbs s k) = 0
second_word (Brbc s k) = 0
second_word (Bset s) = 0
second_word (Bclr s) = 0
second_word (Rjmp k) = 0
second_word (Rcall k) = 0
second_word Ret = 0
second_word (In d a) = 0
second_word (Out a r) = 0
second_word (Cbi a b) = 0
second_word (Sbi a b) = 0
second_word (Sbic a b) = 0
second_word (Sbis a b) = 0
second_word (Sbrc r b) = 0
second_word (Sbrs r b) = 0
second_word (Ldd d q) = 0
second_word (Std q r) = 0
second_word (St r) = 0
second_word Nop = 0

abbrev pub avr_words : AvrInsn → List ℕ
avr_words i = first_word i ∷ second_word i ∷ []

-- how many words it has
abbrev pub size_of : AvrInsn → ℕ
size_of (Jmp place) = 2
size_of (Call place) = 2
size_of (Lds d address) = 2
size_of (Sts address r) = 2
size_of (Add d r) = 1
size_of (Adc d r) = 1
size_of (Sub d r) = 1
size_of (Sbc d r) = 1
size_of (Cp d r) = 1
size_of (Cpc d r) = 1
size_of (And d r) = 1
size_of (Eor d r) = 1
size_of (Or d r) = 1
size_of (Mov d r) = 1
size_of (Cpi d k) = 1
size_of (Ldi d k) = 1
size_of (Com d) = 1
size_of (Inc d) = 1
size_of (Lsr d) = 1
size_of (Ror d) = 1
size_of (Dec d) = 1
size_of (Brbs s k) = 1
size_of (Brbc s k) = 1
size_of (Bset s) = 1
size_of (Bclr s) = 1
size_of (Rjmp k) = 1
size_of (Rcall k) = 1
size_of Ret = 1
size_of (In d a) = 1
size_of (Out a r) = 1
size_of (Cbi a b) = 1
size_of (Sbi a b) = 1
size_of (Sbic a b) = 1
size_of (Sbis a b) = 1
size_of (Sbrc r b) = 1
size_of (Sbrs r b) = 1
size_of (Ldd d q) = 1
size_of (Std q r) = 1
size_of (St r) = 1
size_of Nop = 1

-- its words are read as the instruction, whatever follows the word of an instruction of one word
abbrev pub DecodesBack : AvrInsn → Type 0
DecodesBack i = (next : ℕ) → (size_of i ≡ 2 → next ≡ second_word i) → avr_decode (first_word i) next ≡ Some i
