-- Branches, jumps, calls and skips, and why an instruction has no step: AVR Instruction Set Manual, the operation of each instruction.
use Rattle.std.specs.Prelude.{ℕ, ◌+◌, ◌-◌, ◌*◌, ◌/◌, ◌%◌, ◌<◌, ◌≤◌, nat_lt, nat_le, ◌&&◌, Bool, if◌then◌else◌, Option, Some, None}
use Rattle.chip_tables.specs.declared.outside.StuckCause.{StuckCause}
use Rattle.chip_tables.specs.declared.outside.StuckCause.TheVariants.{StackDepth, PastFlash}
use Rattle.avr_mach.specs.declared.insn.AvrInsn.{AvrInsn}
use Rattle.avr_mach.specs.declared.insn.AvrInsn.TheVariants.{Add, Adc, Sub, Sbc, Cp, Cpc, And, Eor, Or, Mov, Cpi, Ldi, Com, Inc, Lsr, Ror, Dec, Brbs, Brbc, Bset, Bclr, Rjmp, Rcall, Jmp, Call, Ret, In, Out, Cbi, Sbi, Sbic, Sbis, Sbrc, Sbrs, Lds, Sts, Ldd, Std, St, Nop}
use Rattle.avr_mach.specs.declared.state.AvrState.{AvrState}
use Rattle.avr_mach.specs.declared.state.Flow.TheVariants.{Next, Skip, To}
use Rattle.avr_devices.specs.Part.{AvrPart}
use Rattle.chip_tables.specs.declared.mega16.TheConstants.{SRAM_FIRST, SRAM_END}
use Rattle.avr_mach.specs.Memory.{ram_byte, with_ram}
use Rattle.avr_mach.specs.State.{After, after}

-- the place after the next one by k, a two's complement with `half` as its sign, around the flash
abbrev pub near : AvrPart → ℕ → ℕ → ℕ → ℕ
near part here k half =
    if nat_lt k half then (here + 1 + k) % part.flash_words else (here + 1 + k + (part.flash_words - 2 * half)) % part.flash_words

abbrev pub branch : AvrPart → AvrState → Bool → ℕ → ℕ → After
branch part m taken here k = if taken then after m (To (near part here k 64)) 2 else after m Next 1

abbrev pub skip_if : AvrState → Bool → After
skip_if m test = if test then after m Skip 1 else after m Next 1

-- the place to return to is pushed: the low byte at the stack pointer, the high byte below it
abbrev pub with_call : AvrState → ℕ → AvrState
with_call m back =
    let pushed = with_ram (with_ram m m.stack (back % 256)) (m.stack - 1) (back / 256) in
    record pushed { stack = m.stack - 2 }

abbrev pub return_place : AvrState → ℕ
return_place m = ram_byte m (m.stack + 1) * 256 + ram_byte m (m.stack + 2)

-- the bytes that a call pushes are in the SRAM
abbrev pub call_obstacle : AvrState → Option StuckCause
call_obstacle m = if nat_lt SRAM_FIRST m.stack && nat_lt m.stack SRAM_END then None else Some StackDepth

-- and those that a return pops
abbrev pub return_obstacle : AvrState → Option StuckCause
return_obstacle m = if nat_le SRAM_FIRST (m.stack + 1) && nat_lt (m.stack + 2) SRAM_END then None else Some StackDepth

-- the second word is in the flash
abbrev pub has_second_word : AvrPart → AvrState → Bool
has_second_word part m = nat_lt (m.place + 1) part.flash_words

-- an instruction of two words
abbrev pub long_obstacle : AvrPart → AvrState → Option StuckCause
long_obstacle part m = if has_second_word part m then None else Some PastFlash

-- one that goes to a place of 22 bits, of which the machine has 16
abbrev pub far_obstacle : AvrPart → AvrState → ℕ → Option StuckCause → Option StuckCause
far_obstacle part m place other = if has_second_word part m && nat_lt place 65536 then other else Some PastFlash

-- why an instruction has no step
abbrev pub obstacle : AvrPart → AvrInsn → AvrState → Option StuckCause
obstacle part (Jmp place) m = far_obstacle part m place None
obstacle part (Call place) m = far_obstacle part m place (call_obstacle m)
obstacle part (Rcall k) m = call_obstacle m
obstacle part Ret m = return_obstacle m
obstacle part (Lds d address) m = long_obstacle part m
obstacle part (Sts address r) m = long_obstacle part m
obstacle part (Add d r) m = None
obstacle part (Adc d r) m = None
obstacle part (Sub d r) m = None
obstacle part (Sbc d r) m = None
obstacle part (Cp d r) m = None
obstacle part (Cpc d r) m = None
obstacle part (And d r) m = None
obstacle part (Eor d r) m = None
obstacle part (Or d r) m = None
obstacle part (Mov d r) m = None
obstacle part (Cpi d k) m = None
obstacle part (Ldi d k) m = None
obstacle part (Com d) m = None
obstacle part (Inc d) m = None
obstacle part (Lsr d) m = None
obstacle part (Ror d) m = None
obstacle part (Dec d) m = None
obstacle part (Brbs s k) m = None
obstacle part (Brbc s k) m = None
obstacle part (Bset s) m = None
obstacle part (Bclr s) m = None
obstacle part (Rjmp k) m = None
obstacle part (In d a) m = None
obstacle part (Out a r) m = None
obstacle part (Cbi a b) m = None
obstacle part (Sbi a b) m = None
obstacle part (Sbic a b) m = None
obstacle part (Sbis a b) m = None
obstacle part (Sbrc r b) m = None
obstacle part (Sbrs r b) m = None
obstacle part (Ldd d q) m = None
obstacle part (Std q r) m = None
obstacle part (St r) m = None
obstacle part Nop m = None

-- the stack pointer stays within its 16 bits
abbrev pub HasRoom : AvrInsn → AvrState → Type 0
HasRoom (Call place) m = 2 ≤ m.stack
HasRoom (Rcall k) m = 2 ≤ m.stack
HasRoom Ret m = m.stack + 2 < SRAM_END
HasRoom (Add d r) m = Unit {0}
HasRoom (Adc d r) m = Unit {0}
HasRoom (Sub d r) m = Unit {0}
HasRoom (Sbc d r) m = Unit {0}
HasRoom (Cp d r) m = Unit {0}
HasRoom (Cpc d r) m = Unit {0}
HasRoom (And d r) m = Unit {0}
HasRoom (Eor d r) m = Unit {0}
HasRoom (Or d r) m = Unit {0}
HasRoom (Mov d r) m = Unit {0}
HasRoom (Cpi d k) m = Unit {0}
HasRoom (Ldi d k) m = Unit {0}
HasRoom (Com d) m = Unit {0}
HasRoom (Inc d) m = Unit {0}
HasRoom (Lsr d) m = Unit {0}
HasRoom (Ror d) m = Unit {0}
HasRoom (Dec d) m = Unit {0}
HasRoom (Brbs s k) m = Unit {0}
HasRoom (Brbc s k) m = Unit {0}
HasRoom (Bset s) m = Unit {0}
HasRoom (Bclr s) m = Unit {0}
HasRoom (Rjmp k) m = Unit {0}
HasRoom (Jmp place) m = Unit {0}
HasRoom (In d a) m = Unit {0}
HasRoom (Out a r) m = Unit {0}
HasRoom (Cbi a b) m = Unit {0}
HasRoom (Sbi a b) m = Unit {0}
HasRoom (Sbic a b) m = Unit {0}
HasRoom (Sbis a b) m = Unit {0}
HasRoom (Sbrc r b) m = Unit {0}
HasRoom (Sbrs r b) m = Unit {0}
HasRoom (Lds d address) m = Unit {0}
HasRoom (Sts address r) m = Unit {0}
HasRoom (Ldd d q) m = Unit {0}
HasRoom (Std q r) m = Unit {0}
HasRoom (St r) m = Unit {0}
HasRoom Nop m = Unit {0}
