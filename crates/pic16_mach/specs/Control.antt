-- Jumps, calls, returns and skips, and why an instruction has no step: PIC16F87X Data Sheet, "Instruction Descriptions" and "Stack".
use Rattle.std.specs.Prelude.{ℕ, ◌+◌, ◌-◌, ◌*◌, ◌/◌, ◌%◌, ◌<◌, ◌≤◌, nat_lt, nat_le, ◌&&◌, Bool, if◌then◌else◌, Option, Some, None, slice_index, slice_set}
use Rattle.chip_tables.specs.declared.outside.StuckCause.{StuckCause}
use Rattle.chip_tables.specs.declared.outside.StuckCause.TheVariants.{StackDepth, Undefined}
use Rattle.pic16_mach.specs.declared.insn.PicInsn.{PicInsn}
use Rattle.pic16_mach.specs.declared.insn.PicInsn.TheVariants.{Addwf, Andwf, Clrf, Clrw, Comf, Decf, Decfsz, Incf, Incfsz, Iorwf, Movf, Movwf, Nop, Rlf, Rrf, Subwf, Swapf, Xorwf, Bcf, Bsf, Btfsc, Btfss, Addlw, Andlw, Iorlw, Movlw, Sublw, Xorlw, Call, Goto, Retlw, Return, Retfie, Clrwdt, Sleep}
use Rattle.pic16_mach.specs.declared.state.PicState.{PicState}
use Rattle.pic16_mach.specs.declared.state.Acted.{Acted}
use Rattle.pic16_mach.specs.declared.state.Flow.{Flow}
use Rattle.pic16_mach.specs.declared.state.Flow.TheVariants.{Next, Skip, To}
use Rattle.pic16_mach.specs.declared.state.TheConstants.{STACK_PLACES}
use Rattle.pic16_mach.specs.State.{After, after}

-- CALL and GOTO go to bits 4:3 of PCLATH before the eleven bits of the instruction
abbrev pub paged : PicState → ℕ → ℕ
paged m k = m.pclath / 8 % 4 * 2048 + k

-- the place to return to is kept
abbrev pub with_call : PicState → ℕ → PicState
with_call m back = record m { stack = slice_set m.stack m.depth back; depth = m.depth + 1 }

abbrev pub return_place : PicState → ℕ
return_place m = slice_index m.stack (m.depth - 1)

abbrev pub returned : PicState → After
returned m = after (record m { depth = m.depth - 1 }) (To (return_place m)) 2

-- a skip goes on behind the place to which the instruction goes itself
abbrev pub past : Flow → Flow
past Next = Skip
past Skip = Skip
past (To place) = To (place + 1)

-- an instruction skips where a test holds
abbrev pub skipped : Acted → Bool → Acted
skipped acted test = if test then record acted { flow = past acted.flow; cycles = 2 } else acted

abbrev pub skip_if : After → Bool → After
skip_if a test = record a { acted = skipped a.acted test }

-- the stack keeps eight places
abbrev pub call_obstacle : PicState → Option StuckCause
call_obstacle m = if nat_lt m.depth STACK_PLACES then None else Some StackDepth

abbrev pub return_obstacle : PicState → Option StuckCause
return_obstacle m = if nat_lt 0 m.depth && nat_le m.depth STACK_PLACES then None else Some StackDepth

-- why an instruction has no step; this machine has no interrupts, no watchdog and no sleep
abbrev pub obstacle : PicInsn → PicState → Option StuckCause
obstacle (Addwf f d) m = None
obstacle (Andwf f d) m = None
obstacle (Clrf f) m = None
obstacle Clrw m = None
obstacle (Comf f d) m = None
obstacle (Decf f d) m = None
obstacle (Decfsz f d) m = None
obstacle (Incf f d) m = None
obstacle (Incfsz f d) m = None
obstacle (Iorwf f d) m = None
obstacle (Movf f d) m = None
obstacle (Movwf f) m = None
obstacle Nop m = None
obstacle (Rlf f d) m = None
obstacle (Rrf f d) m = None
obstacle (Subwf f d) m = None
obstacle (Swapf f d) m = None
obstacle (Xorwf f d) m = None
obstacle (Bcf f b) m = None
obstacle (Bsf f b) m = None
obstacle (Btfsc f b) m = None
obstacle (Btfss f b) m = None
obstacle (Addlw k) m = None
obstacle (Andlw k) m = None
obstacle (Iorlw k) m = None
obstacle (Movlw k) m = None
obstacle (Sublw k) m = None
obstacle (Xorlw k) m = None
obstacle (Call k) m = call_obstacle m
obstacle (Goto k) m = None
obstacle (Retlw k) m = return_obstacle m
obstacle Return m = return_obstacle m
obstacle Retfie m = Some Undefined
obstacle Clrwdt m = Some Undefined
obstacle Sleep m = Some Undefined

-- the stack has room for the place, or a place to give
abbrev pub HasRoom : PicInsn → PicState → Type 0
HasRoom (Addwf f d) m = Unit {0}
HasRoom (Andwf f d) m = Unit {0}
HasRoom (Clrf f) m = Unit {0}
HasRoom Clrw m = Unit {0}
HasRoom (Comf f d) m = Unit {0}
HasRoom (Decf f d) m = Unit {0}
HasRoom (Decfsz f d) m = Unit {0}
HasRoom (Incf f d) m = Unit {0}
HasRoom (Incfsz f d) m = Unit {0}
HasRoom (Iorwf f d) m = Unit {0}
HasRoom (Movf f d) m = Unit {0}
HasRoom (Movwf f) m = Unit {0}
HasRoom Nop m = Unit {0}
HasRoom (Rlf f d) m = Unit {0}
HasRoom (Rrf f d) m = Unit {0}
HasRoom (Subwf f d) m = Unit {0}
HasRoom (Swapf f d) m = Unit {0}
HasRoom (Xorwf f d) m = Unit {0}
HasRoom (Bcf f b) m = Unit {0}
HasRoom (Bsf f b) m = Unit {0}
HasRoom (Btfsc f b) m = Unit {0}
HasRoom (Btfss f b) m = Unit {0}
HasRoom (Addlw k) m = Unit {0}
HasRoom (Andlw k) m = Unit {0}
HasRoom (Iorlw k) m = Unit {0}
HasRoom (Movlw k) m = Unit {0}
HasRoom (Sublw k) m = Unit {0}
HasRoom (Xorlw k) m = Unit {0}
HasRoom (Call k) m = m.depth < STACK_PLACES
HasRoom (Goto k) m = Unit {0}
HasRoom (Retlw k) m = (0 < m.depth) × (m.depth ≤ STACK_PLACES)
HasRoom Return m = (0 < m.depth) × (m.depth ≤ STACK_PLACES)
HasRoom Retfie m = Unit {0}
HasRoom Clrwdt m = Unit {0}
HasRoom Sleep m = Unit {0}
