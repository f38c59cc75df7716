-- The AVR's table of instructions: AVR Instruction Set Manual, the opcode of each instruction.
use Rattle.std.specs.Prelude.{ℕ, ◌+◌, List, [], ◌∷◌, Option, position, map, slice_get, option_and_then}
use Rattle.insn_rows.specs.declared.rows.InsnRow.{InsnRow}
use Rattle.insn_rows.specs.declared.avr.AvrKind.{AvrKind}
use Rattle.insn_rows.specs.declared.avr.AvrKind.TheVariants.{Add, Adc, Sub, Sbc, Cp, Cpc, And, Eor, Or, Mov, Cpi, Ldi, Com, Inc, Lsr, Ror, Dec, Brbs, Brbc, Bset, Bclr, Rjmp, Rcall, Jmp, Call, Ret, In, Out, Cbi, Sbi, Sbic, Sbis, Sbrc, Sbrs, Lds, Sts, Ldd, Std, St, Nop}
use Rattle.insn_rows.specs.Rows.{is_match}

-- an instruction, the bits of its word that are fixed, and their values
pub record AvrForm : Type 0 where
  pub kind : AvrKind
  pub mask : ℕ
  pub bits : ℕ

abbrev pub form : AvrKind → ℕ → ℕ → AvrForm
form kind mask bits = record { kind = kind; mask = mask; bits = bits }

abbrev pub avr_forms : List AvrForm
avr_forms =
    form Add 0xfc00 0x0c00
    ∷ form Adc 0xfc00 0x1c00
    ∷ form Sub 0xfc00 0x1800
    ∷ form Sbc 0xfc00 0x0800
    ∷ form Cp 0xfc00 0x1400
    ∷ form Cpc 0xfc00 0x0400
    ∷ form And 0xfc00 0x2000
    ∷ form Eor 0xfc00 0x2400
    ∷ form Or 0xfc00 0x2800
    ∷ form Mov 0xfc00 0x2c00
    ∷ form Cpi 0xf000 0x3000
    ∷ form Ldi 0xf000 0xe000
    ∷ form Com 0xfe0f 0x9400
    ∷ form Inc 0xfe0f 0x9403
    ∷ form Lsr 0xfe0f 0x9406
    ∷ form Ror 0xfe0f 0x9407
    ∷ form Dec 0xfe0f 0x940a
    ∷ form Brbs 0xfc00 0xf000
    ∷ form Brbc 0xfc00 0xf400
    ∷ form Bset 0xff8f 0x9408
    ∷ form Bclr 0xff8f 0x9488
    ∷ form Rjmp 0xf000 0xc000
    ∷ form Rcall 0xf000 0xd000
    ∷ form Jmp 0xfe0e 0x940c
    ∷ form Call 0xfe0e 0x940e
    ∷ form Ret 0xffff 0x9508
    ∷ form In 0xf800 0xb000
    ∷ form Out 0xf800 0xb800
    ∷ form Cbi 0xff00 0x9800
    ∷ form Sbi 0xff00 0x9a00
    ∷ form Sbic 0xff00 0x9900
    ∷ form Sbis 0xff00 0x9b00
    ∷ form Sbrc 0xfe08 0xfc00
    ∷ form Sbrs 0xfe08 0xfe00
    ∷ form Lds 0xfe0f 0x9000
    ∷ form Sts 0xfe0f 0x9200
    ∷ form Ldd 0xd208 0x8008
    ∷ form Std 0xd208 0x8208
    ∷ form St 0xfe0f 0x920d
    ∷ form Nop 0xffff 0x0000
    ∷ []

-- the rows of the forms, numbered from here on
abbrev pub rows_from : ℕ → List AvrForm → List InsnRow
rows_from number [] = []
rows_from number (f ∷ fs) =
    record { mask = f.mask; bits = f.bits; kind = number } ∷ rows_from (number + 1) fs

abbrev pub avr_rows : List InsnRow
avr_rows = rows_from 0 avr_forms

-- the instruction of the first row that the word matches
abbrev pub avr_kind_of : ℕ → Option AvrKind
avr_kind_of word =
    option_and_then (slice_get (map (λ f. f.kind) avr_forms)) (position (is_match word) avr_rows)
