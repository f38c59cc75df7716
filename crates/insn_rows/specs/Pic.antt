-- The table of instructions of the mid-range PIC, with words of 14 bits: PIC16F87X Data Sheet, "Instruction Set Summary".
use Rattle.std.specs.Prelude.{ℕ, ◌+◌, List, [], ◌∷◌, Option, position, map, slice_get, option_and_then}
use Rattle.insn_rows.specs.declared.rows.InsnRow.{InsnRow}
use Rattle.insn_rows.specs.declared.pic.PicKind.{PicKind}
use Rattle.insn_rows.specs.declared.pic.PicKind.TheVariants.{Addwf, Andwf, Clrf, Clrw, Comf, Decf, Decfsz, Incf, Incfsz, Iorwf, Movf, Movwf, Nop, Rlf, Rrf, Subwf, Swapf, Xorwf, Bcf, Bsf, Btfsc, Btfss, Addlw, Andlw, Iorlw, Movlw, Sublw, Xorlw, Call, Goto, Retlw, Return, Retfie, Clrwdt, Sleep}
use Rattle.insn_rows.specs.Rows.{is_match}

-- an instruction, the bits of its word that are fixed, and their values
pub record PicForm : Type 0 where
  pub kind : PicKind
  pub mask : ℕ
  pub bits : ℕ

abbrev pub pic_form : PicKind → ℕ → ℕ → PicForm
pic_form kind mask bits = record { kind = kind; mask = mask; bits = bits }

abbrev pub pic_forms : List PicForm
pic_forms =
    pic_form Addwf 0x3f00 0x0700
    ∷ pic_form Andwf 0x3f00 0x0500
    ∷ pic_form Clrf 0x3f80 0x0180
    ∷ pic_form Clrw 0x3f80 0x0100
    ∷ pic_form Comf 0x3f00 0x0900
    ∷ pic_form Decf 0x3f00 0x0300
    ∷ pic_form Decfsz 0x3f00 0x0b00
    ∷ pic_form Incf 0x3f00 0x0a00
    ∷ pic_form Incfsz 0x3f00 0x0f00
    ∷ pic_form Iorwf 0x3f00 0x0400
    ∷ pic_form Movf 0x3f00 0x0800
    ∷ pic_form Movwf 0x3f80 0x0080
    ∷ pic_form Nop 0x3f9f 0x0000
    ∷ pic_form Rlf 0x3f00 0x0d00
    ∷ pic_form Rrf 0x3f00 0x0c00
    ∷ pic_form Subwf 0x3f00 0x0200
    ∷ pic_form Swapf 0x3f00 0x0e00
    ∷ pic_form Xorwf 0x3f00 0x0600
    ∷ pic_form Bcf 0x3c00 0x1000
    ∷ pic_form Bsf 0x3c00 0x1400
    ∷ pic_form Btfsc 0x3c00 0x1800
    ∷ pic_form Btfss 0x3c00 0x1c00
    ∷ pic_form Addlw 0x3e00 0x3e00
    ∷ pic_form Andlw 0x3f00 0x3900
    ∷ pic_form Iorlw 0x3f00 0x3800
    ∷ pic_form Movlw 0x3c00 0x3000
    ∷ pic_form Sublw 0x3e00 0x3c00
    ∷ pic_form Xorlw 0x3f00 0x3a00
    ∷ pic_form Call 0x3800 0x2000
    ∷ pic_form Goto 0x3800 0x2800
    ∷ pic_form Retlw 0x3c00 0x3400
    ∷ pic_form Return 0x3fff 0x0008
    ∷ pic_form Retfie 0x3fff 0x0009
    ∷ pic_form Clrwdt 0x3fff 0x0064
    ∷ pic_form Sleep 0x3fff 0x0063
    ∷ []

-- the rows of the forms, numbered from here on
abbrev pub pic_rows_from : ℕ → List PicForm → List InsnRow
pic_rows_from number [] = []
pic_rows_from number (f ∷ fs) =
    record { mask = f.mask; bits = f.bits; kind = number } ∷ pic_rows_from (number + 1) fs

abbrev pub pic_rows : List InsnRow
pic_rows = pic_rows_from 0 pic_forms

-- the instruction of the first row that the word matches
abbrev pub pic_kind_of : ℕ → Option PicKind
pic_kind_of word =
    option_and_then (slice_get (map (λ f. f.kind) pic_forms)) (position (is_match word) pic_rows)
