-- What a word of program flash stands for: PIC16F87X Data Sheet, "Instruction Set Summary", the fields of each word.
use Rattle.std.specs.Prelude.{ℕ, ◌/◌, ◌%◌, ◌<◌, if◌then◌else◌, Option, option_map}
use Rattle.chip_tables.specs.Bits.{bit_of}
use Rattle.insn_rows.specs.declared.pic.PicKind.{PicKind}
use Rattle.insn_rows.specs.Pic.{pic_kind_of}
use Rattle.pic16_mach.specs.declared.insn.Destination.{Destination}
use Rattle.pic16_mach.specs.declared.insn.Destination.TheVariants.{W, File}
use Rattle.pic16_mach.specs.declared.insn.PicInsn.{PicInsn}
use Rattle.pic16_mach.specs.declared.insn.PicInsn.TheVariants.{Addwf, Andwf, Clrf, Clrw, Comf, Decf, Decfsz, Incf, Incfsz, Iorwf, Movf, Movwf, Nop, Rlf, Rrf, Subwf, Swapf, Xorwf, Bcf, Bsf, Btfsc, Btfss, Addlw, Andlw, Iorlw, Movlw, Sublw, Xorlw, Call, Goto, Retlw, Return, Retfie, Clrwdt, Sleep}

-- the fields of a word: a file register of the bank, where the result goes, and a bit of a byte
abbrev pub file_of : ℕ → ℕ
file_of w = w % 128

abbrev pub destination_of : ℕ → Destination
destination_of w = if bit_of w 7 then File else W

abbrev pub bit_field : ℕ → ℕ
bit_field w = w / 128 % 8

-- a word of this kind
abbrev pub insn_of : PicKind → ℕ → PicInsn
insn_of PicKind.Addwf w = Addwf (file_of w) (destination_of w)
insn_of PicKind.Andwf w = Andwf (file_of w) (destination_of w)
insn_of PicKind.Clrf w = Clrf (file_of w)
insn_of PicKind.Clrw w = Clrw
insn_of PicKind.Comf w = Comf (file_of w) (destination_of w)
insn_of PicKind.Decf w = Decf (file_of w) (destination_of w)
insn_of PicKind.Decfsz w = Decfsz (file_of w) (destination_of w)
insn_of PicKind.Incf w = Incf (file_of w) (destination_of w)
insn_of PicKind.Incfsz w = Incfsz (file_of w) (destination_of w)
insn_of PicKind.Iorwf w = Iorwf (file_of w) (destination_of w)
insn_of PicKind.Movf w = Movf (file_of w) (destination_of w)
insn_of PicKind.Movwf w = Movwf (file_of w)
insn_of PicKind.Nop w = Nop
insn_of PicKind.Rlf w = Rlf (file_of w) (destination_of w)
insn_of PicKind.Rrf w = Rrf (file_of w) (destination_of w)
insn_of PicKind.Subwf w = Subwf (file_of w) (destination_of w)
insn_of PicKind.Swapf w = Swapf (file_of w) (destination_of w)
insn_of PicKind.Xorwf w = Xorwf (file_of w) (destination_of w)
insn_of PicKind.Bcf w = Bcf (file_of w) (bit_field w)
insn_of PicKind.Bsf w = Bsf (file_of w) (bit_field w)
insn_of PicKind.Btfsc w = Btfsc (file_of w) (bit_field w)
insn_of PicKind.Btfss w = Btfss (file_of w) (bit_field w)
insn_of PicKind.Addlw w = Addlw (w % 256)
insn_of PicKind.Andlw w = Andlw (w % 256)
insn_of PicKind.Iorlw w = Iorlw (w % 256)
insn_of PicKind.Movlw w = Movlw (w % 256)
insn_of PicKind.Sublw w = Sublw (w % 256)
insn_of PicKind.Xorlw w = Xorlw (w % 256)
insn_of PicKind.Call w = Call (w % 2048)
insn_of PicKind.Goto w = Goto (w % 2048)
insn_of PicKind.Retlw w = Retlw (w % 256)
insn_of PicKind.Return w = Return
insn_of PicKind.Retfie w = Retfie
insn_of PicKind.Clrwdt w = Clrwdt
insn_of PicKind.Sleep w = Sleep

-- what a word stands for, where it matches a row
abbrev pub pic_decode : ℕ → Option PicInsn
pic_decode w = option_map (λ kind. insn_of kind w) (pic_kind_of w)

-- each field is within its bits
abbrev pub FieldsFit : PicInsn → Type 0
FieldsFit (Addwf f d) = f < 128
FieldsFit (Andwf f d) = f < 128
FieldsFit (Clrf f) = f < 128
FieldsFit Clrw = Unit {0}
FieldsFit (Comf f d) = f < 128
FieldsFit (Decf f d) = f < 128
FieldsFit (Decfsz f d) = f < 128
FieldsFit (Incf f d) = f < 128
FieldsFit (Incfsz f d) = f < 128
FieldsFit (Iorwf f d) = f < 128
FieldsFit (Movf f d) = f < 128
FieldsFit (Movwf f) = f < 128
FieldsFit Nop = Unit {0}
FieldsFit (Rlf f d) = f < 128
FieldsFit (Rrf f d) = f < 128
FieldsFit (Subwf f d) = f < 128
FieldsFit (Swapf f d) = f < 128
FieldsFit (Xorwf f d) = f < 128
FieldsFit (Bcf f b) = (f < 128) × (b < 8)
FieldsFit (Bsf f b) = (f < 128) × (b < 8)
FieldsFit (Btfsc f b) = (f < 128) × (b < 8)
FieldsFit (Btfss f b) = (f < 128) × (b < 8)
FieldsFit (Addlw k) = k < 256
FieldsFit (Andlw k) = k < 256
FieldsFit (Iorlw k) = k < 256
FieldsFit (Movlw k) = k < 256
FieldsFit (Sublw k) = k < 256
FieldsFit (Xorlw k) = k < 256
FieldsFit (Call k) = k < 2048
FieldsFit (Goto k) = k < 2048
FieldsFit (Retlw k) = k < 256
FieldsFit Return = Unit {0}
FieldsFit Retfie = Unit {0}
FieldsFit Clrwdt = Unit {0}
FieldsFit Sleep = Unit {0}
