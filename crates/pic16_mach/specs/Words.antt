-- The word of an instruction, and what it is to read it back.
use Rattle.std.specs.Prelude.{◌≡◌, ℕ, ◌+◌, ◌*◌, Some}
use Rattle.pic16_mach.specs.declared.insn.Destination.{Destination}
use Rattle.pic16_mach.specs.declared.insn.Destination.TheVariants.{W, File}
use Rattle.pic16_mach.specs.declared.insn.PicInsn.{PicInsn}
use Rattle.pic16_mach.specs.declared.insn.PicInsn.TheVariants.{Addwf, Andwf, Clrf, Clrw, Comf, Decf, Decfsz, Incf, Incfsz, Iorwf, Movf, Movwf, Nop, Rlf, Rrf, Subwf, Swapf, Xorwf, Bcf, Bsf, Btfsc, Btfss, Addlw, Andlw, Iorlw, Movlw, Sublw, Xorlw, Call, Goto, Retlw, Return, Retfie, Clrwdt, Sleep}
use Rattle.pic16_mach.specs.Insn.{pic_decode}

-- bit 7 of a word: the result goes to the file register
abbrev pub destination_bit : Destination → ℕ
destination_bit W = 0
destination_bit File = 1

-- fixed bits with a file register and a destination
abbrev pub file_word : ℕ → ℕ → Destination → ℕ
file_word bits f d = bits + (destination_bit d * 128 + f)

-- bits that have no meaning in an instruction are 0
abbrev pub pic_word : PicInsn → ℕ
pic_word (Addwf f d) = file_word 0x0700 f d
pic_word (Andwf f d) = file_word 0x0500 f d
pic_word (Clrf f) = 0x0180 + f
pic_word Clrw = 0x0100
pic_word (Comf f d) = file_word 0x0900 f d
pic_word (Decf f d) = file_word 0x0300 f d
pic_word (Decfsz f d) = file_word 0x0b00 f d
pic_word (Incf f d) = file_word 0x0a00 f d
pic_word (Incfsz f d) = file_word 0x0f00 f d
pic_word (Iorwf f d) = file_word 0x0400 f d
pic_word (Movf f d) = file_word 0x0800 f d
pic_word (Movwf f) = 0x0080 + f
pic_word Nop = 0x0000
pic_word (Rlf f d) = file_word 0x0d00 f d
pic_word (Rrf f d) = file_word 0x0c00 f d
pic_word (Subwf f d) = file_word 0x0200 f d
pic_word (Swapf f d) = file_word 0x0e00 f d
pic_word (Xorwf f d) = file_word 0x0600 f d
pic_word (Bcf f b) = 0x1000 + (b * 128 + f)
pic_word (Bsf f b) = 0x1400 + (b * 128 + f)
pic_word (Btfsc f b) = 0x1800 + (b * 128 + f)
pic_word (Btfss f b) = 0x1c00 + (b * 128 + f)
pic_word (Addlw k) = 0x3e00 + k
pic_word (Andlw k) = 0x3900 + k
pic_word (Iorlw k) = 0x3800 + k
pic_word (Movlw k) = 0x3000 + k
pic_word (Sublw k) = 0x3c00 + k
pic_word (Xorlw k) = 0x3a00 + k
pic_word (Call k) = 0x2000 + k
pic_word (Goto k) = 0x2800 + k
pic_word (Retlw k) = 0x3400 + k
pic_word Return = 0x0008
pic_word Retfie = 0x0009
pic_word Clrwdt = 0x0064
pic_word Sleep = 0x0063

-- its word is read as the instruction
abbrev pub DecodesBack : PicInsn → Type 0
DecodesBack i = pic_decode (pic_word i) ≡ Some i
