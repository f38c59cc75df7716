-- The ATmega16's instructions for each primitive.
--
-- Once the start was done R1 holds 0; R16 to R19 hold nothing between two primitives. A word is computed in R16 and R17, its low byte first, with the other
-- operand in R18 and R19; a bit of the SRAM is tested in R18, and any other where it is. The cells below 20h are registers, and the others are in the SRAM.
use Rattle.std.specs.Prelude.{ℕ, zero, suc, ◌+◌, ◌-◌, ◌*◌, ◌/◌, ◌%◌, ◌^◌, ◌==◌, ◌&&◌, ◌||◌, not, nat_le, nat_lt, Bool, true, false, if◌then◌else◌, List, [], ◌∷◌, ◌++◌, take, slice_index}
use Rattle.chip_tables.specs.Bits.{as_bit}
use Rattle.chip_tables.specs.declared.pins.PortBit.{PortBit}
use Rattle.chip_tables.specs.declared.settings.Settings.{Settings}
use Rattle.byte_code.specs.declared.prim.BytePrim.{BytePrim}
use Rattle.byte_code.specs.declared.prim.BytePrim.TheVariants.{Start, CyclePoll, AdcPoll, Label, Jump, Call, Return, JumpWhere, Bit, Byte, Word, Compare, Device, Eeprom, Table}
use Rattle.byte_code.specs.declared.prim.Test.{Test}
use Rattle.byte_code.specs.declared.prim.Test.TheVariants as test
use Rattle.byte_code.specs.declared.prim.BitOp.{BitOp}
use Rattle.byte_code.specs.declared.prim.BitOp.TheVariants as bits
use Rattle.byte_code.specs.declared.prim.BitSource.{BitSource}
use Rattle.byte_code.specs.declared.prim.BitSource.TheVariants as bit
use Rattle.byte_code.specs.declared.prim.BitDest.{BitDest}
use Rattle.byte_code.specs.declared.prim.BitDest.TheVariants as dest
use Rattle.byte_code.specs.declared.prim.ByteOp.{ByteOp}
use Rattle.byte_code.specs.declared.prim.ByteOp.TheVariants as bytes
use Rattle.byte_code.specs.declared.prim.WordOp.{WordOp}
use Rattle.byte_code.specs.declared.prim.WordOp.TheVariants as words
use Rattle.byte_code.specs.declared.prim.WordSource.{WordSource}
use Rattle.byte_code.specs.declared.prim.WordSource.TheVariants as source
use Rattle.byte_code.specs.declared.prim.CompareOp.{CompareOp}
use Rattle.byte_code.specs.declared.prim.CompareOp.TheVariants as compares
use Rattle.byte_code.specs.declared.prim.FlagKind.{FlagKind}
use Rattle.byte_code.specs.declared.prim.FlagKind.TheVariants as kind
use Rattle.byte_code.specs.Store.{in_byte, with_bit}
use Rattle.chip_tables.specs.declared.mega16.TheConstants.{IO_FIRST, SRAM_FIRST}
use Rattle.avr_devices.specs.IoSpace.{latch_address, level_address}
use Rattle.avr_mach.specs.declared.insn.AvrInsn.{AvrInsn}
use Rattle.avr_mach.specs.declared.insn.AvrInsn.TheVariants as insn
use Rattle.avr_mach.specs.Words.{first_word, second_word, size_of}

-- what a project sets the chip to: the pins of its outputs, and the settings of its devices
pub record Board : Type 0 where
  pub outputs : List PortBit
  pub settings : Settings

-- DDRx for these outputs: a bit for each pin that is one
abbrev pub direction : List PortBit → ℕ → ℕ
direction [] port = 0
direction (p ∷ ps) port = if p.port == port then with_bit (direction ps port) (in_byte p.bit) true else direction ps port

-- An instruction; or one by which a register takes a cell, or a cell a register; by which R18 takes the register of a port's bit; by which a cell that is a
-- register takes another register; by which a bit of a latch becomes so; by which the next instruction is passed over where a bit is so; by which a register
-- takes or loses the bits of another.
pub data Piece : Type 0 where
  Plain : (i : AvrInsn) → Piece
  Loads : (r a : ℕ) → Piece
  Stores : (a r : ℕ) → Piece
  Fetches : (from : BitSource) → Piece
  Gives : (a r : ℕ) → Piece
  Latches : (port b : ℕ) (x : Bool) → Piece
  Skips : (from : BitSource) (is : Bool) → Piece
  Mixes : (d r : ℕ) (x : Bool) → Piece

-- passes over the next instruction where bit b of a register is so, or of an I/O register
abbrev pub skip_of : Bool → ℕ → ℕ → AvrInsn
skip_of true r b = insn.Sbrs r b
skip_of false r b = insn.Sbrc r b

abbrev pub io_skip : Bool → ℕ → ℕ → AvrInsn
io_skip true a b = insn.Sbis a b
io_skip false a b = insn.Sbic a b

abbrev pub insn_of : Piece → AvrInsn
insn_of (Plain i) = i
insn_of (Loads r a) = if nat_lt a IO_FIRST then insn.Mov r a else insn.Lds r a
insn_of (Stores a r) = if nat_lt a IO_FIRST then insn.Mov a r else insn.Sts a r
insn_of (Fetches (bit.Cell a b)) = if nat_lt a IO_FIRST then insn.Mov 18 a else insn.Lds 18 a
insn_of (Fetches (bit.Level port b)) = insn.In 18 (level_address port)
insn_of (Fetches (bit.Latch port b)) = insn.In 18 (latch_address port)
insn_of (Gives a r) = insn.Mov a r
insn_of (Latches port b true) = insn.Sbi (latch_address port) b
insn_of (Latches port b false) = insn.Cbi (latch_address port) b
insn_of (Skips (bit.Cell a b) is) = if nat_lt a IO_FIRST then skip_of is a (in_byte b) else skip_of is 18 (in_byte b)
insn_of (Skips (bit.Level port b) is) = io_skip is (level_address port) (in_byte b)
insn_of (Skips (bit.Latch port b) is) = io_skip is (latch_address port) (in_byte b)
insn_of (Mixes d r true) = insn.Or d r
insn_of (Mixes d r false) = insn.And d r

-- the bit of the status register that holds a comparison: S, Z and C
abbrev pub status_bit : FlagKind → ℕ
status_bit kind.Less = 4
status_bit kind.Equal = 1
status_bit kind.Below = 0

-- A wire is bit 0 of R20, or of R2 to R9; the other bits of these registers are any.
abbrev pub is_wire : ℕ → Bool
is_wire r = r == 20 || (nat_le 2 r && nat_le r 9)

-- the mask by which a bit is set or cleared
abbrev pub mask_of : Bool → ℕ → ℕ
mask_of true b = 2 ^ b
mask_of false b = 255 - 2 ^ b

-- a bit of the SRAM is fetched into R18
abbrev pub fetch_code : BitSource → List Piece
fetch_code (bit.Cell a b) = if nat_lt a IO_FIRST then [] else Loads 18 a ∷ []
fetch_code (bit.Level port b) = []
fetch_code (bit.Latch port b) = []

-- by what a cell is: the wire of R20, another wire, or a byte
abbrev pub by_cell : {X : Type 0} → ℕ → X → X → X → X
by_cell a power wire byte = if a == 20 then power else if is_wire a then wire else byte

-- R1 holds 0
abbrev pub put_wire : ℕ → Bool → List Piece
put_wire a true = Plain (insn.Ldi 16 1) ∷ Gives a 16 ∷ []
put_wire a false = Gives a 1 ∷ []

-- a byte that is a register is changed where it is
abbrev pub put_byte : ℕ → ℕ → Bool → List Piece
put_byte a b x =
    if nat_lt a IO_FIRST then Plain (insn.Ldi 17 (mask_of x b)) ∷ Mixes a 17 x ∷ []
    else Loads 16 a ∷ Plain (insn.Ldi 17 (mask_of x b)) ∷ Mixes 16 17 x ∷ Stores a 16 ∷ []

abbrev pub put_code : BitDest → Bool → List Piece
put_code (dest.Cell a b) x = by_cell a (Plain (insn.Ldi 20 (as_bit x)) ∷ []) (put_wire a x) (put_byte a (in_byte b) x)
put_code (dest.Latch port b) x = Latches port (in_byte b) x ∷ []

abbrev pub put_wire_if : BitSource → Bool → ℕ → Bool → List Piece
put_wire_if from is a true = Plain (insn.Ldi 16 1) ∷ Skips from (not is) ∷ Gives a 16 ∷ []
put_wire_if from is a false = Skips from (not is) ∷ Gives a 1 ∷ []

abbrev pub put_byte_if : BitSource → Bool → ℕ → ℕ → Bool → List Piece
put_byte_if from is a b x =
    if nat_lt a IO_FIRST then Plain (insn.Ldi 17 (mask_of x b)) ∷ Skips from (not is) ∷ Mixes a 17 x ∷ []
    else Loads 16 a ∷ Plain (insn.Ldi 17 (mask_of x b)) ∷ Skips from (not is) ∷ Mixes 16 17 x ∷ Stores a 16 ∷ []

abbrev pub put_if_code : BitSource → Bool → BitDest → Bool → List Piece
put_if_code from is (dest.Cell a b) x =
    fetch_code from ++ by_cell a (Skips from (not is) ∷ Plain (insn.Ldi 20 (as_bit x)) ∷ []) (put_wire_if from is a x) (put_byte_if from is a (in_byte b) x)
put_if_code from is (dest.Latch port b) x = fetch_code from ++ (Skips from (not is) ∷ Latches port (in_byte b) x ∷ [])

-- a level or a latch is read once, into R18, where it is tested twice
abbrev pub held_code : BitSource → List Piece
held_code (bit.Cell a b) = fetch_code (bit.Cell a b)
held_code (bit.Level port b) = Fetches (bit.Level port b) ∷ []
held_code (bit.Latch port b) = Fetches (bit.Latch port b) ∷ []

abbrev pub held_at : BitSource → BitSource
held_at (bit.Cell a b) = bit.Cell a b
held_at (bit.Level port b) = bit.Cell 18 b
held_at (bit.Latch port b) = bit.Cell 18 b

-- a wire takes a bit by way of R16
abbrev pub wire_taken : ℕ → BitSource → Bool → List Piece
wire_taken a from inverted =
    fetch_code from
    ++ (Plain (insn.Ldi 16 (as_bit inverted)) ∷ Skips from false ∷ Plain (insn.Ldi 16 (as_bit (not inverted))) ∷ Gives a 16 ∷ [])

-- or another wire as it is, whose other bits are any too
abbrev pub copy_wire : ℕ → BitSource → Bool → List Piece
copy_wire a (bit.Cell c b) inverted = if is_wire c && not inverted then Gives a c ∷ [] else wire_taken a (bit.Cell c b) inverted
copy_wire a (bit.Level port b) inverted = wire_taken a (bit.Level port b) inverted
copy_wire a (bit.Latch port b) inverted = wire_taken a (bit.Latch port b) inverted

-- the bit is set, and where it is to be cleared turned round
abbrev pub copy_byte : ℕ → ℕ → BitSource → Bool → List Piece
copy_byte a b from inverted =
    fetch_code from
    ++ (Loads 16 a ∷ Plain (insn.Ldi 17 (2 ^ b)) ∷ Mixes 16 17 true ∷ Skips from (not inverted) ∷ Plain (insn.Eor 16 17) ∷ Stores a 16 ∷ [])

-- a bit of a latch is set by one test and cleared by another, so that it takes no other value on the way
abbrev pub copy_code : BitDest → BitSource → Bool → List Piece
copy_code (dest.Cell a b) from inverted = if is_wire a then copy_wire a from inverted else copy_byte a (in_byte b) from inverted
copy_code (dest.Latch port b) from inverted =
    held_code from
    ++ (Skips (held_at from) inverted ∷ Latches port (in_byte b) true ∷ Skips (held_at from) (not inverted) ∷ Latches port (in_byte b) false ∷ [])

-- passes over one word unless the flag is so
abbrev pub unless_flag : FlagKind → Bool → Piece
unless_flag k true = Plain (insn.Brbc (status_bit k) 1)
unless_flag k false = Plain (insn.Brbs (status_bit k) 1)

-- the flag stays, so that only wires can be written
abbrev pub put_on_flag_code : FlagKind → Bool → BitDest → Bool → List Piece
put_on_flag_code k is (dest.Cell a b) x =
    by_cell a (unless_flag k is ∷ Plain (insn.Ldi 20 (as_bit x)) ∷ []) (Plain (insn.Ldi 16 (as_bit x)) ∷ unless_flag k is ∷ Gives a 16 ∷ []) []
put_on_flag_code k is (dest.Latch port b) x = []

abbrev pub bit_code : BitOp → List Piece
bit_code (bits.Put to x) = put_code to x
bit_code (bits.Copy to from inverted) = copy_code to from inverted
bit_code (bits.PutIf from is to x) = put_if_code from is to x
bit_code (bits.PutOnFlag k is to x) = put_on_flag_code k is to x

-- goes on at the place where a bit of the status register is so, and else past the jump
abbrev pub jump_on : ℕ → Bool → ℕ → List Piece
jump_on s true place = Plain (insn.Brbc s 2) ∷ Plain (insn.Jmp place) ∷ []
jump_on s false place = Plain (insn.Brbs s 2) ∷ Plain (insn.Jmp place) ∷ []

abbrev pub test_code : Test → ℕ → List Piece
test_code test.LoopsOn place = Plain (insn.Dec 21) ∷ jump_on 1 false place
test_code (test.Flag k is) place = jump_on (status_bit k) is place
test_code (test.Bit from is) place = fetch_code from ++ (Skips from (not is) ∷ Plain (insn.Jmp place) ∷ [])
test_code test.NoByte place = []
test_code test.Sends place = []
test_code test.Writes place = []
test_code test.NoneWaits place = []

-- R16 and R17, or R18 and R19, become a word
abbrev pub word_loaded : ℕ → WordSource → List Piece
word_loaded r (source.Cells a) = Loads r a ∷ Loads (r + 1) (a + 1) ∷ []
word_loaded r (source.Number low high) = Plain (insn.Ldi r low) ∷ Plain (insn.Ldi (r + 1) high) ∷ []

abbrev pub word_stored : ℕ → List Piece
word_stored a = Stores a 16 ∷ Stores (a + 1) 17 ∷ []

-- a cell that is one of the registers that LDI takes
abbrev pub takes_number : ℕ → Bool
takes_number a = nat_le 16 a && nat_lt a IO_FIRST

-- A cell becomes a number, and then the rest: 0 is that of R1, a register takes another number by itself, and any other cell by R16.
abbrev pub byte_set : ℕ → ℕ → List Piece → List Piece
byte_set a x rest =
    if x == 0 then Stores a 1 ∷ rest else if takes_number a then Plain (insn.Ldi a x) ∷ rest else Plain (insn.Ldi 16 x) ∷ Stores a 16 ∷ rest

-- A cell becomes another one, and then the rest: by R16, where none of the two is a register.
abbrev pub byte_moved : ℕ → ℕ → List Piece → List Piece
byte_moved to from rest =
    if nat_lt to IO_FIRST then Loads to from ∷ rest else if nat_lt from IO_FIRST then Stores to from ∷ rest else Loads 16 from ∷ Stores to 16 ∷ rest

-- the low byte first, but the high one where the low one would take its place
abbrev pub move_code : ℕ → WordSource → List Piece
move_code to (source.Number low high) = byte_set to low (byte_set (to + 1) high [])
move_code to (source.Cells from) =
    if to == from + 1 then byte_moved (to + 1) (from + 1) (byte_moved to from []) else byte_moved to from (byte_moved (to + 1) (from + 1) [])

abbrev pub byte_code : ByteOp → List Piece
byte_code (bytes.Put to x) = byte_set to x []
byte_code (bytes.Copy to from) = byte_moved to from []
byte_code (bytes.Xor to a b) =
    if nat_lt to IO_FIRST && (nat_lt b IO_FIRST && not (b == to)) then Loads to a ∷ Plain (insn.Eor to b) ∷ []
    else Loads 16 a ∷ Loads 17 b ∷ Plain (insn.Eor 16 17) ∷ Stores to 16 ∷ []

-- the product takes R24 and R25 by the lowest bits of R22 and R23, and the quotient the next bit
abbrev pub multiply_code : List Piece
multiply_code =
    Plain (insn.Lsr 22) ∷ Plain (insn.Brbc 0 2) ∷ Plain (insn.Add 30 24) ∷ Plain (insn.Adc 31 25) ∷ Plain (insn.Lsr 23) ∷ Plain (insn.Brbc 0 1)
    ∷ Plain (insn.Add 31 24) ∷ Plain (insn.Add 24 24) ∷ Plain (insn.Adc 25 25) ∷ []

abbrev pub divide_code : List Piece
divide_code =
    Plain (insn.Add 24 24) ∷ Plain (insn.Adc 25 25) ∷ Plain (insn.Adc 30 30) ∷ Plain (insn.Adc 31 31) ∷ Plain (insn.Cp 30 22) ∷ Plain (insn.Cpc 31 23)
    ∷ Plain (insn.Brbs 0 3) ∷ Plain (insn.Sub 30 22) ∷ Plain (insn.Sbc 31 23) ∷ Plain (insn.Inc 24) ∷ []

-- the word's complement and 1 more, where the sign's bit 7 is 1: in their place, if both are in registers
abbrev pub negate_code : ℕ → ℕ → List Piece
negate_code to sign =
    if nat_lt to IO_FIRST && nat_lt sign IO_FIRST then
    Plain (insn.Sbrs sign 7) ∷ Plain (insn.Rjmp 4) ∷ Plain (insn.Com to) ∷ Plain (insn.Com (to + 1)) ∷ Plain (insn.Adc to 1) ∷ Plain (insn.Adc (to + 1) 1) ∷
    [] else
    Loads 18 sign ∷ Loads 16 to ∷ Loads 17 (to + 1) ∷ Plain (insn.Sbrs 18 7) ∷ Plain (insn.Rjmp 4) ∷ Plain (insn.Com 16) ∷ Plain (insn.Com 17)
    ∷ Plain (insn.Adc 16 1) ∷ Plain (insn.Adc 17 1) ∷ word_stored to

-- A word is added to R16 and R17; the high byte 0 of a number is that of R1.
abbrev pub added : WordSource → List Piece
added (source.Cells b) = word_loaded 18 (source.Cells b) ++ (Plain (insn.Add 16 18) ∷ Plain (insn.Adc 17 19) ∷ [])
added (source.Number low high) =
    if high == 0 then Plain (insn.Ldi 18 low) ∷ Plain (insn.Add 16 18) ∷ Plain (insn.Adc 17 1) ∷ []
    else Plain (insn.Ldi 18 low) ∷ Plain (insn.Ldi 19 high) ∷ Plain (insn.Add 16 18) ∷ Plain (insn.Adc 17 19) ∷ []

abbrev pub word_code : WordOp → List Piece
word_code (words.Move to from) = move_code to from
word_code (words.Increment to) =
    Loads 16 to ∷ Loads 17 (to + 1) ∷ Plain (insn.Bset 0) ∷ Plain (insn.Adc 16 1) ∷ Plain (insn.Adc 17 1) ∷ word_stored to
word_code (words.Decrement to) =
    Loads 16 to ∷ Loads 17 (to + 1) ∷ Plain (insn.Bset 0) ∷ Plain (insn.Sbc 16 1) ∷ Plain (insn.Sbc 17 1) ∷ word_stored to
word_code (words.Add to a b) = word_loaded 16 (source.Cells a) ++ (added b ++ word_stored to)
word_code (words.Subtract to a b) =
    word_loaded 16 a ++ (word_loaded 18 b ++ (Plain (insn.Sub 16 18) ∷ Plain (insn.Sbc 17 19) ∷ word_stored to))
word_code (words.NegateIf to sign) = negate_code to sign
word_code words.MultiplyStep = multiply_code
word_code words.DivideStep = divide_code

-- R16 and R17 are compared with a word: one in registers stays there, of a number the low byte stands in the instruction, and the high byte 0 is that of R1
abbrev pub against : WordSource → List Piece
against (source.Cells b) =
    if nat_lt b IO_FIRST then Plain (insn.Cp 16 b) ∷ Plain (insn.Cpc 17 (b + 1)) ∷ []
    else Loads 18 b ∷ Loads 19 (b + 1) ∷ Plain (insn.Cp 16 18) ∷ Plain (insn.Cpc 17 19) ∷ []
against (source.Number low high) =
    if high == 0 then Plain (insn.Cpi 16 low) ∷ Plain (insn.Cpc 17 1) ∷ []
    else Plain (insn.Ldi 18 high) ∷ Plain (insn.Cpi 16 low) ∷ Plain (insn.Cpc 17 18) ∷ []

abbrev pub compared : ℕ → WordSource → List Piece
compared a b = word_loaded 16 (source.Cells a) ++ against b

-- a word is below 0 where its high byte is, and it is 0 where no bit of its bytes is 1
abbrev pub is_nothing : WordSource → Bool
is_nothing (source.Cells b) = false
is_nothing (source.Number low high) = low == 0 && high == 0

abbrev pub compare_code : CompareOp → List Piece
compare_code (compares.Less a b) = if is_nothing b then Loads 17 (a + 1) ∷ Plain (insn.Cp 17 1) ∷ [] else compared a b
compare_code (compares.Equal a b) = if is_nothing b then Loads 16 a ∷ Loads 17 (a + 1) ∷ Plain (insn.Or 16 17) ∷ [] else compared a b
compare_code (compares.Below a n) =
    word_loaded 16 (source.Cells a) ++ (Plain (insn.Cpi 16 n) ∷ Plain (insn.Cpc 17 1) ∷ [])

-- TIFR is read until the cycle timer's flag is in it, and written back, which clears the flag
abbrev pub poll_code : List Piece
poll_code = Plain (insn.In 16 0x38) ∷ Plain (insn.Sbrs 16 4) ∷ Plain (insn.Rjmp 4093) ∷ Plain (insn.Out 0x38 16) ∷ []

-- A becomes the value whose index is the low byte of R. It has the first value, and goes from value to value as far as the index: behind the comparison with
-- an index stand the bytes by which its value is another than the one before. An index is a byte, so that of a table the first 256 values have code.
abbrev pub next_value : ℕ → ℕ → ℕ → List Piece → List Piece
next_value i before x rest =
    if x % 256 == before % 256 then
    (if x / 256 % 256 == before / 256 % 256 then rest else Plain (insn.Cpi 30 i) ∷ Plain (insn.Brbs 0 1) ∷ Plain (insn.Ldi 25 (x / 256 % 256)) ∷ rest) else
    (if x / 256 % 256 == before / 256 % 256 then Plain (insn.Cpi 30 i) ∷ Plain (insn.Brbs 0 1) ∷ Plain (insn.Ldi 24 (x % 256)) ∷ rest else
    Plain (insn.Cpi 30 i) ∷ Plain (insn.Brbs 0 2) ∷ Plain (insn.Ldi 24 (x % 256)) ∷ Plain (insn.Ldi 25 (x / 256 % 256)) ∷ rest)

abbrev pub values_from : ℕ → ℕ → List ℕ → List Piece
values_from i before [] = []
values_from i before (x ∷ xs) = next_value i before x (values_from (i + 1) x xs)

abbrev pub table_code : List ℕ → List Piece
table_code [] = []
table_code (x ∷ xs) = Plain (insn.Ldi 24 (x % 256)) ∷ Plain (insn.Ldi 25 (x / 256 % 256)) ∷ values_from 1 x xs

-- So many bytes of the SRAM become 0, from its first on: X goes over them, and its own bytes are kept in R18 and R19. The loop ends where X is behind the
-- last of them.
abbrev pub clear_code : ℕ → List Piece
clear_code zero = []
clear_code (suc k) =
    Plain (insn.Mov 18 26) ∷ Plain (insn.Mov 19 27) ∷ Plain (insn.Ldi 26 SRAM_FIRST) ∷ Plain (insn.Ldi 27 0)
    ∷ Plain (insn.Ldi 16 ((SRAM_FIRST + suc k) / 256)) ∷ Plain (insn.St 1) ∷ Plain (insn.Cpi 26 ((SRAM_FIRST + suc k) % 256)) ∷ Plain (insn.Cpc 27 16)
    ∷ Plain (insn.Brbc 1 124) ∷ Plain (insn.Mov 26 18) ∷ Plain (insn.Mov 27 19) ∷ []

-- an I/O register takes a number
abbrev pub set_code : ℕ → ℕ → List Piece → List Piece
set_code a x rest = Plain (insn.Ldi 16 x) ∷ Plain (insn.Out a 16) ∷ rest

-- the stack pointer at the end of the SRAM, the outputs, the cycle timer without its flag, and no byte that waits for the EEPROM
abbrev pub setup_code : Board → List Piece
setup_code board =
    set_code 0x3e 4 (set_code 0x3d 0x5f
    (set_code 0x1a (direction board.outputs 0) (set_code 0x17 (direction board.outputs 1)
    (set_code 0x14 (direction board.outputs 2) (set_code 0x11 (direction board.outputs 3)
    (Plain (insn.Out 0x2f 1) ∷ set_code 0x2b (board.settings.timer.compare / 256) (set_code 0x2a (board.settings.timer.compare % 256)
    (set_code 0x2e board.settings.timer.control (set_code 0x38 16 (Plain (insn.Mov 15 1) ∷ []))))))))))

abbrev pub start_code : Board → ℕ → List Piece
start_code board n = Plain (insn.Ldi 16 0) ∷ Plain (insn.Mov 1 16) ∷ (clear_code n ++ setup_code board)

abbrev pub code_of : Board → BytePrim → List ℕ → List Piece
code_of board (CyclePoll l) labels = poll_code
code_of board (Label l) labels = []
code_of board (Jump l) labels = Plain (insn.Jmp (slice_index labels l)) ∷ []
code_of board (Call l) labels = Plain (insn.Call (slice_index labels l)) ∷ []
code_of board Return labels = Plain insn.Ret ∷ []
code_of board (JumpWhere by l) labels = test_code by (slice_index labels l)
code_of board (Byte op) labels = byte_code op
code_of board (Word op) labels = word_code op
code_of board (Compare op) labels = compare_code op
code_of board (Start n) labels = start_code board n
code_of board (AdcPoll l) labels = []
code_of board (Bit op) labels = bit_code op
code_of board (Device op) labels = []
code_of board (Eeprom op) labels = []
code_of board (Table values l) labels = table_code (take 256 values)

-- the words that stand in flash for an instruction, the first one and what may follow it
abbrev pub words_by : ℕ → AvrInsn → List ℕ
words_by size i = if size == 2 then first_word i ∷ second_word i ∷ [] else first_word i ∷ []

abbrev pub words_of : List Piece → List ℕ
words_of [] = []
words_of (p ∷ ps) = words_by (size_of (insn_of p)) (insn_of p) ++ words_of ps

abbrev pub size_in : List Piece → ℕ
size_in [] = 0
size_in (p ∷ ps) = size_of (insn_of p) + size_in ps

-- how many words a primitive takes, wherever it stands
abbrev pub word_count : Board → BytePrim → ℕ
word_count board p = size_in (code_of board p [])

-- a latch is written in two cycles by one word
abbrev pub latch_cycles : BitDest → ℕ
latch_cycles (dest.Cell a b) = 0
latch_cycles (dest.Latch port b) = 1

abbrev pub bit_cycles : BitOp → ℕ
bit_cycles (bits.Put to x) = latch_cycles to
bit_cycles (bits.Copy to from inverted) = latch_cycles to
bit_cycles (bits.PutIf from is to x) = latch_cycles to
bit_cycles (bits.PutOnFlag k is to x) = latch_cycles to

-- An instruction takes as many cycles as it has words, but JMP, CALL and RET, branches and the writes of latches take more; and the start's loop of four words
-- takes six cycles a byte, but one less for the last.
abbrev pub more_cycles : BytePrim → ℕ
more_cycles (Jump l) = 1
more_cycles (Call l) = 2
more_cycles Return = 3
more_cycles (JumpWhere by l) = 1
more_cycles (CyclePoll l) = 0
more_cycles (Label l) = 0
more_cycles (Byte op) = 0
more_cycles (Word op) = 0
more_cycles (Compare op) = 0
more_cycles (Start n) = 6 * n - 5
more_cycles (AdcPoll l) = 0
more_cycles (Bit op) = bit_cycles op
more_cycles (Device op) = 0
more_cycles (Eeprom op) = 0
more_cycles (Table values l) = 0

abbrev pub cycle_count : Board → BytePrim → ℕ
cycle_count board p = word_count board p + more_cycles p
