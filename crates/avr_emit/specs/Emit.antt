-- The words of instructions, and what a function asks of the bits that it reads and writes.
use Rattle.std.specs.Prelude.{ℕ, ◌+◌, ◌<◌, Bool, true, false, not, List, [], ◌∷◌, ◌++◌}
use Rattle.chip_tables.specs.Bits.{as_bit}
use Rattle.byte_code.specs.Store.{in_byte}
use Rattle.byte_code.specs.declared.prim.BitSource.{BitSource}
use Rattle.byte_code.specs.declared.prim.BitSource.TheVariants as bit
use Rattle.byte_code.specs.declared.prim.BitDest.{BitDest}
use Rattle.byte_code.specs.declared.prim.BitDest.TheVariants as dest
use Rattle.byte_code.specs.declared.prim.BitOp.{BitOp}
use Rattle.byte_code.specs.declared.prim.BitOp.TheVariants as bits
use Rattle.byte_code.specs.declared.prim.Test.{Test}
use Rattle.byte_code.specs.declared.prim.Test.TheVariants as test
use Rattle.avr_mach.specs.declared.insn.AvrInsn.{AvrInsn}
use Rattle.avr_mach.specs.Words.{size_of}
use Rattle.avr_mach.specs.declared.insn.AvrInsn.TheVariants as insn
use Rattle.avr_code.specs.Code.{Piece, Plain, Loads, Gives, Latches, Skips, word_stored, words_by}

-- the words of instructions, in order
abbrev pub insn_words : List AvrInsn → List ℕ
insn_words [] = []
insn_words (i ∷ is) = words_by (size_of i) i ++ insn_words is

-- its port, where it is at one, is there
abbrev pub HasPort : BitSource → Type 0
HasPort (bit.Cell a b) = Unit {0}
HasPort (bit.Level port b) = port < 4
HasPort (bit.Latch port b) = port < 4

abbrev pub HasLatch : BitDest → Type 0
HasLatch (dest.Cell a b) = Unit {0}
HasLatch (dest.Latch port b) = port < 4

-- the same of all bits that are read or written
abbrev pub HasPorts : BitOp → Type 0
HasPorts (bits.Put to x) = HasLatch to
HasPorts (bits.Copy to from inverted) = HasLatch to × HasPort from
HasPorts (bits.PutIf from is to x) = HasPort from × HasLatch to
HasPorts (bits.PutOnFlag kind is to x) = Unit {0}

abbrev pub HasTested : Test → Type 0
HasTested (test.Bit from is) = HasPort from
HasTested test.LoopsOn = Unit {0}
HasTested (test.Flag kind is) = Unit {0}
HasTested test.NoByte = Unit {0}
HasTested test.Sends = Unit {0}
HasTested test.Writes = Unit {0}
HasTested test.NoneWaits = Unit {0}

-- a bit of a latch takes one that is held
abbrev pub latch_taken : ℕ → ℕ → BitSource → Bool → List Piece
latch_taken port b from inverted =
    Skips from inverted ∷ Latches port (in_byte b) true ∷ Skips from (not inverted) ∷ Latches port (in_byte b) false ∷ []

-- and a wire one that was fetched
abbrev pub wire_given : ℕ → BitSource → Bool → List Piece
wire_given a from inverted =
    Plain (insn.Ldi 16 (as_bit inverted)) ∷ Skips from false ∷ Plain (insn.Ldi 16 (as_bit (not inverted))) ∷ Gives a 16 ∷ []

-- a word becomes what two instructions make of R16 and R17 and the carry, which is 1
abbrev pub changed_by : ℕ → AvrInsn → AvrInsn → List Piece
changed_by to low high = Loads 16 to ∷ Loads 17 (to + 1) ∷ Plain (insn.Bset 0) ∷ Plain low ∷ Plain high ∷ word_stored to

-- a word in registers becomes its complement and 1 more, where the sign's bit 7 is 1
abbrev pub negated : ℕ → ℕ → List Piece
negated to sign =
    Plain (insn.Sbrs sign 7) ∷ Plain (insn.Rjmp 4) ∷ Plain (insn.Com to) ∷ Plain (insn.Com (to + 1)) ∷ Plain (insn.Adc to 1) ∷ Plain (insn.Adc (to + 1) 1) ∷ []

-- and one in cells by R16 and R17
abbrev pub negated_by : ℕ → ℕ → List Piece
negated_by to sign =
    Loads 18 sign ∷ Loads 16 to ∷ Loads 17 (to + 1) ∷ Plain (insn.Sbrs 18 7) ∷ Plain (insn.Rjmp 4) ∷ Plain (insn.Com 16) ∷ Plain (insn.Com 17)
    ∷ Plain (insn.Adc 16 1) ∷ Plain (insn.Adc 17 1) ∷ word_stored to
