-- What becomes of a bit behind a test.
use Rattle.std.specs.Prelude.{Bool, not, List, [], ◌∷◌}
use Rattle.chip_tables.specs.Bits.{as_bit}
use Rattle.byte_code.specs.Store.{in_byte}
use Rattle.byte_code.specs.declared.prim.BitSource.{BitSource}
use Rattle.byte_code.specs.declared.prim.BitDest.{BitDest}
use Rattle.byte_code.specs.declared.prim.BitDest.TheVariants as dest
use Rattle.avr_mach.specs.declared.insn.AvrInsn.TheVariants as insn
use Rattle.avr_code.specs.Code.{Piece, Plain, Latches, Skips, by_cell, put_wire_if, put_byte_if}

-- where a bit is so, once it was fetched, another becomes so
abbrev pub put_where : BitSource → Bool → BitDest → Bool → List Piece
put_where from is (dest.Cell a b) x =
    by_cell a (Skips from (not is) ∷ Plain (insn.Ldi 20 (as_bit x)) ∷ []) (put_wire_if from is a x) (put_byte_if from is a (in_byte b) x)
put_where from is (dest.Latch port b) x = Skips from (not is) ∷ Latches port (in_byte b) x ∷ []
