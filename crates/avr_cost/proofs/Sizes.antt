-- The words of the ATmega16's code for each primitive are within those of its kind.
use Rattle.std.proofs.Common.{◌≡◌, ℕ, zero, suc, ◌+◌, ◌*◌, ◌/◌, ◌%◌, ◌^◌, ◌≤◌, Bool, true, false, cond, List, [], ◌∷◌, ◌++◌, length, refl, ap, arith}
use Rattle.std.proofs.lemmas.Bool.Decides.{nat_tests}
use Rattle.std.specs.Prelude.{◌==◌, ◌&&◌, not, nat_lt, if◌then◌else◌}
use Rattle.chip_tables.specs.Bits.{as_bit}
use Rattle.chip_tables.specs.declared.mega16.TheConstants.{IO_FIRST}
use Rattle.chip_tables.specs.declared.target.Target.TheVariants.{Mega16}
use Rattle.byte_code.specs.Admitted.{is_scratch}
use Rattle.byte_code.specs.Kinds.{reads_scratch, writes_scratch, word_kind}
use Rattle.byte_code.specs.Store.{in_byte}
use Rattle.byte_code.specs.declared.prim.BitSource.{BitSource}
use Rattle.byte_code.specs.declared.prim.BitSource.TheVariants as source
use Rattle.byte_code.specs.declared.prim.BitDest.{BitDest}
use Rattle.byte_code.specs.declared.prim.BitDest.TheVariants as dest
use Rattle.byte_code.specs.declared.prim.ByteOp.TheVariants as bytes
use Rattle.byte_code.specs.declared.prim.CompareOp.TheVariants as compares
use Rattle.byte_code.specs.declared.prim.WordOp.{WordOp}
use Rattle.byte_code.specs.declared.prim.WordOp.TheVariants as words
use Rattle.byte_code.specs.declared.prim.WordSource.{WordSource}
use Rattle.byte_code.specs.declared.prim.WordSource.TheVariants.{Cells, Number}
use Rattle.avr_mach.specs.Words.{size_of}
use Rattle.avr_mach.specs.declared.insn.AvrInsn.{AvrInsn}
use Rattle.avr_mach.specs.declared.insn.AvrInsn.TheVariants as insn
use Rattle.avr_code.specs.Code.{Board, Piece, Plain, Loads, Stores, Gives, Latches, Skips, Mixes, insn_of, is_wire, mask_of, skip_of, io_skip, by_cell, fetch_code, held_code, held_at, put_wire, put_byte, put_code, put_wire_if, put_byte_if, put_if_code, wire_taken, copy_wire, copy_byte, copy_code, takes_number, byte_set, byte_moved, move_code, byte_code, word_loaded, word_stored, added, against, compared, is_nothing, compare_code, negate_code, word_code, next_value, values_from, table_code, start_code, size_in}
use Rattle.avr_cost.specs.Taken.{fetch_words, kind_words}

-- the words of a piece
abbrev pub of_piece : Piece → ℕ
of_piece p = size_of (insn_of p)

loads_two : (r a : ℕ) → of_piece (Loads r a) ≤ 2
loads_two r a = by (nat_lt a IO_FIRST)
  where
    by : (b : Bool) → size_of (if b then insn.Mov r a else insn.Lds r a) ≤ 2
    by true = omega arith
    by false = omega arith

stores_two : (a r : ℕ) → of_piece (Stores a r) ≤ 2
stores_two a r = by (nat_lt a IO_FIRST)
  where
    by : (b : Bool) → size_of (if b then insn.Mov a r else insn.Sts a r) ≤ 2
    by true = omega arith
    by false = omega arith

-- of a register it is one
loads_one : (r a : ℕ) → nat_lt a IO_FIRST ≡ true → of_piece (Loads r a) ≡ 1
loads_one r a e = ap (λ b. size_of (if b then insn.Mov r a else insn.Lds r a)) e

stores_one : (a r : ℕ) → nat_lt a IO_FIRST ≡ true → of_piece (Stores a r) ≡ 1
stores_one a r e = ap (λ b. size_of (if b then insn.Mov a r else insn.Sts a r)) e

skip_one : (is : Bool) (r b : ℕ) → size_of (skip_of is r b) ≡ 1
skip_one true r b = refl
skip_one false r b = refl

io_one : (is : Bool) (a b : ℕ) → size_of (io_skip is a b) ≡ 1
io_one true a b = refl
io_one false a b = refl

skips_one : (from : BitSource) (is : Bool) → of_piece (Skips from is) ≡ 1
skips_one (source.Cell a b) is = by (nat_lt a IO_FIRST)
  where
    by : (l : Bool) → size_of (if l then skip_of is a (in_byte b) else skip_of is 18 (in_byte b)) ≡ 1
    by true = skip_one is a (in_byte b)
    by false = skip_one is 18 (in_byte b)
skips_one (source.Level port b) is = io_one is _ (in_byte b)
skips_one (source.Latch port b) is = io_one is _ (in_byte b)

mixes_one : (d r : ℕ) (x : Bool) → of_piece (Mixes d r x) ≡ 1
mixes_one d r true = refl
mixes_one d r false = refl

latches_one : (port b : ℕ) (x : Bool) → of_piece (Latches port b x) ≡ 1
latches_one port b true = refl
latches_one port b false = refl

pub size_append : (xs ys : List Piece) → size_in (xs ++ ys) ≡ size_in xs + size_in ys
size_append [] ys = omega arith
size_append (x ∷ xs) ys = let e = size_append xs ys in omega (arith, e)

either_size : (b : Bool) (xs ys : List Piece) (n : ℕ) → size_in xs ≤ n → size_in ys ≤ n → size_in (if b then xs else ys) ≤ n
either_size true xs ys n h g = h
either_size false xs ys n h g = g

by_cell_size : (a : ℕ) (xs ys zs : List Piece) (n : ℕ) → size_in xs ≤ n → size_in ys ≤ n → size_in zs ≤ n → size_in (by_cell a xs ys zs) ≤ n
by_cell_size a xs ys zs n h g f = by (a == 20) (is_wire a)
  where
    by : (b c : Bool) → size_in (if b then xs else if c then ys else zs) ≤ n
    by true c = h
    by false true = g
    by false false = f

-- the compiler's own cells are registers
own_low : (a : ℕ) → is_scratch Mega16 a ≡ true → nat_lt a IO_FIRST ≡ true
own_low a e = grind (arith, nat_tests, e)

near_le : (s l : Bool) (m n : ℕ) → (s ≡ true → l ≡ true) → m ≤ n → cond l m n ≤ cond s m n
near_le true l m n h le = let e : cond l m n ≡ m = ap (λ b. cond b m n) (h refl) in omega (arith, e)
near_le false true m n h le = le
near_le false false m n h le = omega arith

own_le : (a m n : ℕ) → m ≤ n → cond (nat_lt a IO_FIRST) m n ≤ cond (is_scratch Mega16 a) m n
own_le a m n le = near_le (is_scratch Mega16 a) (nat_lt a IO_FIRST) m n (own_low a) le

-- bits
cell_fetch : (a : ℕ) → size_in (if nat_lt a IO_FIRST then [] else Loads 18 a ∷ []) ≤ cond (nat_lt a IO_FIRST) 0 2
cell_fetch a = let two = loads_two 18 a in by (nat_lt a IO_FIRST) two
  where
    by : (l : Bool) → of_piece (Loads 18 a) ≤ 2 → size_in (if l then [] else Loads 18 a ∷ []) ≤ cond l 0 2
    by true h = omega arith
    by false h = omega (arith, h)

fetch_size : (from : BitSource) → size_in (fetch_code from) ≤ fetch_words (reads_scratch Mega16 from)
fetch_size (source.Cell a b) = let h = cell_fetch a in let le = own_le a 0 2 (omega arith) in omega (arith, h, le)
fetch_size (source.Level port b) = omega arith
fetch_size (source.Latch port b) = omega arith

held_size : (from : BitSource) → size_in (held_code from) ≤ fetch_words (reads_scratch Mega16 from)
held_size (source.Cell a b) = fetch_size (source.Cell a b)
held_size (source.Level port b) = omega arith
held_size (source.Latch port b) = omega arith

pub test_size : (from : BitSource) (is : Bool) (place : ℕ) →
    size_in (fetch_code from ++ (Skips from (not is) ∷ Plain (insn.Jmp place) ∷ [])) ≤ fetch_words (reads_scratch Mega16 from) + 3
test_size from is place =
    let a = size_append (fetch_code from) (Skips from (not is) ∷ Plain (insn.Jmp place) ∷ []) in
    let b = fetch_size from in
    let c = skips_one from (not is) in
    omega (arith, a, b, c)

put_wire_size : (a : ℕ) (x : Bool) → size_in (put_wire a x) ≤ 2
put_wire_size a true = omega arith
put_wire_size a false = omega arith

put_byte_size : (a b : ℕ) (x : Bool) → size_in (put_byte a b x) ≤ cond (nat_lt a IO_FIRST) 2 6
put_byte_size a b x =
    let c = loads_two 16 a in let d = stores_two a 16 in let e = mixes_one a 17 x in let f = mixes_one 16 17 x in by (nat_lt a IO_FIRST) c d e f
  where
    by : (l : Bool) → of_piece (Loads 16 a) ≤ 2 → of_piece (Stores a 16) ≤ 2 → of_piece (Mixes a 17 x) ≡ 1 → of_piece (Mixes 16 17 x) ≡ 1 →
        size_in (if l then Plain (insn.Ldi 17 (mask_of x b)) ∷ Mixes a 17 x ∷ []
        else Loads 16 a ∷ Plain (insn.Ldi 17 (mask_of x b)) ∷ Mixes 16 17 x ∷ Stores a 16 ∷ []) ≤ cond l 2 6
    by true c d e f = omega (arith, e)
    by false c d e f = omega (arith, c, d, f)

least_two : (s : Bool) → 2 ≤ cond s 2 6
least_two true = omega arith
least_two false = omega arith

pub put_size : (to : BitDest) (x : Bool) → size_in (put_code to x) ≤ cond (writes_scratch Mega16 to) 2 6
put_size (dest.Cell a b) x =
    let n : ℕ = cond (is_scratch Mega16 a) 2 6 in
    let least = least_two (is_scratch Mega16 a) in
    let wire = put_wire_size a x in
    let byte = put_byte_size a (in_byte b) x in
    let le = own_le a 2 6 (omega arith) in
    by_cell_size a (Plain (insn.Ldi 20 (as_bit x)) ∷ []) (put_wire a x) (put_byte a (in_byte b) x) n (omega (arith, least)) (omega (arith, wire, least))
    (omega (arith, byte, le))
put_size (dest.Latch port b) x = let e = latches_one port (in_byte b) x in omega (arith, e)

put_wire_if_size : (from : BitSource) (is : Bool) (a : ℕ) (x : Bool) → size_in (put_wire_if from is a x) ≤ 3
put_wire_if_size from is a true = let e = skips_one from (not is) in omega (arith, e)
put_wire_if_size from is a false = let e = skips_one from (not is) in omega (arith, e)

put_byte_if_size : (from : BitSource) (is : Bool) (a b : ℕ) (x : Bool) → size_in (put_byte_if from is a b x) ≤ cond (nat_lt a IO_FIRST) 3 7
put_byte_if_size from is a b x =
    let c = loads_two 16 a in let d = stores_two a 16 in let e = mixes_one a 17 x in let f = mixes_one 16 17 x in let g = skips_one from (not is) in
    by (nat_lt a IO_FIRST) c d e f g
  where
    by : (l : Bool) → of_piece (Loads 16 a) ≤ 2 → of_piece (Stores a 16) ≤ 2 → of_piece (Mixes a 17 x) ≡ 1 → of_piece (Mixes 16 17 x) ≡ 1 →
        of_piece (Skips from (not is)) ≡ 1 →
        size_in (if l then Plain (insn.Ldi 17 (mask_of x b)) ∷ Skips from (not is) ∷ Mixes a 17 x ∷ []
        else Loads 16 a ∷ Plain (insn.Ldi 17 (mask_of x b)) ∷ Skips from (not is) ∷ Mixes 16 17 x ∷ Stores a 16 ∷ []) ≤ cond l 3 7
    by true c d e f g = omega (arith, e, g)
    by false c d e f g = omega (arith, c, d, f, g)

least_three : (s : Bool) → 3 ≤ cond s 3 7
least_three true = omega arith
least_three false = omega arith

pub put_if_size : (from : BitSource) (is : Bool) (to : BitDest) (x : Bool) →
    size_in (put_if_code from is to x) ≤ fetch_words (reads_scratch Mega16 from) + cond (writes_scratch Mega16 to) 3 7
put_if_size from is (dest.Cell a b) x =
    let n : ℕ = cond (is_scratch Mega16 a) 3 7 in
    let least = least_three (is_scratch Mega16 a) in
    let wire = put_wire_if_size from is a x in
    let byte = put_byte_if_size from is a (in_byte b) x in
    let le = own_le a 3 7 (omega arith) in
    let skip = skips_one from (not is) in
    let cell = by_cell_size a (Skips from (not is) ∷ Plain (insn.Ldi 20 (as_bit x)) ∷ []) (put_wire_if from is a x) (put_byte_if from is a (in_byte b) x) n
    (omega (arith, least, skip)) (omega (arith, wire, least)) (omega (arith, byte, le)) in
    let fetch = fetch_size from in
    let all = size_append (fetch_code from)
    (by_cell a (Skips from (not is) ∷ Plain (insn.Ldi 20 (as_bit x)) ∷ []) (put_wire_if from is a x) (put_byte_if from is a (in_byte b) x)) in
    omega (arith, cell, fetch, all)
put_if_size from is (dest.Latch port b) x =
    let all = size_append (fetch_code from) (Skips from (not is) ∷ Latches port (in_byte b) x ∷ []) in
    let fetch = fetch_size from in
    let skip = skips_one from (not is) in
    let latch = latches_one port (in_byte b) x in
    omega (arith, all, fetch, skip, latch)

wire_taken_size : (a : ℕ) (from : BitSource) (inverted : Bool) → size_in (wire_taken a from inverted) ≤ fetch_words (reads_scratch Mega16 from) + 4
wire_taken_size a from inverted =
    let tail : List Piece = Plain (insn.Ldi 16 (as_bit inverted)) ∷ Skips from false ∷ Plain (insn.Ldi 16 (as_bit (not inverted))) ∷ Gives a 16 ∷ [] in
    let all = size_append (fetch_code from) tail in
    let fetch = fetch_size from in
    let skip = skips_one from false in
    omega (arith, all, fetch, skip)

copy_wire_size : (a : ℕ) (from : BitSource) (inverted : Bool) → size_in (copy_wire a from inverted) ≤ fetch_words (reads_scratch Mega16 from) + 4
copy_wire_size a (source.Cell c b) inverted =
    either_size (is_wire c && not inverted) (Gives a c ∷ []) (wire_taken a (source.Cell c b) inverted) _ (omega arith)
    (wire_taken_size a (source.Cell c b) inverted)
copy_wire_size a (source.Level port b) inverted = wire_taken_size a (source.Level port b) inverted
copy_wire_size a (source.Latch port b) inverted = wire_taken_size a (source.Latch port b) inverted

-- four words, and one or two for each way to the byte
reached : (a : ℕ) → of_piece (Loads 16 a) + of_piece (Stores a 16) ≤ cond (nat_lt a IO_FIRST) 2 4
reached a = let c = loads_two 16 a in let d = stores_two a 16 in by (nat_lt a IO_FIRST) refl c d
  where
    by : (l : Bool) → nat_lt a IO_FIRST ≡ l → of_piece (Loads 16 a) ≤ 2 → of_piece (Stores a 16) ≤ 2 →
        of_piece (Loads 16 a) + of_piece (Stores a 16) ≤ cond l 2 4
    by true e c d = let f = loads_one 16 a e in let g = stores_one a 16 e in omega (arith, f, g)
    by false e c d = omega (arith, c, d)

copied : (s : Bool) → 4 + cond s 2 4 ≤ cond s 6 8
copied true = omega arith
copied false = omega arith

least_four : (s : Bool) → 4 ≤ cond s 6 8
least_four true = omega arith
least_four false = omega arith

copy_byte_size : (a b : ℕ) (from : BitSource) (inverted : Bool) →
    size_in (copy_byte a b from inverted) ≤ fetch_words (reads_scratch Mega16 from) + (4 + cond (is_scratch Mega16 a) 2 4)
copy_byte_size a b from inverted =
    let tail : List Piece =
    Loads 16 a ∷ Plain (insn.Ldi 17 (2 ^ b)) ∷ Mixes 16 17 true ∷ Skips from (not inverted) ∷ Plain (insn.Eor 16 17) ∷ Stores a 16 ∷ [] in
    let all = size_append (fetch_code from) tail in
    let fetch = fetch_size from in
    let skip = skips_one from (not inverted) in
    let ways = reached a in
    let le = own_le a 2 4 (omega arith) in
    omega (arith, all, fetch, skip, ways, le)

pub copy_size : (to : BitDest) (from : BitSource) (inverted : Bool) →
    size_in (copy_code to from inverted) ≤ fetch_words (reads_scratch Mega16 from) + cond (writes_scratch Mega16 to) 6 8
copy_size (dest.Cell a b) from inverted =
    let wire = copy_wire_size a from inverted in
    let byte = copy_byte_size a (in_byte b) from inverted in
    let least = least_four (is_scratch Mega16 a) in
    let few = copied (is_scratch Mega16 a) in
    either_size (is_wire a) (copy_wire a from inverted) (copy_byte a (in_byte b) from inverted) _ (omega (arith, wire, least)) (omega (arith, byte, few))
copy_size (dest.Latch port b) from inverted =
    let tail : List Piece =
    Skips (held_at from) inverted ∷ Latches port (in_byte b) true ∷ Skips (held_at from) (not inverted) ∷ Latches port (in_byte b) false ∷ [] in
    let all = size_append (held_code from) tail in
    let held = held_size from in
    let on = skips_one (held_at from) inverted in
    let off = skips_one (held_at from) (not inverted) in
    omega (arith, all, held, on, off)

-- bytes and words
set_size : (a x : ℕ) (rest : List Piece) → size_in (byte_set a x rest) ≤ 3 + size_in rest
set_size a x rest = let c = stores_two a 1 in let d = stores_two a 16 in by (x == 0) (takes_number a) c d
  where
    by : (b c : Bool) → of_piece (Stores a 1) ≤ 2 → of_piece (Stores a 16) ≤ 2 →
        size_in (if b then Stores a 1 ∷ rest else if c then Plain (insn.Ldi a x) ∷ rest else Plain (insn.Ldi 16 x) ∷ Stores a 16 ∷ rest) ≤ 3 + size_in rest
    by true c d e = omega (arith, d)
    by false true d e = omega arith
    by false false d e = omega (arith, e)

moved_size : (to from : ℕ) (rest : List Piece) → size_in (byte_moved to from rest) ≤ 4 + size_in rest
moved_size to from rest =
    let a = loads_two to from in let b = stores_two to from in let c = loads_two 16 from in let d = stores_two to 16 in
    by (nat_lt to IO_FIRST) (nat_lt from IO_FIRST) a b c d
  where
    by : (p q : Bool) → of_piece (Loads to from) ≤ 2 → of_piece (Stores to from) ≤ 2 → of_piece (Loads 16 from) ≤ 2 → of_piece (Stores to 16) ≤ 2 →
        size_in (if p then Loads to from ∷ rest else if q then Stores to from ∷ rest else Loads 16 from ∷ Stores to 16 ∷ rest) ≤ 4 + size_in rest
    by true q a b c d = omega (arith, a)
    by false true a b c d = omega (arith, b)
    by false false a b c d = omega (arith, c, d)

move_size : (to : ℕ) (from : WordSource) → size_in (move_code to from) ≤ 8
move_size to (Number low high) =
    let first = set_size to low (byte_set (to + 1) high []) in let second = set_size (to + 1) high [] in omega (arith, first, second)
move_size to (Cells from) =
    either_size (to == from + 1) (byte_moved (to + 1) (from + 1) (byte_moved to from [])) (byte_moved to from (byte_moved (to + 1) (from + 1) [])) 8
    (twice (to + 1) (from + 1) to from) (twice to from (to + 1) (from + 1))
  where
    twice : (a b c d : ℕ) → size_in (byte_moved a b (byte_moved c d [])) ≤ 8
    twice a b c d = let first = moved_size a b (byte_moved c d []) in let second = moved_size c d [] in omega (arith, first, second)

pub put_byte_number : (to x : ℕ) → size_in (byte_set to x []) ≤ 3
put_byte_number to x = set_size to x []

pub copy_byte_number : (to from : ℕ) → size_in (byte_moved to from []) ≤ 4
copy_byte_number to from = moved_size to from []

pub xor_size : (to a b : ℕ) → size_in (byte_code (bytes.Xor to a b)) ≤ 7
xor_size to a b =
    let c = loads_two to a in let d = loads_two 16 a in let e = loads_two 17 b in let f = stores_two to 16 in
    either_size (nat_lt to IO_FIRST && (nat_lt b IO_FIRST && not (b == to))) (Loads to a ∷ Plain (insn.Eor to b) ∷ [])
    (Loads 16 a ∷ Loads 17 b ∷ Plain (insn.Eor 16 17) ∷ Stores to 16 ∷ []) 7 (omega (arith, c)) (omega (arith, d, e, f))

loaded_size : (r : ℕ) (from : WordSource) → size_in (word_loaded r from) ≤ 4
loaded_size r (Cells a) = let c = loads_two r a in let d = loads_two (r + 1) (a + 1) in omega (arith, c, d)
loaded_size r (Number low high) = omega arith

stored_size : (a : ℕ) → size_in (word_stored a) ≤ 4
stored_size a = let c = stores_two a 16 in let d = stores_two (a + 1) 17 in omega (arith, c, d)

added_size : (b : WordSource) → size_in (added b) ≤ 6
added_size (Cells b) = let c = loads_two 18 b in let d = loads_two 19 (b + 1) in omega (arith, c, d)
added_size (Number low high) =
    either_size (high == 0) (Plain (insn.Ldi 18 low) ∷ Plain (insn.Add 16 18) ∷ Plain (insn.Adc 17 1) ∷ [])
    (Plain (insn.Ldi 18 low) ∷ Plain (insn.Ldi 19 high) ∷ Plain (insn.Add 16 18) ∷ Plain (insn.Adc 17 19) ∷ []) 6 (omega arith) (omega arith)

counted_size : (to : ℕ) (x y z : AvrInsn) → size_of x ≡ 1 → size_of y ≡ 1 → size_of z ≡ 1 →
    size_in (Loads 16 to ∷ Loads 17 (to + 1) ∷ Plain x ∷ Plain y ∷ Plain z ∷ word_stored to) ≤ 11
counted_size to x y z e f g =
    let c = loads_two 16 to in let d = loads_two 17 (to + 1) in let h = stored_size to in omega (arith, c, d, e, f, g, h)

negate_size : (to sign : ℕ) → size_in (negate_code to sign) ≤ 16
negate_size to sign =
    let c = loads_two 18 sign in let d = loads_two 16 to in let e = loads_two 17 (to + 1) in let f = stored_size to in
    either_size (nat_lt to IO_FIRST && nat_lt sign IO_FIRST)
    (Plain (insn.Sbrs sign 7) ∷ Plain (insn.Rjmp 4) ∷ Plain (insn.Com to) ∷ Plain (insn.Com (to + 1)) ∷ Plain (insn.Adc to 1)
    ∷ Plain (insn.Adc (to + 1) 1) ∷ [])
    (Loads 18 sign ∷ Loads 16 to ∷ Loads 17 (to + 1) ∷ Plain (insn.Sbrs 18 7) ∷ Plain (insn.Rjmp 4) ∷ Plain (insn.Com 16) ∷ Plain (insn.Com 17)
    ∷ Plain (insn.Adc 16 1) ∷ Plain (insn.Adc 17 1) ∷ word_stored to) 16 (omega arith) (omega (arith, c, d, e, f))

sum_size : (to a : ℕ) (b : WordSource) → size_in (word_loaded 16 (Cells a) ++ (added b ++ word_stored to)) ≤ 14
sum_size to a b =
    let first = size_append (word_loaded 16 (Cells a)) (added b ++ word_stored to) in
    let second = size_append (added b) (word_stored to) in
    let c = loaded_size 16 (Cells a) in let d = added_size b in let e = stored_size to in
    omega (arith, first, second, c, d, e)

difference_size : (to : ℕ) (a b : WordSource) → size_in (word_code (words.Subtract to a b)) ≤ 14
difference_size to a b =
    let tail : List Piece = Plain (insn.Sub 16 18) ∷ Plain (insn.Sbc 17 19) ∷ word_stored to in
    let first = size_append (word_loaded 16 a) (word_loaded 18 b ++ tail) in
    let second = size_append (word_loaded 18 b) tail in
    let c = loaded_size 16 a in let d = loaded_size 18 b in let e = stored_size to in
    omega (arith, first, second, c, d, e)

against_size : (b : WordSource) → size_in (against b) ≤ 6
against_size (Cells b) =
    let c = loads_two 18 b in let d = loads_two 19 (b + 1) in
    either_size (nat_lt b IO_FIRST) (Plain (insn.Cp 16 b) ∷ Plain (insn.Cpc 17 (b + 1)) ∷ [])
    (Loads 18 b ∷ Loads 19 (b + 1) ∷ Plain (insn.Cp 16 18) ∷ Plain (insn.Cpc 17 19) ∷ []) 6 (omega arith) (omega (arith, c, d))
against_size (Number low high) =
    either_size (high == 0) (Plain (insn.Cpi 16 low) ∷ Plain (insn.Cpc 17 1) ∷ [])
    (Plain (insn.Ldi 18 high) ∷ Plain (insn.Cpi 16 low) ∷ Plain (insn.Cpc 17 18) ∷ []) 6 (omega arith) (omega arith)

compared_size : (a : ℕ) (b : WordSource) → size_in (compared a b) ≤ 10
compared_size a b =
    let all = size_append (word_loaded 16 (Cells a)) (against b) in let c = loaded_size 16 (Cells a) in let d = against_size b in omega (arith, all, c, d)

pub less_size : (a : ℕ) (b : WordSource) → size_in (compare_code (compares.Less a b)) ≤ 10
less_size a b =
    let c = loads_two 17 (a + 1) in
    either_size (is_nothing b) (Loads 17 (a + 1) ∷ Plain (insn.Cp 17 1) ∷ []) (compared a b) 10 (omega (arith, c)) (compared_size a b)

pub equal_size : (a : ℕ) (b : WordSource) → size_in (compare_code (compares.Equal a b)) ≤ 10
equal_size a b =
    let c = loads_two 16 a in let d = loads_two 17 (a + 1) in
    either_size (is_nothing b) (Loads 16 a ∷ Loads 17 (a + 1) ∷ Plain (insn.Or 16 17) ∷ []) (compared a b) 10 (omega (arith, c, d)) (compared_size a b)

pub below_size : (a n : ℕ) → size_in (compare_code (compares.Below a n)) ≤ 6
below_size a n = let c = loads_two 16 a in let d = loads_two 17 (a + 1) in omega (arith, c, d)

pub word_size : (op : WordOp) → size_in (word_code op) ≤ kind_words (word_kind op)
word_size (words.Move to from) = move_size to from
word_size (words.Increment to) = counted_size to (insn.Bset 0) (insn.Adc 16 1) (insn.Adc 17 1) refl refl refl
word_size (words.Decrement to) = counted_size to (insn.Bset 0) (insn.Sbc 16 1) (insn.Sbc 17 1) refl refl refl
word_size (words.Add to a b) = sum_size to a b
word_size (words.Subtract to a b) = difference_size to a b
word_size (words.NegateIf to sign) = negate_size to sign
word_size words.MultiplyStep = omega arith
word_size words.DivideStep = omega arith

-- tables
next_size : (i before x : ℕ) (rest : List Piece) → size_in (next_value i before x rest) ≤ 4 + size_in rest
next_size i before x rest = by (x % 256 == before % 256) (x / 256 % 256 == before / 256 % 256)
  where
    by : (low high : Bool) →
        size_in
        (if low then (if high then rest else Plain (insn.Cpi 30 i) ∷ Plain (insn.Brbs 0 1) ∷ Plain (insn.Ldi 25 (x / 256 % 256)) ∷ rest) else
        (if high then Plain (insn.Cpi 30 i) ∷ Plain (insn.Brbs 0 1) ∷ Plain (insn.Ldi 24 (x % 256)) ∷ rest else
        Plain (insn.Cpi 30 i) ∷ Plain (insn.Brbs 0 2) ∷ Plain (insn.Ldi 24 (x % 256)) ∷ Plain (insn.Ldi 25 (x / 256 % 256)) ∷ rest))
        ≤ 4 + size_in rest
    by true true = omega arith
    by true false = omega arith
    by false true = omega arith
    by false false = omega arith

values_size : (i before : ℕ) (xs : List ℕ) → size_in (values_from i before xs) ≤ 4 * length xs
values_size i before [] = omega arith
values_size i before (x ∷ xs) =
    let own = next_size i before x (values_from (i + 1) x xs) in let rest = values_size (i + 1) x xs in omega (arith, own, rest)

pub table_size : (xs : List ℕ) → size_in (table_code xs) ≤ 4 * length xs
table_size [] = omega arith
table_size (x ∷ xs) = let rest = values_size 1 x xs in omega (arith, rest)

pub start_size : (board : Board) (n : ℕ) → size_in (start_code board n) ≤ 35
start_size board zero = omega arith
start_size board (suc k) = omega arith
