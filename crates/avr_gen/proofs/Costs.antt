-- The words and cycles of the ATmega16's code for a primitive are within its weight.
use Rattle.std.proofs.Common.{◌≡◌, ℕ, zero, suc, ◌+◌, ◌*◌, ◌/◌, ◌%◌, ◌^◌, ◌<◌, ◌≤◌, Bool, true, false, List, [], ◌∷◌, ◌++◌, length, take, arith}
use Rattle.std.proofs.lemmas.List.{length-append, length-take}
use Rattle.std.proofs.lemmas.List.Elements.{All-head, All-tail}
use Rattle.std.proofs.lemmas.List.Sums.{sum_by-cons}
use Rattle.std.proofs.lemmas.Nat.{mul-le}
use Rattle.std.specs.Prelude.{◌==◌, ◌&&◌, not, nat_lt, if◌then◌else◌, sum_by, All}
use Rattle.chip_tables.specs.Bits.{as_bit}
use Rattle.chip_tables.specs.declared.mega16.TheConstants.{IO_FIRST}
use Rattle.byte_code.specs.Store.{in_byte}
use Rattle.byte_code.specs.declared.prim.BitSource.{BitSource}
use Rattle.byte_code.specs.declared.prim.BitSource.TheVariants as source
use Rattle.byte_code.specs.declared.prim.BytePrim.{BytePrim}
use Rattle.byte_code.specs.declared.prim.BytePrim.TheVariants.{Start, CyclePoll, AdcPoll, Label, Jump, Call, Return, JumpWhere, Bit, Byte, Word, Compare, Device, Eeprom, Table}
use Rattle.byte_code.specs.declared.prim.BitDest.{BitDest}
use Rattle.byte_code.specs.declared.prim.BitDest.TheVariants as dest
use Rattle.byte_code.specs.declared.prim.BitOp.{BitOp}
use Rattle.byte_code.specs.declared.prim.BitOp.TheVariants as bits
use Rattle.byte_code.specs.declared.prim.ByteOp.{ByteOp}
use Rattle.byte_code.specs.declared.prim.ByteOp.TheVariants as bytes
use Rattle.byte_code.specs.declared.prim.CompareOp.{CompareOp}
use Rattle.byte_code.specs.declared.prim.CompareOp.TheVariants as compares
use Rattle.byte_code.specs.declared.prim.Paced.{Paced}
use Rattle.byte_code.specs.declared.prim.Test.{Test}
use Rattle.byte_code.specs.declared.prim.Test.TheVariants as test
use Rattle.byte_code.specs.declared.prim.WordOp.{WordOp}
use Rattle.byte_code.specs.declared.prim.WordOp.TheVariants as words
use Rattle.byte_code.specs.declared.prim.WordSource.{WordSource}
use Rattle.byte_code.specs.declared.prim.WordSource.TheVariants.{Cells, Number}
use Rattle.avr_mach.specs.Words.{size_of}
use Rattle.avr_mach.specs.declared.insn.AvrInsn.{AvrInsn}
use Rattle.avr_mach.specs.declared.insn.AvrInsn.TheVariants as insn
use Rattle.byte_lower.proofs.UseLemmas as uses
use Rattle.byte_lower.specs.Code as lowered
use Rattle.byte_lower.specs.Code.{CanPlace}
use Rattle.byte_lower.specs.Uses.{Uses}
use Rattle.byte_lower.specs.declared.layout.Layout.{Layout}
use Rattle.avr_code.specs.Code.{Board, Piece, Plain, Loads, Stores, Skips, insn_of, is_wire, by_cell, fetch_code, held_code, put_wire, put_byte, put_code, put_wire_if, put_byte_if, put_if_code, wire_taken, copy_wire, copy_byte, copy_code, bit_code, test_code, takes_number, byte_set, byte_moved, move_code, byte_code, added, word_stored, word_code, against, compared, is_nothing, compare_code, next_value, values_from, table_code, clear_code, setup_code, code_of, size_in, word_count, bit_cycles, latch_cycles, more_cycles, cycle_count}
use Rattle.avr_gen.proofs.Kept.{cleared}
use Rattle.avr_gen.proofs.Weights.{weight, heft, code_heft}
use Rattle.avr_gen.specs.Boards.{IsBoardFor}
use Rattle.avr_gen.specs.Sums.{SumsFit}

size_small : (i : AvrInsn) → size_of i ≤ 2
size_small (insn.Jmp place) = omega arith
size_small (insn.Call place) = omega arith
size_small (insn.Lds d address) = omega arith
size_small (insn.Sts address r) = omega arith
size_small (insn.Add d r) = omega arith
size_small (insn.Adc d r) = omega arith
size_small (insn.Sub d r) = omega arith
size_small (insn.Sbc d r) = omega arith
size_small (insn.Cp d r) = omega arith
size_small (insn.Cpc d r) = omega arith
size_small (insn.And d r) = omega arith
size_small (insn.Eor d r) = omega arith
size_small (insn.Or d r) = omega arith
size_small (insn.Mov d r) = omega arith
size_small (insn.Cpi d k) = omega arith
size_small (insn.Ldi d k) = omega arith
size_small (insn.Com d) = omega arith
size_small (insn.Inc d) = omega arith
size_small (insn.Lsr d) = omega arith
size_small (insn.Ror d) = omega arith
size_small (insn.Dec d) = omega arith
size_small (insn.Brbs s k) = omega arith
size_small (insn.Brbc s k) = omega arith
size_small (insn.Bset s) = omega arith
size_small (insn.Bclr s) = omega arith
size_small (insn.Rjmp k) = omega arith
size_small (insn.Rcall k) = omega arith
size_small insn.Ret = omega arith
size_small (insn.In d a) = omega arith
size_small (insn.Out a r) = omega arith
size_small (insn.Cbi a b) = omega arith
size_small (insn.Sbi a b) = omega arith
size_small (insn.Sbic a b) = omega arith
size_small (insn.Sbis a b) = omega arith
size_small (insn.Sbrc r b) = omega arith
size_small (insn.Sbrs r b) = omega arith
size_small (insn.Ldd d q) = omega arith
size_small (insn.Std q r) = omega arith
size_small (insn.St r) = omega arith
size_small insn.Nop = omega arith

-- no instruction has more than two words
size_in_small : (ps : List Piece) → size_in ps ≤ 2 * length ps
size_in_small [] = omega arith
size_in_small (p ∷ ps) = let own = size_small (insn_of p) in let rest = size_in_small ps in omega (arith, own, rest)

by_cell_few : (a : ℕ) (xs ys zs : List Piece) (n : ℕ) → length xs ≤ n → length ys ≤ n → length zs ≤ n → length (by_cell a xs ys zs) ≤ n
by_cell_few a xs ys zs n h g f = by (a == 20) (is_wire a)
  where
    by : (b c : Bool) → length (if b then xs else if c then ys else zs) ≤ n
    by true c = h
    by false true = g
    by false false = f

either_few : (b : Bool) (xs ys : List Piece) (n : ℕ) → length xs ≤ n → length ys ≤ n → length (if b then xs else ys) ≤ n
either_few true xs ys n h g = h
either_few false xs ys n h g = g

behind_few : (xs ys : List Piece) (m n : ℕ) → length xs ≤ m → length ys ≤ n → length (xs ++ ys) ≤ m + n
behind_few xs ys m n h g = let e = length-append xs ys in omega (arith, e, h, g)

within_few : (xs : List Piece) (m n : ℕ) → length xs ≤ m → m ≤ n → length xs ≤ n
within_few xs m n h g = omega (arith, h, g)

-- what is done to bits
fetch_few : (from : BitSource) → length (fetch_code from) ≤ 1
fetch_few (source.Cell a b) = either_few (nat_lt a IO_FIRST) [] (Loads 18 a ∷ []) 1 (omega arith) (omega arith)
fetch_few (source.Level port b) = omega arith
fetch_few (source.Latch port b) = omega arith

held_few : (from : BitSource) → length (held_code from) ≤ 1
held_few (source.Cell a b) = fetch_few (source.Cell a b)
held_few (source.Level port b) = omega arith
held_few (source.Latch port b) = omega arith

fetched_few : (from : BitSource) (xs : List Piece) (n : ℕ) → length xs ≤ n → length (fetch_code from ++ xs) ≤ 1 + n
fetched_few from xs n h = behind_few (fetch_code from) xs 1 n (fetch_few from) h

put_wire_few : (a : ℕ) (x : Bool) → length (put_wire a x) ≤ 4
put_wire_few a true = omega arith
put_wire_few a false = omega arith

put_wire_if_few : (from : BitSource) (is : Bool) (a : ℕ) (x : Bool) → length (put_wire_if from is a x) ≤ 5
put_wire_if_few from is a true = omega arith
put_wire_if_few from is a false = omega arith

put_byte_few : (a b : ℕ) (x : Bool) → length (put_byte a b x) ≤ 4
put_byte_few a b x = either_few (nat_lt a IO_FIRST) _ _ 4 (omega arith) (omega arith)

put_byte_if_few : (from : BitSource) (is : Bool) (a b : ℕ) (x : Bool) → length (put_byte_if from is a b x) ≤ 5
put_byte_if_few from is a b x = either_few (nat_lt a IO_FIRST) _ _ 5 (omega arith) (omega arith)

wire_taken_few : (a : ℕ) (from : BitSource) (inverted : Bool) → length (wire_taken a from inverted) ≤ 5
wire_taken_few a from inverted = fetched_few from _ 4 (omega arith)

copy_wire_few : (a : ℕ) (from : BitSource) (inverted : Bool) → length (copy_wire a from inverted) ≤ 5
copy_wire_few a (source.Cell c b) inverted = either_few (is_wire c && not inverted) _ _ 5 (omega arith) (wire_taken_few a (source.Cell c b) inverted)
copy_wire_few a (source.Level port b) inverted = wire_taken_few a (source.Level port b) inverted
copy_wire_few a (source.Latch port b) inverted = wire_taken_few a (source.Latch port b) inverted

copy_few : (to : BitDest) (from : BitSource) (inverted : Bool) → length (copy_code to from inverted) ≤ 7
copy_few (dest.Cell a b) from inverted =
    either_few (is_wire a) (copy_wire a from inverted) (copy_byte a (in_byte b) from inverted) 7
    (within_few (copy_wire a from inverted) 5 7 (copy_wire_few a from inverted) (omega arith)) (fetched_few from _ 6 (omega arith))
copy_few (dest.Latch port b) from inverted =
    within_few (copy_code (dest.Latch port b) from inverted) 5 7 (behind_few (held_code from) _ 1 4 (held_few from) (omega arith)) (omega arith)

put_if_few : (from : BitSource) (is : Bool) (to : BitDest) (x : Bool) → length (put_if_code from is to x) ≤ 6
put_if_few from is (dest.Cell a b) x =
    fetched_few from (by_cell a (Skips from (not is) ∷ Plain (insn.Ldi 20 (as_bit x)) ∷ []) (put_wire_if from is a x) (put_byte_if from is a (in_byte b) x)) 5
    (by_cell_few a _ (put_wire_if from is a x) (put_byte_if from is a (in_byte b) x) 5 (omega arith) (put_wire_if_few from is a x)
    (put_byte_if_few from is a (in_byte b) x))
put_if_few from is (dest.Latch port b) x = within_few (put_if_code from is (dest.Latch port b) x) 3 6 (fetched_few from _ 2 (omega arith)) (omega arith)

bit_few : (op : BitOp) → length (bit_code op) ≤ 7
bit_few (bits.Put (dest.Cell a b) x) =
    within_few (put_code (dest.Cell a b) x) 4 7
    (by_cell_few a _ (put_wire a x) (put_byte a (in_byte b) x) 4 (omega arith) (put_wire_few a x) (put_byte_few a (in_byte b) x)) (omega arith)
bit_few (bits.Put (dest.Latch port b) x) = omega arith
bit_few (bits.Copy to from inverted) = copy_few to from inverted
bit_few (bits.PutIf from is to x) = within_few (put_if_code from is to x) 6 7 (put_if_few from is to x) (omega arith)
bit_few (bits.PutOnFlag k is (dest.Cell a b) x) = by_cell_few a _ _ _ 7 (omega arith) (omega arith) (omega arith)
bit_few (bits.PutOnFlag k is (dest.Latch port b) x) = omega arith

latch_small : (to : BitDest) → latch_cycles to ≤ 1
latch_small (dest.Cell a b) = omega arith
latch_small (dest.Latch port b) = omega arith

bit_cycles_small : (op : BitOp) → bit_cycles op ≤ 1
bit_cycles_small (bits.Put to x) = latch_small to
bit_cycles_small (bits.Copy to from inverted) = latch_small to
bit_cycles_small (bits.PutIf from is to x) = latch_small to
bit_cycles_small (bits.PutOnFlag k is to x) = latch_small to

test_few : (t : Test) (place : ℕ) → length (test_code t place) ≤ 3
test_few test.LoopsOn place = omega arith
test_few (test.Flag k true) place = omega arith
test_few (test.Flag k false) place = omega arith
test_few (test.Bit from is) place = fetched_few from _ 2 (omega arith)
test_few test.NoByte place = omega arith
test_few test.Sends place = omega arith
test_few test.Writes place = omega arith
test_few test.NoneWaits place = omega arith

-- what is done to bytes and words
set_few : (a x : ℕ) (rest : List Piece) → length (byte_set a x rest) ≤ 2 + length rest
set_few a x rest = by (x == 0) (takes_number a)
  where
    by : (b c : Bool) →
        length (if b then Stores a 1 ∷ rest else if c then Plain (insn.Ldi a x) ∷ rest else Plain (insn.Ldi 16 x) ∷ Stores a 16 ∷ rest) ≤ 2 + length rest
    by true c = omega arith
    by false true = omega arith
    by false false = omega arith

moved_few : (to from : ℕ) (rest : List Piece) → length (byte_moved to from rest) ≤ 2 + length rest
moved_few to from rest = by (nat_lt to IO_FIRST) (nat_lt from IO_FIRST)
  where
    by : (b c : Bool) →
        length (if b then Loads to from ∷ rest else if c then Stores to from ∷ rest else Loads 16 from ∷ Stores to 16 ∷ rest) ≤ 2 + length rest
    by true c = omega arith
    by false true = omega arith
    by false false = omega arith

byte_few : (op : ByteOp) → length (byte_code op) ≤ 4
byte_few (bytes.Put to x) = let few = set_few to x [] in omega (arith, few)
byte_few (bytes.Copy to from) = let few = moved_few to from [] in omega (arith, few)
byte_few (bytes.Xor to a b) = either_few (nat_lt to IO_FIRST && (nat_lt b IO_FIRST && not (b == to))) _ _ 4 (omega arith) (omega arith)

move_few : (to : ℕ) (from : WordSource) → length (move_code to from) ≤ 4
move_few to (Number low high) =
    let first = set_few to low (byte_set (to + 1) high []) in let second = set_few (to + 1) high [] in omega (arith, first, second)
move_few to (Cells from) =
    either_few (to == from + 1) (byte_moved (to + 1) (from + 1) (byte_moved to from [])) (byte_moved to from (byte_moved (to + 1) (from + 1) [])) 4
    (twice (to + 1) (from + 1) to from) (twice to from (to + 1) (from + 1))
  where
    twice : (a b c d : ℕ) → length (byte_moved a b (byte_moved c d [])) ≤ 4
    twice a b c d = let first = moved_few a b (byte_moved c d []) in let second = moved_few c d [] in omega (arith, first, second)

added_few : (b : WordSource) → length (added b) ≤ 4
added_few (Cells b) = omega arith
added_few (Number low high) = either_few (high == 0) _ _ 4 (omega arith) (omega arith)

word_few : (op : WordOp) → length (word_code op) ≤ 11
word_few (words.Move to from) = within_few (move_code to from) 4 11 (move_few to from) (omega arith)
word_few (words.Increment to) = omega arith
word_few (words.Decrement to) = omega arith
word_few (words.Add to a b) = let few = behind_few (added b) (word_stored to) 4 2 (added_few b) (omega arith) in omega (arith, few)
word_few (words.Subtract to (Cells a) (Cells b)) = omega arith
word_few (words.Subtract to (Cells a) (Number low high)) = omega arith
word_few (words.Subtract to (Number x y) (Cells b)) = omega arith
word_few (words.Subtract to (Number x y) (Number low high)) = omega arith
word_few (words.NegateIf to sign) = either_few (nat_lt to IO_FIRST && nat_lt sign IO_FIRST) _ _ 11 (omega arith) (omega arith)
word_few words.MultiplyStep = omega arith
word_few words.DivideStep = omega arith

against_few : (b : WordSource) → length (against b) ≤ 4
against_few (Cells b) = either_few (nat_lt b IO_FIRST) _ _ 4 (omega arith) (omega arith)
against_few (Number low high) = either_few (high == 0) _ _ 4 (omega arith) (omega arith)

compared_few : (a : ℕ) (b : WordSource) → length (compared a b) ≤ 6
compared_few a b = let few = against_few b in omega (arith, few)

compare_few : (op : CompareOp) → length (compare_code op) ≤ 6
compare_few (compares.Less a b) = either_few (is_nothing b) _ (compared a b) 6 (omega arith) (compared_few a b)
compare_few (compares.Equal a b) = either_few (is_nothing b) _ (compared a b) 6 (omega arith) (compared_few a b)
compare_few (compares.Below a n) = omega arith

-- tables
next_few : (i before x : ℕ) (rest : List Piece) → length (next_value i before x rest) ≤ 4 + length rest
next_few i before x rest = by (x % 256 == before % 256) (x / 256 % 256 == before / 256 % 256)
  where
    by : (low high : Bool) →
        length
        (if low then (if high then rest else Plain (insn.Cpi 30 i) ∷ Plain (insn.Brbs 0 1) ∷ Plain (insn.Ldi 25 (x / 256 % 256)) ∷ rest) else
        (if high then Plain (insn.Cpi 30 i) ∷ Plain (insn.Brbs 0 1) ∷ Plain (insn.Ldi 24 (x % 256)) ∷ rest else
        Plain (insn.Cpi 30 i) ∷ Plain (insn.Brbs 0 2) ∷ Plain (insn.Ldi 24 (x % 256)) ∷ Plain (insn.Ldi 25 (x / 256 % 256)) ∷ rest))
        ≤ 4 + length rest
    by true true = omega arith
    by true false = omega arith
    by false true = omega arith
    by false false = omega arith

values_few : (i before : ℕ) (xs : List ℕ) → length (values_from i before xs) ≤ 4 * length xs
values_few i before [] = omega arith
values_few i before (x ∷ xs) =
    let own = next_few i before x (values_from (i + 1) x xs) in let rest = values_few (i + 1) x xs in omega (arith, own, rest)

table_few : (xs : List ℕ) → length (table_code xs) ≤ 4 * length xs
table_few [] = omega arith
table_few (x ∷ xs) = let rest = values_few 1 x xs in omega (arith, rest)

start_few : (board : Board) (n : ℕ) → length (clear_code n ++ setup_code board) ≤ 33
start_few board zero = omega arith
start_few board (suc k) = omega arith

module _ (o : Layout) (board : Board) (fits : IsBoardFor o board) where
  -- two words for each instruction at most, and what some take in more
  pieces_light : (p : BytePrim) → Uses o p → 2 * length (code_of board p []) + more_cycles p ≤ weight p
  pieces_light (Start n) h =
      let few = cleared o board fits n h in
      let all = start_few board n in
      omega (arith, few, all)
  pieces_light (CyclePoll l) h = omega arith
  pieces_light (AdcPoll l) h = omega arith
  pieces_light (Label l) h = omega arith
  pieces_light (Jump l) h = omega arith
  pieces_light (Call l) h = omega arith
  pieces_light Return h = omega arith
  pieces_light (JumpWhere by l) h = let few = test_few by 0 in omega (arith, few)
  pieces_light (Bit op) h = let few = bit_few op in let more = bit_cycles_small op in omega (arith, few, more)
  pieces_light (Byte op) h = let few = byte_few op in omega (arith, few)
  pieces_light (Word op) h = let few = word_few op in omega (arith, few)
  pieces_light (Compare op) h = let few = compare_few op in omega (arith, few)
  pieces_light (Device op) h = absurd h
  pieces_light (Eeprom op) h = absurd h
  pieces_light (Table values l) h =
      let few = table_few (take 256 values) in let all = length-take 256 values in let most = h.1 in omega (arith, few, all, most)

  pub cost_light : (p : BytePrim) → Uses o p → cycle_count board p ≤ weight p
  cost_light p h = let size = size_in_small (code_of board p []) in let light = pieces_light p h in omega (arith, size, light)

  summed : (f : Paced → ℕ) → ((q : Paced) → Uses o q.prim → f q ≤ heft q) → (ps : List Paced) → All (λ q. Uses o q.prim) ps → sum_by f ps ≤ sum_by heft ps
  summed f light [] h = omega arith
  summed f light (q ∷ ps) h =
      let own = light q (All-head (λ q. Uses o q.prim) q ps h) in
      let rest = summed f light ps (All-tail (λ q. Uses o q.prim) q ps h) in
      let e = sum_by-cons f q ps in
      let g = sum_by-cons heft q ps in
      added (sum_by f (q ∷ ps)) (f q) (sum_by f ps) (sum_by heft (q ∷ ps)) (heft q) (sum_by heft ps) e g own rest
    where
      added : (s a b t c d : ℕ) → s ≡ a + b → t ≡ c + d → a ≤ c → b ≤ d → s ≤ t
      added s a b t c d e g h i = omega (arith, e, g, h, i)

  times_light : (q : Paced) (n : ℕ) → Uses o q.prim → n ≤ q.turns + q.boot + 1 → cycle_count board q.prim * n ≤ heft q
  times_light q n h le = mul-le (cycle_count board q.prim) n (weight q.prim) (q.turns + q.boot + 1) (cost_light q.prim h) le

  words_light : (q : Paced) → Uses o q.prim → word_count board q.prim ≤ heft q
  words_light q h = let some = times_light q 1 h (omega arith) in omega (arith, some)

pub sums_fit : SumsFit
sums_fit o board fits p can =
    let all = uses.used o p can in
    let code = lowered.code_of o p in
    let whole = code_heft o p can in
    let below : (f : Paced → ℕ) → ((q : Paced) → Uses o q.prim → f q ≤ heft q) → sum_by f code < 2 ^ 32 =
    (λ f light. within (sum_by f code) (sum_by heft code) (summed o board fits f light code all) whole) in (
      below (λ q. word_count board q.prim) (words_light o board fits),
      below (λ q. cycle_count board q.prim * q.turns) (λ q h. times_light o board fits q q.turns h (omega arith)),
      below (λ q. cycle_count board q.prim * q.boot) (λ q h. times_light o board fits q q.boot h (omega arith)),
    )
  where
    within : (m n : ℕ) → m ≤ n → n < 2 ^ 32 → m < 2 ^ 32
    within m n h g = omega (arith, h, g)
