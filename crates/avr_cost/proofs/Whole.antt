-- The words and cycles of code are within those of the kinds of its primitives.
use Rattle.std.proofs.Common.{◌≡◌, ℕ, zero, suc, ◌*◌, ◌≤◌, true, false, cond, List, [], ◌∷◌, take, sym, subst, arith}
use Rattle.std.proofs.lemmas.List.{length-take}
use Rattle.std.proofs.lemmas.List.Elements.{All-head, All-tail}
use Rattle.std.proofs.lemmas.List.Sums.{sum_by-cons, sum_by-append}
use Rattle.std.proofs.lemmas.Nat.{mul-le}
use Rattle.std.proofs.Math.Nat.{suc-mul, mul_comm}
use Rattle.std.specs.Prelude.{All}
use Rattle.std.specs.List.{sum_by}
use Rattle.chip_tables.specs.Memory.{ram_size}
use Rattle.chip_tables.specs.declared.target.Target.{Target}
use Rattle.chip_tables.specs.declared.target.Target.TheVariants.{Mega16}
use Rattle.mem_plan.specs.Needs.{ram_need}
use Rattle.byte_code.specs.Kinds.{kind_of, repeated, jump_kind, bit_kind, byte_kind, compare_kind, writes_scratch}
use Rattle.byte_code.specs.declared.prim.BytePrim.{BytePrim}
use Rattle.byte_code.specs.declared.prim.BytePrim.TheVariants.{Start, CyclePoll, AdcPoll, Label, Jump, Call, Return, JumpWhere, Bit, Byte, Word, Compare, Device, Eeprom, Table}
use Rattle.byte_code.specs.declared.prim.BitDest.{BitDest}
use Rattle.byte_code.specs.declared.prim.BitDest.TheVariants as dest
use Rattle.byte_code.specs.declared.prim.BitOp.{BitOp}
use Rattle.byte_code.specs.declared.prim.BitOp.TheVariants as bits
use Rattle.byte_code.specs.declared.prim.ByteOp.{ByteOp}
use Rattle.byte_code.specs.declared.prim.ByteOp.TheVariants as bytes
use Rattle.byte_code.specs.declared.prim.CompareOp.{CompareOp}
use Rattle.byte_code.specs.declared.prim.CompareOp.TheVariants as compares
use Rattle.byte_code.specs.declared.prim.Paced.{Paced}
use Rattle.byte_code.specs.declared.prim.Test.{Test}
use Rattle.byte_code.specs.declared.prim.Test.TheVariants as test
use Rattle.byte_lower.specs.Uses.{Uses}
use Rattle.byte_lower.specs.declared.layout.Layout.{Layout}
use Rattle.avr_code.specs.Code.{Board, word_count, more_cycles, cycle_count, latch_cycles, bit_cycles}
use Rattle.chip_cost.proofs.Sums.{sum_flat, sum_both}
use Rattle.avr_cost.proofs.Sizes.{test_size, put_size, put_if_size, copy_size, put_byte_number, copy_byte_number, xor_size, word_size, less_size, equal_size, below_size, table_size, start_size}
use Rattle.avr_cost.specs.Taken.{kind_words, kind_more, kind_cycles, SumsWithinKinds}

-- as much, so often
sum_so_often : {X : Type 0} (g : X → ℕ) (n : ℕ) (xs : List X) → sum_by g (repeated n xs) ≡ n * sum_by g xs
sum_so_often g zero xs = omega arith
sum_so_often g (suc n) xs =
    let a = sum_by-append g xs (repeated n xs) in let b = sum_so_often g n xs in let c = suc-mul n (sum_by g xs) in omega (arith, a, b, c)

latch_more : (to : BitDest) → latch_cycles to ≤ cond (writes_scratch Mega16 to) 0 1
latch_more (dest.Cell a b) = omega arith
latch_more (dest.Latch port b) = omega arith

module _ (o : Layout) (board : Board) (target : o.plan.target ≡ Mega16) where
  cleared : (n : ℕ) → n ≡ ram_need o.plan.sizes → n ≤ 960
  cleared n e =
      let room : ram_need o.plan.sizes ≤ 960 = subst (λ (t : Target). ram_need o.plan.sizes ≤ ram_size t) target o.plan.ram_fits in
      subst (λ m. m ≤ 960) (sym e) room

  test_words : (by : Test) (l : ℕ) → word_count board (JumpWhere by l) ≤ kind_words (jump_kind Mega16 by)
  test_words test.LoopsOn l = omega arith
  test_words (test.Flag k true) l = omega arith
  test_words (test.Flag k false) l = omega arith
  test_words (test.Bit from is) l = test_size from is _
  test_words test.NoByte l = omega arith
  test_words test.Sends l = omega arith
  test_words test.Writes l = omega arith
  test_words test.NoneWaits l = omega arith

  test_more : (by : Test) → 1 ≤ kind_more (jump_kind Mega16 by)
  test_more test.LoopsOn = omega arith
  test_more (test.Flag k is) = omega arith
  test_more (test.Bit from is) = omega arith
  test_more test.NoByte = omega arith
  test_more test.Sends = omega arith
  test_more test.Writes = omega arith
  test_more test.NoneWaits = omega arith

  bit_words : (op : BitOp) → Uses o (Bit op) → word_count board (Bit op) ≤ kind_words (bit_kind Mega16 op)
  bit_words (bits.Put to x) h = put_size to x
  bit_words (bits.Copy to from inverted) h = copy_size to from inverted
  bit_words (bits.PutIf from is to x) h = put_if_size from is to x
  bit_words (bits.PutOnFlag k is to x) h = absurd h

  bit_more : (op : BitOp) → Uses o (Bit op) → bit_cycles op ≤ kind_more (bit_kind Mega16 op)
  bit_more (bits.Put to x) h = latch_more to
  bit_more (bits.Copy to from inverted) h = latch_more to
  bit_more (bits.PutIf from is to x) h = latch_more to
  bit_more (bits.PutOnFlag k is to x) h = absurd h

  byte_words : (op : ByteOp) → word_count board (Byte op) ≤ kind_words (byte_kind op)
  byte_words (bytes.Put to x) = put_byte_number to x
  byte_words (bytes.Copy to from) = copy_byte_number to from
  byte_words (bytes.Xor to a b) = xor_size to a b

  compare_words : (op : CompareOp) → word_count board (Compare op) ≤ kind_words (compare_kind op)
  compare_words (compares.Less a b) = less_size a b
  compare_words (compares.Equal a b) = equal_size a b
  compare_words (compares.Below a n) = below_size a n

  prim_words : (p : BytePrim) → Uses o p → word_count board p ≤ sum_by kind_words (kind_of Mega16 p)
  prim_words (Start n) h = start_size board n
  prim_words (CyclePoll l) h = omega arith
  prim_words (AdcPoll l) h = omega arith
  prim_words (Label l) h = omega arith
  prim_words (Jump l) h = omega arith
  prim_words (Call l) h = omega arith
  prim_words Return h = omega arith
  prim_words (JumpWhere by l) h = let few = test_words by l in omega (arith, few)
  prim_words (Bit op) h = let few = bit_words op h in omega (arith, few)
  prim_words (Byte op) h = let few = byte_words op in omega (arith, few)
  prim_words (Word op) h = let few = word_size op in omega (arith, few)
  prim_words (Compare op) h = let few = compare_words op in omega (arith, few)
  prim_words (Device op) h = absurd h
  prim_words (Eeprom op) h = absurd h
  prim_words (Table values l) h = let few = table_size (take 256 values) in let all = length-take 256 values in omega (arith, few, all)

  prim_more : (p : BytePrim) → Uses o p → more_cycles p ≤ sum_by kind_more (kind_of Mega16 p)
  prim_more (Start n) h = let few = cleared n h in omega (arith, few)
  prim_more (CyclePoll l) h = omega arith
  prim_more (AdcPoll l) h = omega arith
  prim_more (Label l) h = omega arith
  prim_more (Jump l) h = omega arith
  prim_more (Call l) h = omega arith
  prim_more Return h = omega arith
  prim_more (JumpWhere by l) h = let few = test_more by in omega (arith, few)
  prim_more (Bit op) h = let few = bit_more op h in omega (arith, few)
  prim_more (Byte op) h = omega arith
  prim_more (Word op) h = omega arith
  prim_more (Compare op) h = omega arith
  prim_more (Device op) h = absurd h
  prim_more (Eeprom op) h = absurd h
  prim_more (Table values l) h = omega arith

  prim_cycles : (p : BytePrim) → Uses o p → cycle_count board p ≤ sum_by kind_cycles (kind_of Mega16 p)
  prim_cycles p h =
      let a = prim_words p h in
      let b = prim_more p h in
      let c = sum_both kind_words kind_more (kind_of Mega16 p) in
      omega (arith, a, b, c)

  so_often : (n : ℕ) (p : BytePrim) → Uses o p → cycle_count board p * n ≤ sum_by kind_cycles (repeated n (kind_of Mega16 p))
  so_often n p h =
      let a = prim_cycles p h in
      let b = mul-le (cycle_count board p) n (sum_by kind_cycles (kind_of Mega16 p)) n a (omega arith) in
      let c = mul_comm (sum_by kind_cycles (kind_of Mega16 p)) n in
      let d = sum_so_often kind_cycles n (kind_of Mega16 p) in
      omega (arith, b, c, d)

  -- what holds of each of the code's primitives
  summed : (f g : Paced → ℕ) → ((q : Paced) → Uses o q.prim → f q ≤ g q) → (ps : List Paced) → All (λ q. Uses o q.prim) ps → sum_by f ps ≤ sum_by g ps
  summed f g few [] h = omega arith
  summed f g few (q ∷ ps) h =
      let own = few q (All-head (λ q. Uses o q.prim) q ps h) in
      let rest = summed f g few ps (All-tail (λ q. Uses o q.prim) q ps h) in
      let a = sum_by-cons f q ps in
      let b = sum_by-cons g q ps in
      omega (arith, own, rest, a, b)

pub sums_within_kinds : SumsWithinKinds
sums_within_kinds o board code target uses =
    let a = sum_flat kind_words (λ (p : Paced). kind_of Mega16 p.prim) code in
    let b = sum_flat kind_cycles (λ (p : Paced). repeated p.turns (kind_of Mega16 p.prim)) code in
    let c = sum_flat kind_cycles (λ (p : Paced). repeated p.boot (kind_of Mega16 p.prim)) code in
    let d = summed o board target (λ p. word_count board p.prim) (λ p. sum_by kind_words (kind_of Mega16 p.prim))
    (λ q h. prim_words o board target q.prim h) code uses in
    let e = summed o board target (λ p. cycle_count board p.prim * p.turns) (λ p. sum_by kind_cycles (repeated p.turns (kind_of Mega16 p.prim)))
    (λ q h. so_often o board target q.turns q.prim h) code uses in
    let f = summed o board target (λ p. cycle_count board p.prim * p.boot) (λ p. sum_by kind_cycles (repeated p.boot (kind_of Mega16 p.prim)))
    (λ q h. so_often o board target q.boot q.prim h) code uses in
    record { words = omega (arith, a, d); cycles = omega (arith, b, e); boot = omega (arith, c, f) }
