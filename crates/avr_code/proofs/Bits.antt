-- Bits: the wires, those of cells, latches and levels.
use Rattle.std.proofs.Common.{◌≡◌, ◌≢◌, ◌⊎◌, inl, inr, ℕ, suc, ◌+◌, ◌-◌, ◌^◌, ◌<◌, ◌≤◌, Bool, true, false, List, [], ◌∷◌, ◌++◌, Option, Some, None, refl, sym, ap, ap₂, ◌∙◌, subst, arith, lit<, lit≤}
use Rattle.std.proofs.lemmas.Bool.{cases_eq, ne_eqb, lt-leb, lt-ltb, ltb-true, true≢false}
use Rattle.std.specs.Prelude.{◌==◌, ◌&&◌, ◌||◌, nat_le, nat_lt, not, if◌then◌else◌, slice_index, bit_or, bit_xor}
use Rattle.chip_tables.specs.Bits.{bit_of, as_bit}
use Rattle.chip_tables.specs.Outside.{no_reading}
use Rattle.chip_tables.specs.declared.pins.PortBit.{PortBit}
use Rattle.runs.specs.Chip.{steps_over}
use Rattle.byte_code.specs.declared.prim.BytePrim.{BytePrim}
use Rattle.byte_code.specs.declared.prim.BytePrim.TheVariants.{Bit, JumpWhere}
use Rattle.byte_code.specs.declared.prim.BitOp.{BitOp}
use Rattle.byte_code.specs.declared.prim.BitOp.TheVariants as bits
use Rattle.byte_code.specs.declared.prim.BitSource.{BitSource}
use Rattle.byte_code.specs.declared.prim.BitSource.TheVariants as bit
use Rattle.byte_code.specs.declared.prim.BitDest.{BitDest}
use Rattle.byte_code.specs.declared.prim.BitDest.TheVariants as dest
use Rattle.byte_code.specs.declared.prim.FlagKind.{FlagKind}
use Rattle.byte_code.specs.declared.prim.Test.TheVariants as test
use Rattle.byte_code.specs.declared.store.Flag.{Flag}
use Rattle.byte_code.specs.declared.store.Store.{Store}
use Rattle.byte_code.specs.declared.state.Bytes.{Bytes}
use Rattle.byte_code.specs.Machine.{act, label_place, goes_to}
use Rattle.byte_code.specs.Store.{cell, in_byte, with_bit, bit_from, with_bit_at}
use Rattle.byte_code.specs.Table.{plain, same, value_of}
use Rattle.avr_mach.specs.declared.insn.AvrInsn.TheVariants as insn
use Rattle.avr_mach.specs.declared.state.AvrState.{AvrState}
use Rattle.avr_devices.specs.Device.{pins, port_of}
use Rattle.avr_mach.specs.Arithmetic.{with_result}
use Rattle.avr_mach.specs.State.{flag}
use Rattle.avr_mach.specs.Step.{avr_step, at_place}
use Rattle.avr_mach.specs.Words.{size_of}
use Rattle.avr_devices.specs.Part.{mega16}
use Rattle.target_core.specs.Law.{Moves, IsReady, Layout}
use Rattle.avr_code.specs.Code.{Board, direction, Piece, Plain, Loads, Stores, Fetches, Gives, Latches, Skips, Mixes, insn_of, is_wire, mask_of, by_cell, fetch_code, held_code, held_at, wire_taken, copy_wire, copy_byte, copy_code, status_bit, code_of, size_in, cycle_count, more_cycles}
use Rattle.avr_code.specs.Stands.{is_work, IsCell, HasFlag, StandsAt}
use Rattle.avr_code.specs.Target.{avr_target, ReadsBit, WritesBit, WritesWire}
use Rattle.avr_code.proofs.BitFacts.{low_of, power_small, rest_small, turned_clear, with_bit_small, pins_level}
use Rattle.avr_code.proofs.Effects.{FetchFits, TestFits, cell_put, fetched, keeping, latched, mixed, tested}
use Rattle.avr_code.proofs.Paths.{AllGood, AllPiecesFit, Lost, bump, paths}
use Rattle.avr_code.proofs.Primitives.{coded, Ends, flag_kept, good_bump, is_false, is_true, load_size, store_size, flag_value, status_low}
use Rattle.avr_code.proofs.Products.{written_back}
use Rattle.avr_code.proofs.Tables.{good_more}
use Rattle.avr_code.proofs.Standing.{Has, Alike, alike, has_kept, has_cell, has_wire, has_latch, ViewStands, wire_low, wire_free}
use Rattle.avr_code.proofs.View.{View, changed, moved, put, see}

in_byte_low : (b : ℕ) → in_byte b < 8
in_byte_low b = omega arith

bit_small : (x : Bool) → as_bit x < 256
bit_small true = lit< tt
bit_small false = lit< tt

flip_false : (x : Bool) → bit_of (as_bit x) 0 ≡ (if x then not false else false)
flip_false true = refl
flip_false false = refl

flip_true : (x : Bool) → bit_of (as_bit (not x)) 0 ≡ (if x then not true else true)
flip_true true = refl
flip_true false = refl

by_wire : {X : Type 0} (a : ℕ) (power wire byte : X) → (a == 20) ≡ false → is_wire a ≡ true → by_cell a power wire byte ≡ wire
by_wire a power wire byte e f = ap₂ (λ i j. if i then power else if j then wire else byte) e f

by_byte : {X : Type 0} (a : ℕ) (power wire byte : X) → is_wire a ≡ false → by_cell a power wire byte ≡ byte
by_byte a power wire byte e = ap₂ (λ i j. if i then power else if j then wire else byte) (by (a == 20) refl) e
  where
    by : (t : Bool) → (a == 20) ≡ t → (a == 20) ≡ false
    by true q = absurd (true≢false (sym (ap (λ t. t || (nat_le 2 a && nat_le a 9)) q) ∙ e))
    by false q = q

-- a cell is no wire
plain_cell : (a : ℕ) → IsCell a → is_wire a ≡ false
plain_cell a (inl low) = low.2
plain_cell a (inr high) = let far = high.0 in
    ap₂ (λ b c. b || (nat_le 2 a && c)) (ne_eqb a 20 (λ q. omega (arith, q, far))) (lt-leb a 9 (omega (arith, far))) ∙ by (nat_le 2 a)
  where
    by : (t : Bool) → (false || (t && false)) ≡ false
    by true = refl
    by false = refl

pub direction_small : (outputs : List PortBit) (port : ℕ) → direction outputs port < 256
direction_small [] port = lit< tt
direction_small (p ∷ ps) port = by (direction_small ps port) (p.port == port)
  where
    by : direction ps port < 256 → (t : Bool) → (if t then with_bit (direction ps port) (in_byte p.bit) true else direction ps port) < 256
    by small true = with_bit_small (direction ps port) (in_byte p.bit) true small (in_byte_low p.bit)
    by small false = small

flags_kept : (c c2 : AvrState) (o : Option Flag) → ((b : ℕ) → flag c2 b ≡ flag c b) → HasFlag c o → HasFlag c2 o
flags_kept c c2 None same f = f
flags_kept c c2 (Some f) same e = same (status_bit f.kind) ∙ e

-- the sizes of what is one word
skip_size : (from : BitSource) (is : Bool) → size_of (insn_of (Skips from is)) ≡ 1
skip_size (bit.Cell a b) true = by (nat_lt a 32)
  where
    by : (c : Bool) → size_of (if c then insn.Sbrs a (in_byte b) else insn.Sbrs 18 (in_byte b)) ≡ 1
    by true = refl
    by false = refl
skip_size (bit.Cell a b) false = by (nat_lt a 32)
  where
    by : (c : Bool) → size_of (if c then insn.Sbrc a (in_byte b) else insn.Sbrc 18 (in_byte b)) ≡ 1
    by true = refl
    by false = refl
skip_size (bit.Level port b) true = refl
skip_size (bit.Level port b) false = refl
skip_size (bit.Latch port b) true = refl
skip_size (bit.Latch port b) false = refl

mix_size : (d r : ℕ) (x : Bool) → size_of (insn_of (Mixes d r x)) ≡ 1
mix_size d r true = refl
mix_size d r false = refl

latch_size : (port b : ℕ) (x : Bool) → size_of (insn_of (Latches port b x)) ≡ 1
latch_size port b true = refl
latch_size port b false = refl

-- a bit by its mask
mixed_bit : (x : Bool) (n i : ℕ) → mixed x n (mask_of x i) ≡ with_bit n i x
mixed_bit true n i = refl
mixed_bit false n i = refl

mask_small : (x : Bool) (i : ℕ) → i < 8 → mask_of x i < 256
mask_small true i low = power_small i low
mask_small false i low = rest_small (2 ^ i)

-- passing over what is done where a bit is so passes over it where it is not
not_passed : (x is c : Bool) → same x (not is) ≡ c → same x is ≡ not c
not_passed true true c e = ap not e
not_passed true false c e = ap not e
not_passed false true c e = ap not e
not_passed false false c e = ap not e

turned : (x inverted : Bool) → (if inverted then not x else x) ≡ same x (not inverted)
turned true true = refl
turned true false = refl
turned false true = refl
turned false false = refl

-- passing over a piece of one word
passed_over : (p : Piece) (ps : List Piece) (v : View) → size_of (insn_of p) ≡ 1 → paths (p ∷ ps) (size_of (insn_of p)) v ≡ paths ps 0 v
passed_over p ps v e =
    ap (λ n. paths (p ∷ ps) n v) e
    ∙ ap (λ k. if nat_le k 1 then paths ps (1 - k) v else Lost) e

skipped_good : (c : ℕ) (E : View → Type 0) (p : Piece) (ps : List Piece) (v : View) → size_of (insn_of p) ≡ 1 →
    AllGood c E (bump (1 + size_of (insn_of p)) (paths ps 0 v)) → AllGood c E (bump (1 + size_of (insn_of p)) (paths (p ∷ ps) (size_of (insn_of p)) v))
skipped_good c E p ps v e g = subst (λ q. AllGood c E (bump (1 + size_of (insn_of p)) q)) (sym (passed_over p ps v e)) g

-- where the words end, f, l and s being those of a byte that is fetched, loaded and stored
on_1 : (n p q : ℕ) → n ≡ p → q ≡ p + 1 → n + 1 ≡ q
on_1 n p q e f = omega (arith, e, f)

on_2 : (n p q : ℕ) → n ≡ p → q ≡ p + 2 → n + 1 + 1 ≡ q
on_2 n p q e f = omega (arith, e, f)

on_3 : (n p q : ℕ) → n ≡ p → q ≡ p + 3 → n + 1 + 1 + 1 ≡ q
on_3 n p q e f = omega (arith, e, f)

on_k : (n k p q : ℕ) → n ≡ p → q ≡ p + (k + 0) → n + k ≡ q
on_k n k p q e f = omega (arith, e, f)

on_1k : (n k p q : ℕ) → n ≡ p → q ≡ p + (1 + (k + 0)) → n + 1 + k ≡ q
on_1k n k p q e f = omega (arith, e, f)

on_k1 : (n k p q : ℕ) → n ≡ p → q ≡ p + (k + (1 + 0)) → n + k + 1 ≡ q
on_k1 n k p q e f = omega (arith, e, f)

on_k2 : (n k p q : ℕ) → n ≡ p → q ≡ p + (k + (2 + 0)) → n + k + 2 ≡ q
on_k2 n k p q e f = omega (arith, e, f)

on_kj : (n k j p q : ℕ) → n ≡ p → q ≡ p + (k + (j + 0)) → n + k + j ≡ q
on_kj n k j p q e f = omega (arith, e, f)

on_1k1 : (n k p q : ℕ) → n ≡ p → q ≡ p + (1 + (k + (1 + 0))) → n + 1 + k + 1 ≡ q
on_1k1 n k p q e f = omega (arith, e, f)

on_1kj : (n k j p q : ℕ) → n ≡ p → q ≡ p + (1 + (k + (j + 0))) → n + 1 + k + j ≡ q
on_1kj n k j p q e f = omega (arith, e, f)

on_1k11 : (n k p q : ℕ) → n ≡ p → q ≡ p + (1 + (k + (1 + (1 + 0)))) → n + 1 + k + 1 + 1 ≡ q
on_1k11 n k p q e f = omega (arith, e, f)

on_l1ks : (n l k s p q : ℕ) → n ≡ p → q ≡ p + (l + (1 + (k + (s + 0)))) → n + l + 1 + k + s ≡ q
on_l1ks n l k s p q e f = omega (arith, e, f)

on_l1kjs : (n l k j s p q : ℕ) → n ≡ p → q ≡ p + (l + (1 + (k + (j + (s + 0))))) → n + l + 1 + k + j + s ≡ q
on_l1kjs n l k j s p q e f = omega (arith, e, f)

on_l1jk1s : (n l j k s p q : ℕ) → n ≡ p → q ≡ p + (l + (1 + (j + (k + (1 + (s + 0)))))) → n + l + 1 + j + k + 1 + s ≡ q
on_l1jk1s n l j k s p q e f = omega (arith, e, f)

on_kjij : (n k j i d p q : ℕ) → n ≡ p → q ≡ p + (k + (j + (i + (d + 0)))) → n + k + j + i + d ≡ q
on_kjij n k j i d p q e f = omega (arith, e, f)

alike_to : (v w : View) (f : ℕ → ℕ) → Alike v w → Alike v (record w { cells = f })
alike_to v w f k = record {
  eeprom = k.eeprom;
  settings = k.settings;
  directions = k.directions;
  reading = k.reading;
  latches = k.latches;
  timing = k.timing;
  quiet = k.quiet;
  stack = k.stack;
  zero = k.zero;
}

-- cycles, where k and j are of one word
cost_k : (k : ℕ) → k ≡ 1 → 2 ≤ k + 0 + 1
cost_k k e = omega (arith, e)

cost_1k : (k : ℕ) → k ≡ 1 → 2 ≤ 1 + (k + 0) + 0
cost_1k k e = omega (arith, e)

cost_k1 : (k : ℕ) → k ≡ 1 → 2 ≤ k + (1 + 0) + 0
cost_k1 k e = omega (arith, e)

cost_1k1 : (k : ℕ) → k ≡ 1 → 3 ≤ 1 + (k + (1 + 0)) + 0
cost_1k1 k e = omega (arith, e)

cost_1k11 : (k : ℕ) → k ≡ 1 → 4 ≤ 1 + (k + (1 + (1 + 0))) + 0
cost_1k11 k e = omega (arith, e)

cost_copy : (l k s : ℕ) → k ≡ 1 → l + (1 + (1 + (2 + (s + 0)))) ≤ l + (1 + (1 + (k + (1 + (s + 0))))) + 0
cost_copy l k s e = omega (arith, e)

cost_copy_on : (l k s : ℕ) → k ≡ 1 → l + (1 + (1 + (1 + (1 + (s + 0))))) ≤ l + (1 + (1 + (k + (1 + (s + 0))))) + 0
cost_copy_on l k s e = omega (arith, e)

cost_latches : (k j : ℕ) → k ≡ 1 → j ≡ 1 → 5 ≤ k + (1 + (j + (1 + 0))) + 1
cost_latches k j e f = omega (arith, e, f)

cost_latches_on : (k j : ℕ) → k ≡ 1 → j ≡ 1 → 5 ≤ k + (1 + (j + (1 + 0))) + 1
cost_latches_on k j e f = omega (arith, e, f)

cost_jump : (k : ℕ) → k ≡ 1 → 3 ≤ k + (2 + 0) + 1
cost_jump k e = omega (arith, e)

cost_jump_on : (k : ℕ) → k ≡ 1 → 4 ≤ k + (2 + 0) + 1
cost_jump_on k e = omega (arith, e)

pub jump_sizes : (from : BitSource) (is : Bool) (p q : ℕ) →
    size_in (fetch_code from ++ (Skips from (not is) ∷ Plain (insn.Jmp p) ∷ [])) ≡ size_in (fetch_code from ++ (Skips from (not is) ∷ Plain (insn.Jmp q) ∷ []))
jump_sizes from is p q = by (fetch_code from)
  where
    by : (l : List Piece) → size_in (l ++ (Skips from (not is) ∷ Plain (insn.Jmp p) ∷ [])) ≡ size_in (l ++ (Skips from (not is) ∷ Plain (insn.Jmp q) ∷ []))
    by [] = refl
    by (x ∷ l) = ap (λ n. size_of (insn_of x) + n) (by l)

-- a bit that is not so is clear
is_clear : (x t : Bool) → same x false ≡ t → x ≡ not t
is_clear true true e = absurd (true≢false (sym e))
is_clear true false e = refl
is_clear false true e = refl
is_clear false false e = absurd (true≢false e)

both : (x inverted t : Bool) → same x inverted ≡ t → same x (not inverted) ≡ not t
both true true t e = ap not e
both true false t e = ap not e
both false true t e = ap not e
both false false t e = ap not e

less_or_same : (n : ℕ) → n ≤ n
less_or_same n = omega arith

cost_1kj : (k j : ℕ) → k ≡ 1 → j ≡ 1 → 1 + (1 + j + 0) ≤ 1 + (k + (j + 0)) + 0
cost_1kj k j e f = omega (arith, e, f)

cost_skip_mix : (k j : ℕ) → k ≡ 1 → j ≡ 1 → 3 ≤ 1 + (k + (j + 0)) + 0
cost_skip_mix k j e f = omega (arith, e, f)

cost_far : (l k j s : ℕ) → k ≡ 1 → j ≡ 1 → l + (1 + (1 + j + (s + 0))) ≤ l + (1 + (k + (j + (s + 0)))) + 0
cost_far l k j s e f = omega (arith, e, f)

cost_far_mix : (l k j s : ℕ) → k ≡ 1 → j ≡ 1 → l + (1 + (1 + (1 + (s + 0)))) ≤ l + (1 + (k + (j + (s + 0)))) + 0
cost_far_mix l k j s e f = omega (arith, e, f)

cost_latch : (k j : ℕ) → k ≡ 1 → j ≡ 1 → 1 + j + 0 ≤ k + (j + 0) + 1
cost_latch k j e f = omega (arith, e, f)

cost_latch_on : (k j : ℕ) → k ≡ 1 → j ≡ 1 → 3 ≤ k + (j + 0) + 1
cost_latch_on k j e f = omega (arith, e, f)

cost_l1ks : (l k s : ℕ) → k ≡ 1 → l + (1 + (1 + (s + 0))) ≤ l + (1 + (k + (s + 0))) + 0
cost_l1ks l k s e = omega (arith, e)

module _ (board : Board) (lay : Layout) (m : AvrState) (s : Bytes) where
  abbrev Ready : BytePrim → Type 0
  Ready p = IsReady (avr_target board) lay s p

  abbrev Goes : BytePrim → Type 0
  Goes p = Moves (steps_over (avr_step mega16) lay.flash) (StandsAt board lay.places) m (cycle_count board p) s (act lay.code p s false no_reading)

  abbrev Then : Store → Bytes
  Then d = record s { place = suc s.place; store = d }

  abbrev Place : ℕ
  Place = slice_index lay.places s.place

  abbrev Next : ℕ
  Next = slice_index lay.places (suc s.place)

  -- code that is chosen by what a cell is
  coded_as : (p : BytePrim) (q : Piece) (ps : List Piece) → Ready p → ((labels : List ℕ) → code_of board p labels ≡ q ∷ ps) →
      (act lay.code p s false no_reading).sent ≡ [] → AllPiecesFit (q ∷ ps) → StandsAt board lay.places m s →
      ((v : View) → ViewStands board lay.places v s → Next ≡ Place + size_in (q ∷ ps) →
      AllGood (size_in (q ∷ ps) + more_cycles p) (Ends board lay m s p) (paths (q ∷ ps) 0 v)) → Goes p
  coded_as p q ps ready is quiet fit st good =
      let size = ap size_in (is []) in
      coded board lay m s p q ps ready (is lay.labels) (sym size) quiet fit st
      (λ v h. subst (λ n. AllGood (n + more_cycles p) (Ends board lay m s p) (paths (q ∷ ps) 0 v)) (sym size)
      (good v h (ready.next ∙ ap (λ n. Place + n) size)))

  -- what is tested of the ports is the same
  abbrev SamePorts : BitSource → View → View → Type 0
  SamePorts (bit.Cell a b) w u = Unit {0}
  SamePorts (bit.Level port b) w u =
      (port_of u.core.devices port ≡ port_of w.core.devices port) × (u.core.devices.reading ≡ w.core.devices.reading)
  SamePorts (bit.Latch port b) w u = port_of u.core.devices port ≡ port_of w.core.devices port

  same_ports : (from : BitSource) (w u : View) → ((port : ℕ) → port_of u.core.devices port ≡ port_of w.core.devices port) →
      u.core.devices.reading ≡ w.core.devices.reading → SamePorts from w u
  same_ports (bit.Cell a b) w u ports reading = tt
  same_ports (bit.Level port b) w u ports reading = (ports port, reading)
  same_ports (bit.Latch port b) w u ports reading = ports port

  -- the view behind a bit's fetch; from there and while nothing that is tested changes the test tells the bit
  record Begun (from : BitSource) (place : ℕ) (w : View) : Type 0 where
    has : Has board lay.places w s
    at : w.core.place ≡ place
    tests : (u : View) → u.work 18 ≡ w.work 18 → u.cells ≡ w.cells → SamePorts from w u → tested u from ≡ bit_from s.store from

  module _ (from : BitSource) (reads : ReadsBit board from) (begins : s.started ≡ true) where
    test_fits : TestFits from
    test_fits = by from reads
      where
        by : (from : BitSource) → ReadsBit board from → TestFits from
        by (bit.Cell a b) r = tt
        by (bit.Level port b) r = r.0
        by (bit.Latch port b) r = r

    -- a cell that is tested is where the byte machine has it
    cell_bit : (a b : ℕ) → ReadsBit board (bit.Cell a b) → (v : View) → Has board lay.places v s → bit_of (v.cells a) (in_byte b) ≡ bit_of (cell s.store a)
        (in_byte b)
    cell_bit a b (inl c) v h = ap (λ n. bit_of n (in_byte b)) (h.holds.cells a c)
    cell_bit a b (inr wire) v h = subst (λ i. bit_of (v.cells a) i ≡ bit_of (cell s.store a) i) (sym wire.1) (h.holds.wires a wire.0)

    free : (a b : ℕ) → ReadsBit board (bit.Cell a b) → nat_lt a 32 ≡ true → is_work a ≡ false
    free a b (inl (inl low)) e = low.1
    free a b (inl (inr high)) e = let near = ltb-true a 32 e in let far = high.0 in absurd (omega (arith, near, far))
    free a b (inr wire) e = wire_free a wire.0

    far_cell : (a b : ℕ) → ReadsBit board (bit.Cell a b) → nat_lt a 32 ≡ false → IsCell a
    far_cell a b (inl c) e = c
    far_cell a b (inr wire) e = absurd (true≢false (sym (lt-ltb a 32 (wire_low a wire.0)) ∙ e))

    -- what is shown of a port
    port_bit : (port b : ℕ) → ReadsBit board (bit.Level port b) → (v : View) → Has board lay.places v s → (u : View) → SamePorts (bit.Level port b) v u →
        tested u (bit.Level port b) ≡ bit_from s.store (bit.Level port b)
    port_bit port b r v h u alike =
        let driven = (h.started begins).directions port r.0 in
        ap₂ (λ x y. bit_of (pins x (slice_index y.levels port)) (in_byte b)) alike.0 alike.1
        ∙ pins_level _ _ _ (in_byte b) (in_byte_low b) (subst (λ n. n < 256) (sym driven) (direction_small board.outputs port))
        (ap (λ n. bit_of n (in_byte b)) driven ∙ r.1)
        ∙ ap (λ x. bit_of (slice_index x.levels port) (in_byte b)) h.holds.reading

  moved_has : (v : View) (x place cycles : ℕ) → Has board lay.places v s → Has board lay.places (moved (record v { work = changed v.work 18 x }) place cycles) s
  moved_has v x place cycles h =
      let w = moved (record v { work = changed v.work 18 x }) place cycles in
      has_kept board lay.places v w s (alike v w refl refl refl (λ q. refl) refl refl refl refl) h s.store.flag s.place (λ b. refl)
      (flag_kept v.core place cycles s.store.flag h.flag)

  -- the law of code that tests a bit, from behind the fetch
  fetched_goes : (p : BytePrim) (from : BitSource) (q : Piece) (ps : List Piece) → Ready p → ReadsBit board from → s.started ≡ true →
      ((labels : List ℕ) → size_in (code_of board p labels) ≡ size_in (fetch_code from ++ (q ∷ ps))) →
      code_of board p lay.labels ≡ fetch_code from ++ (q ∷ ps) → (act lay.code p s false no_reading).sent ≡ [] → AllPiecesFit (q ∷ ps) →
      StandsAt board lay.places m s →
      ((w : View) → Begun from (Place + size_in (fetch_code from)) w → Next ≡ Place + size_in (fetch_code from) + size_in (q ∷ ps) →
      AllGood (size_in (q ∷ ps) + more_cycles p) (Ends board lay m s p) (paths (q ∷ ps) 0 w)) → Goes p
  fetched_goes p from q ps ready reads begins sizes is quiet fit st good = by from reads sizes is good
    where
      Good : BitSource → Type 0
      Good from =
          (w : View) → Begun from (Place + size_in (fetch_code from)) w → Next ≡ Place + size_in (fetch_code from) + size_in (q ∷ ps) →
          AllGood (size_in (q ∷ ps) + more_cycles p) (Ends board lay m s p) (paths (q ∷ ps) 0 w)

      -- nothing is fetched
      bare : (from : BitSource) → fetch_code from ≡ [] → size_in (code_of board p []) ≡ size_in (fetch_code from ++ (q ∷ ps)) →
          code_of board p lay.labels ≡ fetch_code from ++ (q ∷ ps) →
          ((v : View) → ViewStands board lay.places v s → (u : View) → u.cells ≡ v.cells → SamePorts from v u → tested u from ≡ bit_from s.store from) →
          Good from → Goes p
      bare from none size is tests good =
          let same : fetch_code from ++ (q ∷ ps) ≡ q ∷ ps = ap (λ l. l ++ (q ∷ ps)) none in
          let whole : size_in (code_of board p []) ≡ size_in (q ∷ ps) = size ∙ ap size_in same in
          let zero_on : Place + size_in (fetch_code from) ≡ Place = ap (λ l. Place + size_in l) none ∙ plus_none Place in
          coded board lay m s p q ps ready (is ∙ same) (sym whole) quiet fit st
          (λ v h. subst (λ n. AllGood (n + more_cycles p) (Ends board lay m s p) (paths (q ∷ ps) 0 v)) (sym whole)
          (good v (record { has = h.has; at = h.at ∙ sym zero_on; tests = λ u work. tests v h u })
          (ready.next ∙ ap (λ n. Place + n) whole ∙ ap (λ n. n + size_in (q ∷ ps)) (sym zero_on))))
        where
          plus_none : (n : ℕ) → n + 0 ≡ n
          plus_none n = omega arith

      loaded : (a b : ℕ) → nat_lt a 32 ≡ false → IsCell a → size_in (code_of board p []) ≡ size_in (fetch_code (bit.Cell a b) ++ (q ∷ ps)) →
          code_of board p lay.labels ≡ fetch_code (bit.Cell a b) ++ (q ∷ ps) → Good (bit.Cell a b) → Goes p
      loaded a b far c size is good =
          let one : fetch_code (bit.Cell a b) ≡ Loads 18 a ∷ [] = ap (λ t. if t then [] else Loads 18 a ∷ []) far in
          let same : fetch_code (bit.Cell a b) ++ (q ∷ ps) ≡ Loads 18 a ∷ q ∷ ps = ap (λ l. l ++ (q ∷ ps)) one in
          let l = load_size 18 a in
          let whole : size_in (code_of board p []) ≡ l + size_in (q ∷ ps) = size ∙ ap size_in same in
          let fetched : size_in (fetch_code (bit.Cell a b)) ≡ l + 0 = ap size_in one in
          coded board lay m s p (Loads 18 a) (q ∷ ps) ready (is ∙ same) (sym whole) quiet ((lit< tt, c), fit) st
          (λ v h.
          let w = moved (record v { work = changed v.work 18 (v.cells a) }) (v.core.place + l) l in
          subst (λ n. AllGood n (Ends board lay m s p) (paths (Loads 18 a ∷ q ∷ ps) 0 v))
          (cost l (size_in (q ∷ ps)) (more_cycles p) (size_in (code_of board p [])) whole)
          (good_bump l (size_in (q ∷ ps) + more_cycles p) (Ends board lay m s p) (paths (q ∷ ps) 0 w)
          (good w (record {
            has = moved_has v (v.cells a) (v.core.place + l) l h.has;
            at = place v.core.place Place l (size_in (fetch_code (bit.Cell a b))) h.at fetched;
            tests = λ u work cells ports. ap (λ t. bit_of (if t then see u a else u.work 18) (in_byte b)) far ∙ ap (λ n. bit_of n (in_byte b)) (work
                ∙ h.has.holds.cells a c);
          }) (next Place l (size_in (q ∷ ps)) (size_in (fetch_code (bit.Cell a b))) _ _ ready.next whole fetched))))
        where
          cost : (l n k w : ℕ) → w ≡ l + n → l + (n + k) ≡ w + k
          cost l n k w e = omega (arith, e)

          place : (v p l f : ℕ) → v ≡ p → f ≡ l + 0 → v + l ≡ p + f
          place v p l f e g = omega (arith, e, g)

          next : (p l n f w t : ℕ) → t ≡ p + w → w ≡ l + n → f ≡ l + 0 → t ≡ p + f + n
          next p l n f w t e g h = omega (arith, e, g, h)

      cells : (a b : ℕ) (c : Bool) → nat_lt a 32 ≡ c → ReadsBit board (bit.Cell a b) →
          size_in (code_of board p []) ≡ size_in (fetch_code (bit.Cell a b) ++ (q ∷ ps)) →
          code_of board p lay.labels ≡ fetch_code (bit.Cell a b) ++ (q ∷ ps) → Good (bit.Cell a b) → Goes p
      cells a b true e r size is good =
          bare (bit.Cell a b) (ap (λ t. if t then [] else Loads 18 a ∷ []) e) size is
          (λ v h u same ports. ap (λ t. bit_of (if t then see u a else u.work 18) (in_byte b)) e
          ∙ ap (λ t. bit_of (if t then u.work a else u.cells a) (in_byte b)) (free (bit.Cell a b) r begins a b r e)
          ∙ ap (λ f. bit_of (f a) (in_byte b)) same
          ∙ cell_bit (bit.Cell a b) r begins a b r v h.has) good
      cells a b false e r size is good = loaded a b e (far_cell (bit.Cell a b) r begins a b r e) size is good

      by : (from : BitSource) → ReadsBit board from → ((labels : List ℕ) → size_in (code_of board p labels) ≡ size_in (fetch_code from ++ (q ∷ ps))) →
          code_of board p lay.labels ≡ fetch_code from ++ (q ∷ ps) → Good from → Goes p
      by (bit.Cell a b) r sizes is good = cells a b (nat_lt a 32) refl r (sizes []) is good
      by (bit.Level port b) r sizes is good =
          bare (bit.Level port b) refl (sizes []) is (λ v h u same. port_bit (bit.Level port b) r begins port b r v h.has u) good
      by (bit.Latch port b) r sizes is good =
          bare (bit.Latch port b) refl (sizes []) is
          (λ v h u same ports. ap (λ x. bit_of x.latch (in_byte b)) ports ∙ ap (λ n. bit_of n (in_byte b)) (h.has.holds.latches port r)) good

  -- what is done where a bit is so, by a test that passes over it
  picked : (from : BitSource) (x : Bool) (w : View) (is c : Bool) → x ≡ bit_from s.store from → same x (not is) ≡ c → (d : Store) →
      Has board lay.places w (Then (plain (if not c then d else s.store))) →
      Has board lay.places w (Then (plain (if same (bit_from s.store from) is then d else s.store)))
  picked from x w is c tests e d has =
      let so : same (bit_from s.store from) is ≡ not c = ap (λ b. same b is) (sym tests) ∙ not_passed x is c e in
      subst (λ b. Has board lay.places w (Then (plain (if b then d else s.store)))) (sym so) has

  -- a bit that is copied, by a test of whether what comes of it is true
  copied : (from : BitSource) (x : Bool) (w : View) (inverted c : Bool) → x ≡ bit_from s.store from → same x (not inverted) ≡ c → (to : BitDest) →
      Has board lay.places w (Then (plain (with_bit_at s.store to c))) →
      Has board lay.places w (Then (plain (with_bit_at s.store to (if inverted then not (bit_from s.store from) else bit_from s.store from))))
  copied from x w inverted c tests e to has =
      let so : (if inverted then not (bit_from s.store from) else bit_from s.store from) ≡ c =
      ap (λ b. if inverted then not b else b) (sym tests) ∙ turned x inverted ∙ e in
      subst (λ b. Has board lay.places w (Then (plain (with_bit_at s.store to b)))) (sym so) has

  -- the same by the bit itself
  taken : (from : BitSource) (x : Bool) (w : View) (inverted c : Bool) → x ≡ bit_from s.store from → x ≡ c → (to : BitDest) →
      Has board lay.places w (Then (plain (with_bit_at s.store to (if inverted then not c else c)))) →
      Has board lay.places w (Then (plain (with_bit_at s.store to (if inverted then not (bit_from s.store from) else bit_from s.store from))))
  taken from x w inverted c tests e to has =
      subst (λ b. Has board lay.places w (Then (plain (with_bit_at s.store to (if inverted then not b else b))))) (sym (sym tests ∙ e)) has

  plain_bit : (from : BitSource) → bit_from (plain s.store) from ≡ bit_from s.store from
  plain_bit (bit.Cell a b) = refl
  plain_bit (bit.Level port b) = refl
  plain_bit (bit.Latch port b) = refl

  -- where a jump by a bit goes on
  placed : (from : BitSource) (x : Bool) (w : View) (l : ℕ) (is c : Bool) → x ≡ bit_from s.store from → same x (not is) ≡ c →
      ViewStands board lay.places w (goes_to s (plain s.store) (if not c then label_place lay.code l else suc s.place)) →
      ViewStands board lay.places w
      (goes_to s (plain s.store) (if same (bit_from (plain s.store) from) is then label_place lay.code l else suc s.place))
  placed from x w l is c tests e stands =
      let so : same (bit_from (plain s.store) from) is ≡ not c =
      ap (λ b. same b is) (plain_bit from ∙ sym tests) ∙ not_passed x is c e in
      subst (λ b. ViewStands board lay.places w (goes_to s (plain s.store) (if b then label_place lay.code l else suc s.place))) (sym so) stands

  picked_flag : (is x : Bool) → value_of s.store.flag ≡ x → {w : View} (d : Store) → Has board lay.places w (Then (if same x is then d else s.store)) →
      Has board lay.places w (Then (if same (value_of s.store.flag) is then d else s.store))
  picked_flag is x e {w} d has = subst (λ b. Has board lay.places w (Then (if same b is then d else s.store))) (sym e) has

  -- nothing but the place is another
  kept_then : (v w : View) → Has board lay.places v s → Alike v w → ((b : ℕ) → w.cells b ≡ v.cells b) → Has board lay.places w (Then (plain s.store))
  kept_then v w h k same = has_kept board lay.places v w s k h None (suc s.place) same tt

  pub put_power : (b : ℕ) (x : Bool) → in_byte b ≡ 0 → Ready (Bit (bits.Put (dest.Cell 20 b) x)) → StandsAt board lay.places m s →
      Goes (Bit (bits.Put (dest.Cell 20 b) x))
  put_power b x zero_bit ready st = coded_as (Bit (bits.Put (dest.Cell 20 b) x)) (Plain (insn.Ldi 20 (as_bit x))) ([]) ready ((λ labels. refl)) refl
      ((lit≤ tt, lit< tt, bit_small x), tt) st (λ v h next. (
        lit≤ tt,
        record {
          has =
              has_wire board lay.places v _ s (alike _ _ refl refl refl (λ q. refl) refl refl refl refl) h.has None 20 (as_bit x) (in_byte b) (x) refl zero_bit
              (λ c. refl) (low_of x) tt;
          at = on_1 v.core.place _ _ h.at next;
        },
      ))

  pub put_wire_true : (a b : ℕ) → (a == 20) ≡ false → is_wire a ≡ true → in_byte b ≡ 0 → Ready (Bit (bits.Put (dest.Cell a b) true)) →
      StandsAt board lay.places m s → Goes (Bit (bits.Put (dest.Cell a b) true))
  put_wire_true a b other wire zero_bit ready st = coded_as (Bit (bits.Put (dest.Cell a b) true)) (Plain (insn.Ldi 16 1)) (Gives a 16 ∷
      []) ready ((λ labels. by_wire a _ _ _ other wire)) refl (
        (lit≤ tt, lit< tt, lit< tt),
        ((lit< tt, wire_low a wire, wire_free a wire), tt),
      ) st (λ v h next. (
        lit≤ tt,
        record {
          has = has_wire board lay.places v _ s (alike _ _ refl refl refl (λ q. refl) refl refl refl refl) h.has None a 1 (in_byte b)
              (true) wire zero_bit (λ c. refl) refl tt;
          at = on_2 v.core.place _ _ h.at next;
        },
      ))

  -- R1 holds 0
  pub put_wire_false : (a b : ℕ) → (a == 20) ≡ false → is_wire a ≡ true → in_byte b ≡ 0 → Ready (Bit (bits.Put (dest.Cell a b) false)) →
      StandsAt board lay.places m s → Goes (Bit (bits.Put (dest.Cell a b) false))
  put_wire_false a b other wire zero_bit ready st = coded_as (Bit (bits.Put (dest.Cell a b) false)) (Gives a 1) ([]) ready
      ((λ labels. by_wire a _ _ _ other wire)) refl ((lit< tt, wire_low a wire, wire_free a wire), tt) st (λ v h next. (
        lit≤ tt,
        record {
          has = has_wire board lay.places v _ s (alike _ _ refl refl refl (λ q. refl) refl refl refl refl) h.has None a (v.work 1) (in_byte b)
              (false) wire zero_bit (λ c. refl) (ap (λ n. bit_of n 0) (h.has.started ready.begins).zero) tt;
          at = on_1 v.core.place _ _ h.at next;
        },
      ))

  -- a bit of a byte by its mask
  mixed_cell : (a b : ℕ) (x : Bool) → IsCell a → (v : View) → Has board lay.places v s →
      mixed x (v.cells a) (mask_of x (in_byte b)) ≡ with_bit (cell s.store a) (in_byte b) x
  mixed_cell a b x byte v h = ap (λ n. mixed x n (mask_of x (in_byte b))) (h.holds.cells a byte) ∙ mixed_bit x (cell s.store a) (in_byte b)

  bit_small_cell : (a b : ℕ) (x : Bool) (v : View) → Has board lay.places v s → with_bit (cell s.store a) (in_byte b) x < 256
  bit_small_cell a b x v h = with_bit_small (cell s.store a) (in_byte b) x (h.holds.bytes a) (in_byte_low b)

  byte_code : {X : Type 0} (a : ℕ) (power wire near far : X) → IsCell a → (c : Bool) → nat_lt a 32 ≡ c →
      by_cell a power wire (if nat_lt a 32 then near else far) ≡ (if c then near else far)
  byte_code a power wire near far byte c e = by_byte a power wire (if nat_lt a 32 then near else far) (plain_cell a byte) ∙ ap (λ t. if t then near else far) e

  near_free : (a : ℕ) → IsCell a → nat_lt a 32 ≡ true → is_work a ≡ false
  near_free a (inl low) e = low.1
  near_free a (inr high) e = let near = ltb-true a 32 e in let far = high.0 in absurd (omega (arith, near, far))

  -- a register that is a cell takes or loses a bit
  mixed_has : (a b : ℕ) (x : Bool) → IsCell a → is_work a ≡ false → (v u : View) → Has board lay.places v s → u.cells ≡ v.cells →
      see u 17 ≡ mask_of x (in_byte b) → (c : AvrState) (place cycles : ℕ) → Alike v (record u { core = at_place c place cycles }) →
      Has board lay.places (moved (put (record u { core = c }) a (mixed x (see u a) (see u 17))) place cycles)
      (Then (plain (with_bit_at s.store (dest.Cell a b) x)))
  mixed_has a b x byte free v u h same mask c place cycles k =
      let val = mixed x (see u a) (see u 17) in
      let w = record u { core = at_place c place cycles; cells = changed v.cells a val } in
      let value : val ≡ with_bit (cell s.store a) (in_byte b) x =
      ap₂ (mixed x) (ap (λ t. if t then u.work a else u.cells a) free ∙ ap (λ f. f a) same) mask ∙ mixed_cell a b x byte v h in
      subst (λ (y : View). Has board lay.places (moved y place cycles) (Then (plain (with_bit_at s.store (dest.Cell a b) x))))
      (sym (cell_put (record u { core = c }) a val free))
      (has_cell board lay.places v (moved (record u { core = c; cells = changed u.cells a val }) place cycles) s (alike_to _ _ _ k) h a val (with_bit (cell s.store a) (in_byte b) x) byte
      (ap (λ f. changed f a val) same) value (bit_small_cell a b x v h))

  pub put_byte_near : (a b : ℕ) (x : Bool) → IsCell a → nat_lt a 32 ≡ true → Ready (Bit (bits.Put (dest.Cell a b) x)) → StandsAt board lay.places m s →
      Goes (Bit (bits.Put (dest.Cell a b) x))
  put_byte_near a b x byte e ready st = coded_as (Bit (bits.Put (dest.Cell a b) x)) (Plain (insn.Ldi 17 (mask_of x (in_byte b)))) (Mixes a 17 x ∷ []) ready
      (λ labels. byte_code a _ _ _ _ byte true e) refl (
        (lit≤ tt, lit< tt, mask_small x (in_byte b) (in_byte_low b)),
        ((ltb-true a 32 e, lit< tt), tt),
      ) st
      (λ v h next.
      let u = moved (record v { work = changed v.work 17 (mask_of x (in_byte b)) }) (v.core.place + 1) 1 in (
        cost_1k _ (mix_size a 17 x),
        record {
          has = mixed_has a b x byte (near_free a byte e) v u h.has refl refl
              (keeping (λ c. with_result c a (mixed x (see u a) (see u 17)) false) u.core) (u.core.place + size_of (insn_of (Mixes a 17 x))) 1
              (alike v _ refl refl refl (λ q. refl) refl refl refl refl);
          at = on_1k v.core.place _ _ _ h.at next;
        },
      ))

  pub put_byte_far : (a b : ℕ) (x : Bool) → IsCell a → nat_lt a 32 ≡ false → Ready (Bit (bits.Put (dest.Cell a b) x)) → StandsAt board lay.places m s →
      Goes (Bit (bits.Put (dest.Cell a b) x))
  put_byte_far a b x byte e ready st = coded_as (Bit (bits.Put (dest.Cell a b) x)) (Loads 16 a) (Plain (insn.Ldi 17 (mask_of x (in_byte b))) ∷
      Mixes 16 17 x ∷ Stores a 16 ∷ []) ready (λ labels. byte_code a _ _ _ _ byte false e) refl (
        (lit< tt, byte),
        ((lit≤ tt, lit< tt, mask_small x (in_byte b) (in_byte_low b)), ((lit< tt, lit< tt), ((lit< tt, byte), tt))),
      ) st
      (λ v h next. (
        cost_l1ks _ _ _ (mix_size 16 17 x),
        record {
          has = has_cell board lay.places v _ s (alike _ _ refl refl refl (λ q. refl) refl refl refl refl) h.has a
              (mixed x (v.cells a) (mask_of x (in_byte b))) (with_bit (cell s.store a) (in_byte b) x) byte refl (mixed_cell a b x byte v h.has)
              (bit_small_cell a b x v h.has);
          at = on_l1ks v.core.place (load_size 16 a) _ (store_size a 16) _ _ h.at next;
        },
      ))

  pub put_latch : (port b : ℕ) (x : Bool) → port < 4 → Ready (Bit (bits.Put (dest.Latch port b) x)) → StandsAt board lay.places m s →
      Goes (Bit (bits.Put (dest.Latch port b) x))
  put_latch port b x below ready st = coded_as (Bit (bits.Put (dest.Latch port b) x)) (Latches port (in_byte b) x) ([]) ready
      ((λ labels. refl)) refl ((below, in_byte_low b), tt) st (λ v h next. (
        cost_k _ (latch_size port (in_byte b) x),
        record {
          has = has_latch board lay.places v (v) _ s port (in_byte b) x below h.has (alike _ _ refl refl refl (λ q. refl) refl refl refl refl)
              (alike _ _ refl refl refl (λ q. refl) refl refl refl refl) refl;
          at = on_k v.core.place _ _ _ h.at next;
        },
      ))

  pub put_if_power : (from : BitSource) (is : Bool) (b : ℕ) (x : Bool) → ReadsBit board from → in_byte b ≡ 0 →
      Ready (Bit (bits.PutIf from is (dest.Cell 20 b) x)) → StandsAt board lay.places m s → Goes (Bit (bits.PutIf from is (dest.Cell 20 b) x))
  put_if_power from is b x reads zero_bit ready st = fetched_goes (Bit (bits.PutIf from is (dest.Cell 20 b) x)) from (Skips from (not is))
      (Plain (insn.Ldi 20 (as_bit x)) ∷ []) ready reads ready.begins (λ labels. refl) refl refl
      (test_fits from reads ready.begins, ((lit≤ tt, lit< tt, bit_small x), tt)) st
      (λ w h next. (
        λ t. (
          cost_k1 _ (skip_size from (not is)),
          record {
            has = picked from (tested w from) _ is true (h.tests w refl refl (same_ports from w w (λ q. refl) refl)) t (with_bit_at s.store (dest.Cell 20 b) x)
                (kept_then w _ h.has (alike _ _ refl refl refl (λ q. refl) refl refl refl refl) (λ c. refl));
            at = on_k1 w.core.place _ _ _ h.at next;
          },
        ),
        λ t. (
          cost_k1 _ (skip_size from (not is)),
          record {
            has = picked from (tested w from) _ is false (h.tests w refl refl (same_ports from w w (λ q. refl) refl)) t (with_bit_at s.store (dest.Cell 20 b) x)
                (has_wire board lay.places w _ s (alike _ _ refl refl refl (λ q. refl) refl refl refl refl) h.has None 20 (as_bit x) (in_byte b) (x) refl
                zero_bit (λ c. refl) (low_of x) tt);
            at = on_k1 w.core.place _ _ _ h.at next;
          },
        ),
      ))

  pub put_if_wire_true : (from : BitSource) (is : Bool) (a b : ℕ) → ReadsBit board from → (a == 20) ≡ false → is_wire a ≡ true → in_byte b ≡ 0 →
      Ready (Bit (bits.PutIf from is (dest.Cell a b) true)) → StandsAt board lay.places m s → Goes (Bit (bits.PutIf from is (dest.Cell a b) true))
  put_if_wire_true from is a b reads other wire zero_bit ready st = fetched_goes (Bit (bits.PutIf from is (dest.Cell a b) true)) from (Plain (insn.Ldi 16 1))
      (Skips from (not is) ∷ Gives a 16 ∷ []) ready reads ready.begins (λ labels. ap (λ l. size_in (fetch_code from ++ l)) (by_wire a _ _ _ other wire))
      (ap (λ l. fetch_code from ++ l) (by_wire a _ _ _ other wire)) refl
      ((lit≤ tt, lit< tt, lit< tt), (test_fits from reads ready.begins, ((lit< tt, wire_low a wire, wire_free a wire), tt))) st
      (λ w h next.
      let u = moved (record w { work = changed w.work 16 1 }) (w.core.place + 1) 1 in
      let tests = h.tests u refl refl (same_ports from w u (λ q. refl) refl) in (
        λ t. (
          cost_1k1 _ (skip_size from (not is)),
          record {
            has = picked from (tested u from) _ is true tests t (with_bit_at s.store (dest.Cell a b) true)
                (kept_then w _ h.has (alike _ _ refl refl refl (λ q. refl) refl refl refl refl) (λ c. refl));
            at = on_1k1 w.core.place _ _ _ h.at next;
          },
        ),
        λ t. (
          cost_1k1 _ (skip_size from (not is)),
          record {
            has = picked from (tested u from) _ is false tests t (with_bit_at s.store (dest.Cell a b) true)
                (has_wire board lay.places w _ s (alike _ _ refl refl refl (λ q. refl) refl refl refl refl) h.has None a 1 (in_byte b) (true) wire
                zero_bit (λ c. refl) refl tt);
            at = on_1k1 w.core.place _ _ _ h.at next;
          },
        ),
      ))

  pub put_if_wire_false : (from : BitSource) (is : Bool) (a b : ℕ) → ReadsBit board from → (a == 20) ≡ false → is_wire a ≡ true → in_byte b ≡ 0 →
      Ready (Bit (bits.PutIf from is (dest.Cell a b) false)) → StandsAt board lay.places m s → Goes (Bit (bits.PutIf from is (dest.Cell a b) false))
  put_if_wire_false from is a b reads other wire zero_bit ready st = fetched_goes (Bit (bits.PutIf from is (dest.Cell a b) false)) from (Skips from (not is))
      (Gives a 1 ∷ []) ready reads ready.begins (λ labels. ap (λ l. size_in (fetch_code from ++ l)) (by_wire a _ _ _ other wire))
      (ap (λ l. fetch_code from ++ l) (by_wire a _ _ _ other wire)) refl
      (test_fits from reads ready.begins, ((lit< tt, wire_low a wire, wire_free a wire), tt)) st
      (λ w h next.
      let tests = h.tests w refl refl (same_ports from w w (λ q. refl) refl) in (
        λ t. (
          cost_k1 _ (skip_size from (not is)),
          record {
            has = picked from (tested w from) _ is true tests t (with_bit_at s.store (dest.Cell a b) false)
                (kept_then w _ h.has (alike _ _ refl refl refl (λ q. refl) refl refl refl refl) (λ c. refl));
            at = on_k1 w.core.place _ _ _ h.at next;
          },
        ),
        λ t. (
          cost_k1 _ (skip_size from (not is)),
          record {
            has = picked from (tested w from) _ is false tests t (with_bit_at s.store (dest.Cell a b) false)
                (has_wire board lay.places w _ s (alike _ _ refl refl refl (λ q. refl) refl refl refl refl) h.has None a (w.work 1) (in_byte b) (false) wire
                zero_bit (λ c. refl) (ap (λ n. bit_of n 0) (h.has.started ready.begins).zero) tt);
            at = on_k1 w.core.place _ _ _ h.at next;
          },
        ),
      ))

  pub put_if_byte_near : (from : BitSource) (is : Bool) (a b : ℕ) (x : Bool) → ReadsBit board from → IsCell a → nat_lt a 32 ≡ true →
      Ready (Bit (bits.PutIf from is (dest.Cell a b) x)) → StandsAt board lay.places m s → Goes (Bit (bits.PutIf from is (dest.Cell a b) x))
  put_if_byte_near from is a b x reads byte e ready st = fetched_goes (Bit (bits.PutIf from is (dest.Cell a b) x)) from
      (Plain (insn.Ldi 17 (mask_of x (in_byte b)))) (Skips from (not is) ∷ Mixes a 17 x ∷ []) ready reads ready.begins
      (λ labels. ap (λ l. size_in (fetch_code from ++ l)) (byte_code a _ _ _ _ byte true e)) (ap (λ l. fetch_code from ++ l) (byte_code a _ _ _ _ byte true e)) refl
      ((lit≤ tt, lit< tt, mask_small x (in_byte b) (in_byte_low b)), (test_fits from reads ready.begins, ((ltb-true a 32 e, lit< tt), tt))) st
      (λ w h next.
      let p = Bit (bits.PutIf from is (dest.Cell a b) x) in
      let k = size_of (insn_of (Skips from (not is))) in
      let j = size_of (insn_of (Mixes a 17 x)) in
      let u = moved (record w { work = changed w.work 17 (mask_of x (in_byte b)) }) (w.core.place + 1) 1 in
      let y = moved u (u.core.place + k) 1 in
      let z = moved u (u.core.place + k + j) (1 + j) in
      let tests = h.tests u refl refl (same_ports from w u (λ q. refl) refl) in
      let d = with_bit_at s.store (dest.Cell a b) x in (
        λ t.
            good_more (1 + (1 + j + 0)) (1 + (k + (j + 0)) + 0) (Ends board lay m s p) (bump 1 (bump (1 + j) (paths (Mixes a 17 x ∷ []) j z)))
            (cost_1kj k j (skip_size from (not is)) (mix_size a 17 x))
            (good_bump 1 (1 + j + 0) (Ends board lay m s p) (bump (1 + j) (paths (Mixes a 17 x ∷ []) j z))
            (skipped_good (1 + j + 0) (Ends board lay m s p) (Mixes a 17 x) [] z (mix_size a 17 x) (
              less_or_same (1 + j + 0),
              record {
                has = picked from (tested u from) z is true tests t d
                    (kept_then w z h.has (alike w z refl refl refl (λ q. refl) refl refl refl refl) (λ c. refl));
                at = on_1kj w.core.place k j _ _ h.at next;
              },
            ))),
        λ t. (
          cost_skip_mix k j (skip_size from (not is)) (mix_size a 17 x),
          record {
            has = picked from (tested u from) _ is false tests t d
                (mixed_has a b x byte (near_free a byte e) w y h.has refl refl
                (keeping (λ c. with_result c a (mixed x (see y a) (see y 17)) false) y.core) (y.core.place + j) 1
                (alike w _ refl refl refl (λ q. refl) refl refl refl refl));
            at = on_1kj w.core.place k j _ _ h.at next;
          },
        ),
      ))

  pub put_if_byte_far : (from : BitSource) (is : Bool) (a b : ℕ) (x : Bool) → ReadsBit board from → IsCell a → nat_lt a 32 ≡ false →
      Ready (Bit (bits.PutIf from is (dest.Cell a b) x)) → StandsAt board lay.places m s → Goes (Bit (bits.PutIf from is (dest.Cell a b) x))
  put_if_byte_far from is a b x reads byte e ready st = fetched_goes (Bit (bits.PutIf from is (dest.Cell a b) x)) from
      (Loads 16 a) (Plain (insn.Ldi 17 (mask_of x (in_byte b))) ∷ Skips from (not is) ∷ Mixes 16 17 x ∷ Stores a 16 ∷ []) ready reads ready.begins
      (λ labels. ap (λ l. size_in (fetch_code from ++ l)) (byte_code a _ _ _ _ byte false e))
      (ap (λ l. fetch_code from ++ l) (byte_code a _ _ _ _ byte false e)) refl (
        (lit< tt, byte),
        (
          (lit≤ tt, lit< tt, mask_small x (in_byte b) (in_byte_low b)),
          (test_fits from reads ready.begins, ((lit< tt, lit< tt), ((lit< tt, byte), tt))),
        ),
      ) st
      (λ w h next.
      let p = Bit (bits.PutIf from is (dest.Cell a b) x) in
      let l = load_size 16 a in
      let k = size_of (insn_of (Skips from (not is))) in
      let j = size_of (insn_of (Mixes 16 17 x)) in
      let e = store_size a 16 in
      let g = moved (record w { work = changed w.work 16 (w.cells a) }) (w.core.place + l) l in
      let u = moved (record g { work = changed g.work 17 (mask_of x (in_byte b)) }) (g.core.place + 1) 1 in
      let z = moved u (u.core.place + k + j) (1 + j) in
      let tests = h.tests u refl refl (same_ports from w u (λ q. refl) refl) in
      let d = with_bit_at s.store (dest.Cell a b) x in (
        λ t.
            good_more (l + (1 + (1 + j + (e + 0)))) (l + (1 + (k + (j + (e + 0)))) + 0) (Ends board lay m s p)
            (bump l (bump 1 (bump (1 + j) (paths (Mixes 16 17 x ∷ Stores a 16 ∷ []) j z))))
            (cost_far l k j e (skip_size from (not is)) (mix_size 16 17 x))
            (good_bump l (1 + (1 + j + (e + 0))) (Ends board lay m s p) (bump 1 (bump (1 + j) (paths (Mixes 16 17 x ∷ Stores a 16 ∷ []) j z)))
            (good_bump 1 (1 + j + (e + 0)) (Ends board lay m s p) (bump (1 + j) (paths (Mixes 16 17 x ∷ Stores a 16 ∷ []) j z))
            (skipped_good (1 + j + (e + 0)) (Ends board lay m s p) (Mixes 16 17 x) (Stores a 16 ∷ []) z (mix_size 16 17 x) (
              less_or_same (1 + j + (e + 0)),
              record {
                has = picked from (tested u from) _ is true tests t d
                    (kept_then w _ h.has (alike w _ refl refl refl (λ q. refl) refl refl refl refl) (written_back w.cells a));
                at = on_l1kjs w.core.place l k j e _ _ h.at next;
              },
            )))),
        λ t. (
          cost_far_mix l k j e (skip_size from (not is)) (mix_size 16 17 x),
          record {
            has = picked from (tested u from) _ is false tests t d
                (has_cell board lay.places w _ s (alike _ _ refl refl refl (λ q. refl) refl refl refl refl) h.has a
                (mixed x (w.cells a) (mask_of x (in_byte b))) (with_bit (cell s.store a) (in_byte b) x) byte refl (mixed_cell a b x byte w h.has)
                (bit_small_cell a b x w h.has));
            at = on_l1kjs w.core.place l k j e _ _ h.at next;
          },
        ),
      ))

  pub put_if_latch : (from : BitSource) (is : Bool) (port b : ℕ) (x : Bool) → ReadsBit board from → port < 4 →
      Ready (Bit (bits.PutIf from is (dest.Latch port b) x)) → StandsAt board lay.places m s → Goes (Bit (bits.PutIf from is (dest.Latch port b) x))
  put_if_latch from is port b x reads below ready st = fetched_goes (Bit (bits.PutIf from is (dest.Latch port b) x)) from (Skips from (not is))
      (Latches port (in_byte b) x ∷ []) ready reads ready.begins (λ labels. refl) refl refl
      (test_fits from reads ready.begins, ((below, in_byte_low b), tt)) st
      (λ w h next.
      let p = Bit (bits.PutIf from is (dest.Latch port b) x) in
      let k = size_of (insn_of (Skips from (not is))) in
      let j = size_of (insn_of (Latches port (in_byte b) x)) in
      let y = moved w (w.core.place + k) 1 in
      let z = moved w (w.core.place + k + j) (1 + j) in
      let tests = h.tests w refl refl (same_ports from w w (λ q. refl) refl) in
      let d = with_bit_at s.store (dest.Latch port b) x in (
        λ t.
            good_more (1 + j + 0) (k + (j + 0) + 1) (Ends board lay m s p) (bump (1 + j) (paths (Latches port (in_byte b) x ∷ []) j z))
            (cost_latch k j (skip_size from (not is)) (latch_size port (in_byte b) x))
            (skipped_good (1 + j + 0) (Ends board lay m s p) (Latches port (in_byte b) x) [] z (latch_size port (in_byte b) x) (
              less_or_same (1 + j + 0),
              record {
                has = picked from (tested w from) z is true tests t d
                    (kept_then w z h.has (alike w z refl refl refl (λ q. refl) refl refl refl refl) (λ c. refl));
                at = on_kj w.core.place k j _ _ h.at next;
              },
            )),
        λ t. (
          cost_latch_on k j (skip_size from (not is)) (latch_size port (in_byte b) x),
          record {
            has = picked from (tested w from) _ is false tests t d
                (has_latch board lay.places w y _ s port (in_byte b) x below h.has (alike _ _ refl refl refl (λ q. refl) refl refl refl refl)
                (alike _ _ refl refl refl (λ q. refl) refl refl refl refl) refl);
            at = on_kj w.core.place k j _ _ h.at next;
          },
        ),
      ))

  wire_code : (a b : ℕ) (from : BitSource) (inverted : Bool) → is_wire a ≡ true → (l : List Piece) → copy_wire a from inverted ≡ l →
      copy_code (dest.Cell a b) from inverted ≡ l
  wire_code a b from inverted wire l e = ap (λ t. if t then copy_wire a from inverted else copy_byte a (in_byte b) from inverted) wire ∙ e

  -- a wire takes another as it is
  pub copy_whole : (c d a b : ℕ) → ReadsBit board (bit.Cell c d) → is_wire c ≡ true → is_wire a ≡ true → in_byte b ≡ 0 →
      Ready (Bit (bits.Copy (dest.Cell a b) (bit.Cell c d) false)) → StandsAt board lay.places m s → Goes (Bit (bits.Copy (dest.Cell a b) (bit.Cell c d) false))
  copy_whole c d a b reads from wire zero_bit ready st = coded_as (Bit (bits.Copy (dest.Cell a b) (bit.Cell c d) false)) (Gives a c) ([]) ready
      (λ labels. wire_code a b (bit.Cell c d) false wire (Gives a c ∷ [])
      (ap (λ t. if t && true then Gives a c ∷ [] else wire_taken a (bit.Cell c d) false) from)) refl
      ((wire_low c from, wire_low a wire, wire_free a wire), tt) st
      (λ v h next. (
        lit≤ tt,
        record {
          has = has_wire board lay.places v _ s (alike _ _ refl refl refl (λ q. refl) refl refl refl refl) h.has None a (see v c) (in_byte b)
              (bit_of (cell s.store c) (in_byte d)) wire zero_bit (λ q. refl)
              (ap (λ t. bit_of (if t then v.work c else v.cells c) 0) (wire_free c from) ∙ ap (λ i. bit_of (v.cells c) i) (sym (low_bit reads))
              ∙ cell_bit (bit.Cell c d) reads ready.begins c d reads v h.has) tt;
          at = on_1 v.core.place _ _ h.at next;
        },
      ))
    where
      low_bit : ReadsBit board (bit.Cell c d) → in_byte d ≡ 0
      low_bit (inl plain) = absurd (true≢false (sym from ∙ plain_cell c plain))
      low_bit (inr one) = one.1

  -- or a bit by way of R16
  pub copy_taken : (from : BitSource) (a b : ℕ) (inverted : Bool) → ReadsBit board from → is_wire a ≡ true → in_byte b ≡ 0 →
      copy_wire a from inverted ≡ wire_taken a from inverted → Ready (Bit (bits.Copy (dest.Cell a b) from inverted)) → StandsAt board lay.places m s →
      Goes (Bit (bits.Copy (dest.Cell a b) from inverted))
  copy_taken from a b inverted reads wire zero_bit is ready st = fetched_goes (Bit (bits.Copy (dest.Cell a b) from inverted)) from
      (Plain (insn.Ldi 16 (as_bit inverted))) (Skips from false ∷ Plain (insn.Ldi 16 (as_bit (not inverted))) ∷ Gives a 16 ∷ []) ready reads ready.begins
      (λ labels. ap size_in (wire_code a b from inverted wire (wire_taken a from inverted) is)) (wire_code a b from inverted wire (wire_taken a from inverted) is)
      refl (
        (lit≤ tt, lit< tt, bit_small inverted),
        (
          test_fits from reads ready.begins,
          ((lit≤ tt, lit< tt, bit_small (not inverted)), ((lit< tt, wire_low a wire, wire_free a wire), tt)),
        ),
      ) st
      (λ w h next.
      let u = moved (record w { work = changed w.work 16 (as_bit inverted) }) (w.core.place + 1) 1 in
      let tests = h.tests u refl refl (same_ports from w u (λ q. refl) refl) in (
        λ t. (
          cost_1k11 _ (skip_size from false),
          record {
            has = taken from (tested u from) _ inverted false tests (is_clear (tested u from) true t) (dest.Cell a b)
                (has_wire board lay.places w _ s (alike _ _ refl refl refl (λ q. refl) refl refl refl refl) h.has None a (as_bit inverted) (in_byte b)
                (if inverted then not false else false) wire zero_bit (λ c. refl) (flip_false inverted) tt);
            at = on_1k11 w.core.place _ _ _ h.at next;
          },
        ),
        λ t. (
          cost_1k11 _ (skip_size from false),
          record {
            has = taken from (tested u from) _ inverted true tests (is_clear (tested u from) false t) (dest.Cell a b)
                (has_wire board lay.places w _ s (alike _ _ refl refl refl (λ q. refl) refl refl refl refl) h.has None a (as_bit (not inverted)) (in_byte b)
                (if inverted then not true else true) wire zero_bit (λ c. refl) (flip_true inverted) tt);
            at = on_1k11 w.core.place _ _ _ h.at next;
          },
        ),
      ))

  byte_copied : (a b : ℕ) (from : BitSource) (inverted : Bool) → IsCell a → copy_code (dest.Cell a b) from inverted ≡ copy_byte a (in_byte b) from inverted
  byte_copied a b from inverted byte =
      ap (λ t. if t then copy_wire a from inverted else copy_byte a (in_byte b) from inverted) (plain_cell a byte)

  -- the bit is set, and turned round where it is to be clear
  pub copy_byte_goes : (from : BitSource) (a b : ℕ) (inverted : Bool) → ReadsBit board from → IsCell a →
      Ready (Bit (bits.Copy (dest.Cell a b) from inverted)) → StandsAt board lay.places m s → Goes (Bit (bits.Copy (dest.Cell a b) from inverted))
  copy_byte_goes from a b inverted reads byte ready st = fetched_goes (Bit (bits.Copy (dest.Cell a b) from inverted)) from
      (Loads 16 a) (Plain (insn.Ldi 17 (2 ^ in_byte b)) ∷ Mixes 16 17 true ∷ Skips from (not inverted) ∷ Plain (insn.Eor 16 17) ∷ Stores a 16 ∷ []) ready reads
      ready.begins (λ labels. ap size_in (byte_copied a b from inverted byte)) (byte_copied a b from inverted byte) refl (
        (lit< tt, byte),
        (
          (lit≤ tt, lit< tt, power_small (in_byte b) (in_byte_low b)),
          ((lit< tt, lit< tt), (test_fits from reads ready.begins, ((lit< tt, lit< tt), ((lit< tt, byte), tt)))),
        ),
      ) st
      (λ w h next.
      let l = load_size 16 a in
      let e = store_size a 16 in
      let k = size_of (insn_of (Skips from (not inverted))) in
      let g = moved (record w { work = changed w.work 16 (w.cells a) }) (w.core.place + l) l in
      let u = moved (record g { work = changed g.work 17 (2 ^ in_byte b) }) (g.core.place + 1) 1 in
      let y = moved (put (record u { core = keeping (λ c. with_result c 16 (bit_or (w.cells a) (2 ^ in_byte b)) false) u.core }) 16
      (bit_or (w.cells a) (2 ^ in_byte b))) (u.core.place + 1) 1 in
      let tests = h.tests y refl refl (same_ports from w y (λ q. refl) refl) in
      let same_byte = h.has.holds.cells a byte in (
        λ t. (
          cost_copy l k e (skip_size from (not inverted)),
          record {
            has = copied from (tested y from) _ inverted true tests t (dest.Cell a b)
                (has_cell board lay.places w _ s (alike _ _ refl refl refl (λ q. refl) refl refl refl refl) h.has a (with_bit (w.cells a) (in_byte b) true)
                (with_bit (cell s.store a) (in_byte b) true) byte refl (ap (λ n. with_bit n (in_byte b) true) same_byte) (bit_small_cell a b true w h.has));
            at = on_l1jk1s w.core.place l 1 k e _ _ h.at next;
          },
        ),
        λ t. (
          cost_copy_on l k e (skip_size from (not inverted)),
          record {
            has = copied from (tested y from) _ inverted false tests t (dest.Cell a b)
                (has_cell board lay.places w _ s (alike _ _ refl refl refl (λ q. refl) refl refl refl refl) h.has a
                (bit_xor (with_bit (w.cells a) (in_byte b) true) (2 ^ in_byte b)) (with_bit (cell s.store a) (in_byte b) false) byte refl
                (ap (λ n. bit_xor (with_bit n (in_byte b) true) (2 ^ in_byte b)) same_byte
                ∙ turned_clear (cell s.store a) (in_byte b) (h.has.holds.bytes a) (in_byte_low b)) (bit_small_cell a b false w h.has));
            at = on_l1jk1s w.core.place l 1 k e _ _ h.at next;
          },
        ),
      ))

  -- a latch is set by one test and cleared by another
  latch_good : (from : BitSource) (c d : ℕ) (inverted : Bool) (port b : ℕ) → port < 4 → (w : View) → Has board lay.places w s → (place : ℕ) → w.core.place ≡ place →
      ((u : View) → u.work 18 ≡ w.work 18 → u.cells ≡ w.cells → tested u (bit.Cell c d) ≡ bit_from s.store from) →
      Next ≡ place + size_in (Skips (bit.Cell c d) inverted ∷ Latches port (in_byte b) true ∷ Skips (bit.Cell c d) (not inverted) ∷ Latches port (in_byte b) false ∷ []) →
      AllGood (size_in (Skips (bit.Cell c d) inverted ∷ Latches port (in_byte b) true ∷ Skips (bit.Cell c d) (not inverted) ∷ Latches port (in_byte b) false ∷ []) + 1)
      (Ends board lay m s (Bit (bits.Copy (dest.Latch port b) from inverted)))
      (paths (Skips (bit.Cell c d) inverted ∷ Latches port (in_byte b) true ∷ Skips (bit.Cell c d) (not inverted) ∷ Latches port (in_byte b) false ∷ []) 0 w)
  latch_good from c d inverted port b below w h place at tests next =
      let k = size_of (insn_of (Skips (bit.Cell c d) inverted)) in
      let j = size_of (insn_of (Skips (bit.Cell c d) (not inverted))) in
      let one = skip_size (bit.Cell c d) inverted in
      let two = skip_size (bit.Cell c d) (not inverted) in
      let x = tested w (bit.Cell c d) in
      let now = tests w refl refl in
      let p1 = moved w (w.core.place + k + 1) 2 in
      let q1 = moved w (w.core.place + k) 1 in
      let q2 = moved (record q1 { core = latched q1.core port (in_byte b) true }) (q1.core.place + 1) 2 in
      let again1 : tested p1 (bit.Cell c d) ≡ x = tests p1 refl refl ∙ sym now in
      let again2 : tested q2 (bit.Cell c d) ≡ x = tests q2 refl refl ∙ sym now in (
        λ t. (
          λ t2. absurd (true≢false (sym (sym (ap (λ n. same n (not inverted)) again1) ∙ t2) ∙ both x inverted true t)),
          λ t2. (
            cost_latches k j one two,
            record {
              has = copied from x _ inverted false now (both x inverted true t) (dest.Latch port b)
                  (has_latch board lay.places w (moved p1 (p1.core.place + j) 1) _ s port (in_byte b) false below h
                  (alike _ _ refl refl refl (λ q. refl) refl refl refl refl) (alike _ _ refl refl refl (λ q. refl) refl refl refl refl) refl);
              at = on_kjij w.core.place k 1 j 1 _ _ at next;
            },
          ),
        ),
        λ t. (
          λ t2. (
            cost_latches_on k j one two,
            record {
              has = copied from x _ inverted true now (both x inverted false t) (dest.Latch port b)
                  (has_latch board lay.places w q1 _ s port (in_byte b) true below h
                  (alike _ _ refl refl refl (λ q. refl) refl refl refl refl) (alike _ _ refl refl refl (λ q. refl) refl refl refl refl) refl);
              at = on_kjij w.core.place k 1 j 1 _ _ at next;
            },
          ),
          λ t2. absurd (true≢false (sym (both x inverted false t) ∙ sym (ap (λ n. same n (not inverted)) again2) ∙ t2)),
        ),
      )

  pub copy_latch_cell : (c d : ℕ) (port b : ℕ) (inverted : Bool) → ReadsBit board (bit.Cell c d) → port < 4 →
      Ready (Bit (bits.Copy (dest.Latch port b) (bit.Cell c d) inverted)) → StandsAt board lay.places m s →
      Goes (Bit (bits.Copy (dest.Latch port b) (bit.Cell c d) inverted))
  copy_latch_cell c d port b inverted reads below ready st = fetched_goes (Bit (bits.Copy (dest.Latch port b) (bit.Cell c d) inverted)) (bit.Cell c d)
      (Skips (bit.Cell c d) inverted)
      (Latches port (in_byte b) true ∷ Skips (bit.Cell c d) (not inverted) ∷ Latches port (in_byte b) false ∷ []) ready reads ready.begins
      (λ labels. refl) refl refl (tt, ((below, in_byte_low b), (tt, ((below, in_byte_low b), tt)))) st
      (λ w h next. latch_good (bit.Cell c d) c d inverted port b below w h.has _ h.at (λ u work cells. h.tests u work cells tt) next)

  -- a level or a latch is in R18
  pub copy_latch_port : (from : BitSource) (held : ℕ) (port b : ℕ) (inverted : Bool) → ReadsBit board from → FetchFits from → port < 4 →
      held_code from ≡ Fetches from ∷ [] → held_at from ≡ bit.Cell 18 held →
      ((v : View) → ViewStands board lay.places v s → bit_of (fetched v from) (in_byte held) ≡ bit_from s.store from) →
      Ready (Bit (bits.Copy (dest.Latch port b) from inverted)) → StandsAt board lay.places m s → Goes (Bit (bits.Copy (dest.Latch port b) from inverted))
  copy_latch_port from held port b inverted reads fits below code at tests ready st = coded_as (Bit (bits.Copy (dest.Latch port b) from inverted))
      (Fetches from) (Skips (bit.Cell 18 held) inverted ∷ Latches port (in_byte b) true ∷ Skips (bit.Cell 18 held) (not inverted)
      ∷ Latches port (in_byte b) false ∷ []) ready
      (λ labels. ap₂ (λ l f. l ++ (Skips f inverted ∷ Latches port (in_byte b) true ∷ Skips f (not inverted) ∷ Latches port (in_byte b) false ∷ [])) code at)
      refl (fits, (tt, ((below, in_byte_low b), (tt, ((below, in_byte_low b), tt))))) st
      (λ v h next.
      let f = size_of (insn_of (Fetches from)) in
      let w = moved (record v { work = changed v.work 18 (fetched v from) }) (v.core.place + f) f in
      let rest = Skips (bit.Cell 18 held) inverted ∷ Latches port (in_byte b) true ∷ Skips (bit.Cell 18 held) (not inverted) ∷ Latches port (in_byte b) false ∷ [] in
      subst (λ n. AllGood n (Ends board lay m s (Bit (bits.Copy (dest.Latch port b) from inverted))) (paths (Fetches from ∷ rest) 0 v))
      (assoc f (size_in rest) 1)
      (good_bump f (size_in rest + 1) (Ends board lay m s (Bit (bits.Copy (dest.Latch port b) from inverted))) (paths rest 0 w)
      (latch_good from 18 held inverted port b below w (moved_has v (fetched v from) (v.core.place + f) f h.has) (v.core.place + f) refl
      (λ u work cells. ap (λ n. bit_of n (in_byte held)) work ∙ tests v h) (on_fetch v.core.place f (size_in rest) _ _ h.at next))))
    where
      assoc : (f n k : ℕ) → f + (n + k) ≡ f + n + k
      assoc f n k = omega arith

      on_fetch : (v f n p q : ℕ) → v ≡ p → q ≡ p + (f + n) → q ≡ v + f + n
      on_fetch v f n p q e g = omega (arith, e, g)

  pub put_on_flag_power_true : (k : FlagKind) (b : ℕ) (x : Bool) → in_byte b ≡ 0 → Ready (Bit (bits.PutOnFlag k true (dest.Cell 20 b) x)) →
      slice_index lay.places (suc s.place) < 8192 → StandsAt board lay.places m s → Goes (Bit (bits.PutOnFlag k true (dest.Cell 20 b) x))
  put_on_flag_power_true k b x zero_bit ready low st = coded_as (Bit (bits.PutOnFlag k true (dest.Cell 20 b) x)) (Plain (insn.Brbc (status_bit k) 1))
      (Plain (insn.Ldi 20 (as_bit x)) ∷ []) ready ((λ labels. refl)) refl (
        (status_low k, lit< tt),
        ((lit≤ tt, lit< tt, bit_small x), tt),
      ) st (λ v h next. (
        λ t. (
          subst (λ n. n < 8192) (sym (on_2 v.core.place _ _ h.at next)) low,
          (
            lit≤ tt,
            record {
              has = picked_flag true false (sym (flag_value v.core k s.store.flag ready.fits.1 h.has.flag) ∙ (is_false _ t))
                  (with_bit_at s.store (dest.Cell 20 b) x) (has_kept board lay.places v _ s
                  (alike _ _ refl refl refl (λ q. refl) refl refl refl refl) h.has s.store.flag (suc s.place) (λ c. refl)
                  (flags_kept v.core (at_place v.core (v.core.place + 1 + 1) 2) s.store.flag (λ i. refl) h.has.flag));
              at = on_2 v.core.place _ _ h.at next;
            },
          ),
        ),
        λ t. (
          lit≤ tt,
          record {
            has = picked_flag true true (sym (flag_value v.core k s.store.flag ready.fits.1 h.has.flag) ∙ (is_true _ t))
                (with_bit_at s.store (dest.Cell 20 b) x) (has_wire board lay.places v _ s
                (alike _ _ refl refl refl (λ q. refl) refl refl refl refl) h.has s.store.flag 20 (as_bit x) (in_byte b) (x) refl zero_bit (λ c. refl) (low_of x)
                (flags_kept v.core (at_place (at_place v.core (v.core.place + 1) 1) (v.core.place + 1 + 1) 1) s.store.flag (λ i. refl) h.has.flag));
            at =
                on_2 v.core.place _ _ h.at next;
          },
        ),
      ))

  pub put_on_flag_wire_true : (k : FlagKind) (a b : ℕ) (x : Bool) → (a == 20) ≡ false → is_wire a ≡ true → in_byte b ≡ 0 →
      Ready (Bit (bits.PutOnFlag k true (dest.Cell a b) x)) → slice_index lay.places (suc s.place) < 8192 → StandsAt board lay.places m s →
      Goes (Bit (bits.PutOnFlag k true (dest.Cell a b) x))
  put_on_flag_wire_true k a b x other wire zero_bit ready low st = coded_as (Bit (bits.PutOnFlag k true (dest.Cell a b) x)) (Plain (insn.Ldi 16 (as_bit x)))
      (Plain (insn.Brbc (status_bit k) 1) ∷ Gives a 16 ∷ []) ready ((λ labels. by_wire a _ _ _ other wire)) refl (
        (lit≤ tt, lit< tt, bit_small x),
        ((status_low k, lit< tt), ((lit< tt, wire_low a wire, wire_free a wire), tt)),
      ) st
      (λ v h next. (
        λ t. (
          subst (λ n. n < 8192) (sym (on_3 v.core.place _ _ h.at next)) low,
          (
            lit≤ tt,
            record {
              has = picked_flag true false (sym (flag_value v.core k s.store.flag ready.fits.1 h.has.flag) ∙ (is_false _ t))
                  (with_bit_at s.store (dest.Cell a b) x) (has_kept board lay.places v _ s
                  (alike _ _ refl refl refl (λ q. refl) refl refl refl refl) h.has s.store.flag
                  (suc s.place) (λ c. refl) (flags_kept v.core (at_place (at_place v.core (v.core.place + 1) 1) (v.core.place + 1 + 1 + 1) 2) s.store.flag
                  (λ i. refl) h.has.flag));
              at = on_3 v.core.place _ _ h.at next;
            },
          ),
        ),
        λ t. (
          lit≤ tt,
          record {
            has = picked_flag true true (sym (flag_value v.core k s.store.flag ready.fits.1 h.has.flag) ∙ (is_true _ t))
                (with_bit_at s.store (dest.Cell a b) x) (has_wire board lay.places v _ s
                (alike _ _ refl refl refl (λ q. refl) refl refl refl refl) h.has s.store.flag a (as_bit x) (in_byte b) (x) wire zero_bit (λ c. refl) (low_of x)
                (flags_kept v.core (at_place (at_place (at_place v.core (v.core.place + 1) 1) (v.core.place + 1 + 1) 1)
                (v.core.place + 1 + 1 + 1) 1) s.store.flag
                (λ i. refl) h.has.flag));
            at = on_3 v.core.place _ _ h.at next;
          },
        ),
      ))

  pub put_on_flag_power_false : (k : FlagKind) (b : ℕ) (x : Bool) → in_byte b ≡ 0 → Ready (Bit (bits.PutOnFlag k false (dest.Cell 20 b) x)) →
      slice_index lay.places (suc s.place) < 8192 → StandsAt board lay.places m s → Goes (Bit (bits.PutOnFlag k false (dest.Cell 20 b) x))
  put_on_flag_power_false k b x zero_bit ready low st = coded_as (Bit (bits.PutOnFlag k false (dest.Cell 20 b) x)) (Plain (insn.Brbs (status_bit k) 1))
      (Plain (insn.Ldi 20 (as_bit x)) ∷ []) ready ((λ labels. refl)) refl (
        (status_low k, lit< tt),
        ((lit≤ tt, lit< tt, bit_small x), tt),
      ) st (λ v h next. (
        λ t. (
          subst (λ n. n < 8192) (sym (on_2 v.core.place _ _ h.at next)) low,
          (
            lit≤ tt,
            record {
              has = picked_flag false true (sym (flag_value v.core k s.store.flag ready.fits.1 h.has.flag) ∙ t)
                  (with_bit_at s.store (dest.Cell 20 b) x) (has_kept board lay.places v _ s
                  (alike _ _ refl refl refl (λ q. refl) refl refl refl refl) h.has s.store.flag (suc s.place) (λ c. refl)
                  (flags_kept v.core (at_place v.core (v.core.place + 1 + 1) 2) s.store.flag (λ i. refl) h.has.flag));
              at = on_2 v.core.place _ _ h.at next;
            },
          ),
        ),
        λ t. (
          lit≤ tt,
          record {
            has = picked_flag false false (sym (flag_value v.core k s.store.flag ready.fits.1 h.has.flag) ∙ t)
                (with_bit_at s.store (dest.Cell 20 b) x) (has_wire board lay.places v _ s
                (alike _ _ refl refl refl (λ q. refl) refl refl refl refl) h.has s.store.flag 20 (as_bit x) (in_byte b) (x) refl zero_bit (λ c. refl) (low_of x)
                (flags_kept v.core (at_place (at_place v.core (v.core.place + 1) 1) (v.core.place + 1 + 1) 1) s.store.flag (λ i. refl) h.has.flag));
            at =
                on_2 v.core.place _ _ h.at next;
          },
        ),
      ))

  pub put_on_flag_wire_false : (k : FlagKind) (a b : ℕ) (x : Bool) → (a == 20) ≡ false → is_wire a ≡ true → in_byte b ≡ 0 →
      Ready (Bit (bits.PutOnFlag k false (dest.Cell a b) x)) → slice_index lay.places (suc s.place) < 8192 → StandsAt board lay.places m s →
      Goes (Bit (bits.PutOnFlag k false (dest.Cell a b) x))
  put_on_flag_wire_false k a b x other wire zero_bit ready low st = coded_as (Bit (bits.PutOnFlag k false (dest.Cell a b) x))
      (Plain (insn.Ldi 16 (as_bit x))) (Plain (insn.Brbs (status_bit k) 1) ∷ Gives a 16 ∷
      []) ready ((λ labels. by_wire a _ _ _ other wire)) refl (
        (lit≤ tt, lit< tt, bit_small x),
        ((status_low k, lit< tt), ((lit< tt, wire_low a wire, wire_free a wire), tt)),
      ) st
      (λ v h next. (
        λ t. (
          subst (λ n. n < 8192) (sym (on_3 v.core.place _ _ h.at next)) low,
          (
            lit≤ tt,
            record {
              has = picked_flag false true (sym (flag_value v.core k s.store.flag ready.fits.1 h.has.flag) ∙ t)
                  (with_bit_at s.store (dest.Cell a b) x) (has_kept board lay.places v _ s
                  (alike _ _ refl refl refl (λ q. refl) refl refl refl refl) h.has s.store.flag
                  (suc s.place) (λ c. refl) (flags_kept v.core (at_place (at_place v.core (v.core.place + 1) 1) (v.core.place + 1 + 1 + 1) 2) s.store.flag
                  (λ i. refl) h.has.flag));
              at = on_3 v.core.place _ _ h.at next;
            },
          ),
        ),
        λ t. (
          lit≤ tt,
          record {
            has = picked_flag false false (sym (flag_value v.core k s.store.flag ready.fits.1 h.has.flag) ∙ t)
                (with_bit_at s.store (dest.Cell a b) x) (has_wire board lay.places v _ s
                (alike _ _ refl refl refl (λ q. refl) refl refl refl refl) h.has s.store.flag a (as_bit x) (in_byte b) (x) wire zero_bit (λ c. refl) (low_of x)
                (flags_kept v.core (at_place (at_place (at_place v.core (v.core.place + 1) 1) (v.core.place + 1 + 1) 1)
                (v.core.place + 1 + 1 + 1) 1) s.store.flag
                (λ i. refl) h.has.flag));
            at = on_3 v.core.place _ _ h.at next;
          },
        ),
      ))

  pub jump_bit : (from : BitSource) (is : Bool) (l : ℕ) → Ready (JumpWhere (test.Bit from is) l) → StandsAt board lay.places m s →
      Goes (JumpWhere (test.Bit from is) l)
  jump_bit from is l ready st =
      let named = ready.label l refl in
      let reads = ready.admitted in
      fetched_goes (JumpWhere (test.Bit from is) l) from (Skips from (not is)) (Plain (insn.Jmp (slice_index lay.labels l)) ∷ []) ready reads ready.begins
      (λ labels. jump_sizes from is (slice_index labels l) (slice_index lay.labels l)) refl refl (test_fits from reads ready.begins, (named.1, tt)) st
      (λ w h next.
      let tests = h.tests w refl refl (same_ports from w w (λ q. refl) refl) in
      let x = tested w from in (
        λ t. (
          cost_jump _ (skip_size from (not is)),
          placed from x _ l is true tests t
              (record {
                has = has_kept board lay.places w _ s (alike _ _ refl refl refl (λ q. refl) refl refl refl refl) h.has None (suc s.place)
                    (λ c. refl) tt;
                at = on_k2 w.core.place _ _ _ h.at next;
              }),
        ),
        λ t. (
          cost_jump_on _ (skip_size from (not is)),
          placed from x _ l is false tests t
              (record {
                has = has_kept board lay.places w _ s (alike _ _ refl refl refl (λ q. refl) refl refl refl refl) h.has None (label_place lay.code l)
                    (λ c. refl) tt;
                at = named.0;
              }),
        ),
      ))

  abbrev Bits : BitOp → Type 0
  Bits op = Ready (Bit op) → Goes (Bit op)

  -- a wire's law by that of the power's and that of the others
  wired : (P : ℕ → Type 0) (a : ℕ) → P 20 → ((a == 20) ≡ false → P a) → P a
  wired P a power other = by (cases_eq a 20)
    where
      by : (a ≡ 20) ⊎ (a ≢ 20) → P a
      by (inl e) = subst P (sym e) power
      by (inr ne) = other (ne_eqb a 20 ne)

  by_near : (a : ℕ) (P : Type 0) → (nat_lt a 32 ≡ true → P) → (nat_lt a 32 ≡ false → P) → P
  by_near a P near far = by (nat_lt a 32) refl
    where
      by : (t : Bool) → nat_lt a 32 ≡ t → P
      by true e = near e
      by false e = far e

  taken_always : (a c d : ℕ) (t : Bool) → (if t && false then Gives a c ∷ [] else wire_taken a (bit.Cell c d) true) ≡ wire_taken a (bit.Cell c d) true
  taken_always a c d true = refl
  taken_always a c d false = refl

  module _ (st : StandsAt board lay.places m s) (low : slice_index lay.places (suc s.place) < 8192) where
    puts : (to : BitDest) (x : Bool) → WritesBit to → Bits (bits.Put to x)
    puts (dest.Cell a b) x (inl cell) ready = by_near a (Bits (bits.Put (dest.Cell a b) x)) (λ e r. put_byte_near a b x cell e r st)
        (λ e r. put_byte_far a b x cell e r st) ready
    puts (dest.Cell a b) true (inr wire) ready =
        wired (λ a. is_wire a ≡ true → Bits (bits.Put (dest.Cell a b) true)) a (λ w r. put_power b true wire.1 r st)
        (λ ne w r. put_wire_true a b ne w wire.1 r st) wire.0 ready
    puts (dest.Cell a b) false (inr wire) ready =
        wired (λ a. is_wire a ≡ true → Bits (bits.Put (dest.Cell a b) false)) a (λ w r. put_power b false wire.1 r st)
        (λ ne w r. put_wire_false a b ne w wire.1 r st) wire.0 ready
    puts (dest.Latch port b) x below ready = put_latch port b x below ready st

    put_if : (from : BitSource) (is : Bool) (to : BitDest) (x : Bool) → ReadsBit board from → WritesBit to → Bits (bits.PutIf from is to x)
    put_if from is (dest.Cell a b) x reads (inl cell) ready = by_near a (Bits (bits.PutIf from is (dest.Cell a b) x))
        (λ e r. put_if_byte_near from is a b x reads cell e r st) (λ e r. put_if_byte_far from is a b x reads cell e r st) ready
    put_if from is (dest.Cell a b) true reads (inr wire) ready =
        wired (λ a. is_wire a ≡ true → Bits (bits.PutIf from is (dest.Cell a b) true)) a (λ w r. put_if_power from is b true reads wire.1 r st)
        (λ ne w r. put_if_wire_true from is a b reads ne w wire.1 r st) wire.0 ready
    put_if from is (dest.Cell a b) false reads (inr wire) ready =
        wired (λ a. is_wire a ≡ true → Bits (bits.PutIf from is (dest.Cell a b) false)) a (λ w r. put_if_power from is b false reads wire.1 r st)
        (λ ne w r. put_if_wire_false from is a b reads ne w wire.1 r st) wire.0 ready
    put_if from is (dest.Latch port b) x reads below ready = put_if_latch from is port b x reads below ready st

    copy : (to : BitDest) (from : BitSource) (inverted : Bool) → WritesBit to → ReadsBit board from → Bits (bits.Copy to from inverted)
    copy (dest.Cell a b) from inverted (inl cell) reads ready = copy_byte_goes from a b inverted reads cell ready st
    copy (dest.Cell a b) (bit.Cell c d) true (inr wire) reads ready =
        copy_taken (bit.Cell c d) a b true reads wire.0 wire.1 (taken_always a c d (is_wire c)) ready st
    copy (dest.Cell a b) (bit.Cell c d) false (inr wire) reads ready = whole (is_wire c) refl
      where
        whole : (t : Bool) → is_wire c ≡ t → Goes (Bit (bits.Copy (dest.Cell a b) (bit.Cell c d) false))
        whole true e = copy_whole c d a b reads e wire.0 wire.1 ready st
        whole false e = copy_taken (bit.Cell c d) a b false reads wire.0 wire.1
            (ap (λ t. if t && true then Gives a c ∷ [] else wire_taken a (bit.Cell c d) false) e) ready st
    copy (dest.Cell a b) (bit.Level port d) inverted (inr wire) reads ready =
        copy_taken (bit.Level port d) a b inverted reads wire.0 wire.1 refl ready st
    copy (dest.Cell a b) (bit.Latch port d) inverted (inr wire) reads ready =
        copy_taken (bit.Latch port d) a b inverted reads wire.0 wire.1 refl ready st
    copy (dest.Latch port b) (bit.Cell c d) inverted below reads ready = copy_latch_cell c d port b inverted reads below ready st
    copy (dest.Latch port b) (bit.Level q d) inverted below reads ready =
        copy_latch_port (bit.Level q d) d port b inverted reads reads.0 below refl refl
        (λ v h. port_bit (bit.Level q d) reads ready.begins q d reads v h.has v (refl, refl)) ready st
    copy (dest.Latch port b) (bit.Latch q d) inverted below reads ready =
        copy_latch_port (bit.Latch q d) d port b inverted reads reads below refl refl
        (λ v h. ap (λ n. bit_of n (in_byte d)) (h.has.holds.latches q reads)) ready st

    put_on_flag : (k : FlagKind) (is : Bool) (to : BitDest) (x : Bool) → WritesWire to → Bits (bits.PutOnFlag k is to x)
    put_on_flag k true (dest.Cell a b) x wire ready =
        wired (λ a. is_wire a ≡ true → Bits (bits.PutOnFlag k true (dest.Cell a b) x)) a (λ w r. put_on_flag_power_true k b x wire.1 r low st)
        (λ ne w r. put_on_flag_wire_true k a b x ne w wire.1 r low st) wire.0 ready
    put_on_flag k false (dest.Cell a b) x wire ready =
        wired (λ a. is_wire a ≡ true → Bits (bits.PutOnFlag k false (dest.Cell a b) x)) a (λ w r. put_on_flag_power_false k b x wire.1 r low st)
        (λ ne w r. put_on_flag_wire_false k a b x ne w wire.1 r low st) wire.0 ready
    put_on_flag k is (dest.Latch port b) x no' ready = absurd no'

    pub bit_goes : (op : BitOp) → Bits op
    bit_goes (bits.Put to x) ready = puts to x ready.admitted ready
    bit_goes (bits.Copy to from inverted) ready = copy to from inverted ready.admitted.0 ready.admitted.1 ready
    bit_goes (bits.PutIf from is to x) ready = put_if from is to x ready.admitted.0 ready.admitted.1 ready
    bit_goes (bits.PutOnFlag k is to x) ready = put_on_flag k is to x ready.admitted ready
