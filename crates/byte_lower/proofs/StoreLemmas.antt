-- What is written to a place, and what is read from it, where bytes stand for a store.
use Rattle.std.proofs.Common.{◌≡◌, ◌≢◌, ℕ, ◌+◌, ◌<◌, inl, inr, Bool, true, false, List, length, ℤ, refl, sym, ap, subst, ◌∙◌, arith, length-set, slice_index, slice_set}
use Rattle.std.specs.Prelude.{◌⊎◌, nat_eq, if◌then◌else◌, slice_index_or}
use Rattle.std.proofs.lemmas.Bool.{cases_eq}
use Rattle.std.proofs.lemmas.Bool.Decides.{nat_tests}
use Rattle.std.proofs.lemmas.List.{get_or-set_same, get_or-set_other}
use Rattle.chip_tables.specs.Bits.{bit_of}
use Rattle.chip_tables.specs.declared.pins.PortBit.{PortBit}
use Rattle.chip_tables.specs.declared.scratch.TheConstants.{WIRES}
use Rattle.ladder_meaning.specs.Numbers.{IsNumber}
use Rattle.ladder_meaning.specs.declared.reading.Reading.{Reading}
use Rattle.int_code.specs.Store.{value_of, number_of, with, with_number}
use Rattle.int_code.specs.Store as int
use Rattle.int_code.specs.WellFormed.{IsDest, IsSource}
use Rattle.int_code.specs.declared.op.BitDest as written
use Rattle.int_code.specs.declared.op.BitDest.TheVariants as opdest
use Rattle.int_code.specs.declared.op.BitSource as read
use Rattle.int_code.specs.declared.op.BitSource.TheVariants as opsource
use Rattle.byte_code.specs.Counts.{IsShown}
use Rattle.byte_code.specs.Store.{cell, word_at, with_word, word_from, with_bit, bit_from, with_bit_at, in_byte}
use Rattle.byte_code.specs.declared.store.Flag.{Flag}
use Rattle.byte_code.specs.declared.store.Store.{Store}
use Rattle.std.specs.Prelude.{Option}
use Rattle.byte_lower.proofs.BitLemmas.{bit_put, bit_kept, in_byte_is}
use Rattle.byte_routines.proofs.CellLemmas.{word_put, word_put_other, words_kept, word_kept}
use Rattle.byte_routines.specs.Calls.{IsOther}
use Rattle.byte_lower.proofs.WordLemmas.{literal_word, word_small}
use Rattle.byte_lower.specs.Layout.{own_cells, word_cell, bit_cell, pin_at, dest_of, source_of, room_of, HasPins}
use Rattle.byte_lower.specs.Lists.{number, word_in}
use Rattle.byte_lower.specs.Stands.{IsWordOf, Stands}
use Rattle.byte_lower.specs.declared.layout.Layout.{Layout}

-- the places are apart, and in data memory
pub record Apart (o : Layout) : Type 0 where
  pub bit : (k : ℕ) → k < o.plan.sizes.kept_bits + WIRES → ((bit_cell o k).address < 1120) × ((bit_cell o k).bit < 8)
  pub bits : (j k : ℕ) → j < o.plan.sizes.kept_bits + WIRES → k < o.plan.sizes.kept_bits + WIRES →
      (bit_cell o j).address ≡ (bit_cell o k).address → (bit_cell o j).bit ≡ (bit_cell o k).bit → j ≡ k
  pub word : (v : ℕ) → v < o.plan.sizes.variables → word_cell o v + 1 < 1120
  pub words : (u v : ℕ) → u < o.plan.sizes.variables → v < o.plan.sizes.variables → u ≢ v →
      (word_cell o u ≢ word_cell o v) × (word_cell o u ≢ word_cell o v + 1) × (word_cell o u + 1 ≢ word_cell o v) × (word_cell o u + 1 ≢ word_cell o v + 1)
  pub mixed : (k v : ℕ) → k < o.plan.sizes.kept_bits + WIRES → v < o.plan.sizes.variables →
      ((bit_cell o k).address ≢ word_cell o v) × ((bit_cell o k).address ≢ word_cell o v + 1)
  pub bit_other : (k : ℕ) → k < o.plan.sizes.kept_bits + WIRES → IsOther (own_cells o.plan.target) (bit_cell o k).address
  pub word_other : (v : ℕ) → v < o.plan.sizes.variables → IsOther (own_cells o.plan.target) (word_cell o v) × IsOther (own_cells o.plan.target) (word_cell o v + 1)

-- bytes that stand for a store, and show a reading
pub record Good (o : Layout) (r : Reading) (d : Store) (t : int.Store) : Type 0 where
  pub stands : Stands o d t
  pub levels : (k : ℕ) → k < length o.inputs → bit_of (slice_index d.reading.levels (pin_at o.inputs k).port) (pin_at o.inputs k).bit ≡ slice_index_or r.inputs
      k false
  pub cells : length d.cells ≡ 1120
  pub latches : length d.latches ≡ 5
  pub shown : d.converting ≡ false
  pub scratch : d.scratch ≡ own_cells o.plan.target

-- a list of bytes with a bit of one of them written
abbrev put_in : List ℕ → ℕ → ℕ → Bool → List ℕ
put_in xs a b x = slice_set xs a (with_bit (slice_index xs a) (in_byte b) x)

put_same : (xs : List ℕ) (a b : ℕ) (x : Bool) → a < length xs → b < 8 → bit_of (slice_index (put_in xs a b x) a) b ≡ x
put_same xs a b x h k =
    ap (λ n. bit_of n b) (get_or-set_same xs a _ 0 h) ∙ ap (λ c. bit_of (with_bit (slice_index xs a) c x) b) (in_byte_is b k) ∙ bit_put (slice_index xs a) b x k

put_other : (xs : List ℕ) (a b : ℕ) (x : Bool) (c e : ℕ) → a < length xs → b < 8 → e < 8 → (c ≡ a → e ≡ b → ⊥) → bit_of (slice_index (put_in xs a b x) c) e ≡
    bit_of (slice_index xs c) e
put_other xs a b x c e h k l ne = by (cases_eq c a)
  where
    by : (c ≡ a) ⊎ (c ≡ a → ⊥) → bit_of (slice_index (put_in xs a b x) c) e ≡ bit_of (slice_index xs c) e
    by (inr other) = ap (λ n. bit_of n e) (get_or-set_other xs a c _ 0 other)
    by (inl same) =
        ap (λ i. bit_of (slice_index (put_in xs a b x) i) e) same ∙ ap (λ n. bit_of n e) (get_or-set_same xs a _ 0 h)
        ∙ ap (λ i. bit_of (with_bit (slice_index xs a) i x) e) (in_byte_is b k) ∙ bit_kept (slice_index xs a) b e x k l (ne same)
        ∙ ap (λ i. bit_of (slice_index xs i) e) (sym same)

same_pin : (p q : PortBit) → p.port ≡ q.port → p.bit ≡ q.bit → p ≡ q
same_pin p q e f =
    let one : p ≡ record { port = q.port; bit = p.bit } = ap (λ (n : ℕ). let x : PortBit = record { port = n; bit = p.bit } in x) e in
    one ∙ ap (λ (n : ℕ). let x : PortBit = record { port = q.port; bit = n } in x) f

chosen : {X : Type 0} (b : Bool) (x y z : X) → (b ≡ true → z ≡ x) → (b ≡ false → z ≡ y) → z ≡ (if b then x else y)
chosen true x y z f g = f refl
chosen false x y z f g = g refl

pub are_same : (j k : ℕ) → nat_eq j k ≡ true → j ≡ k
are_same j k e = grind (arith, nat_tests, e)

pub are_apart : (j k : ℕ) → nat_eq j k ≡ false → j ≢ k
are_apart j k e f = grind (arith, nat_tests, e, f)

module _ (o : Layout) (r : Reading) (apart : Apart o) (pins : HasPins o) where
  -- the flag is of no account
  pub any_flag : (d : Store) (t : int.Store) (f : Option Flag) → Good o r d t → Good o r (record d { flag = f }) t
  any_flag d t f g = record {
    stands = record { bits = g.stands.bits; outputs = g.stands.outputs; numbers = g.stands.numbers; eeprom = g.stands.eeprom };
    levels = g.levels;
    cells = g.cells;
    latches = g.latches;
    shown = g.shown;
    scratch = g.scratch;
  }

  -- nor are the cells on which the routines work
  pub others_kept : (d e : Store) (t : int.Store) → ((c : ℕ) → IsOther (own_cells o.plan.target) c → cell e c ≡ cell d c) → length e.cells ≡ 1120 →
      e ≡ record d { cells = e.cells; flag = e.flag } → Good o r d t → Good o r e t
  others_kept d e t kept long rest g = record {
    stands = record {
      bits = λ k l. ap (λ n. bit_of n (bit_cell o k).bit) (kept (bit_cell o k).address (apart.bit_other k l)) ∙ g.stands.bits k l;
      outputs = λ k l. ap (λ (x : Store). bit_of (slice_index x.latches (pin_at o.outputs k).port) (pin_at o.outputs k).bit) rest ∙ g.stands.outputs k l;
      numbers = λ v l. subst (IsWordOf (t.number v)) (sym (word_kept d e (word_cell o v) (kept (word_cell o v) (apart.word_other v l).0)
          (kept (word_cell o v + 1) (apart.word_other v l).1))) (g.stands.numbers v l);
      eeprom = ap (λ (x : Store). slice_index x.eeprom) rest ∙ g.stands.eeprom;
    };
    levels = λ k l. ap (λ (x : Store). bit_of (slice_index x.reading.levels (pin_at o.inputs k).port) (pin_at o.inputs k).bit) rest ∙ g.levels k l;
    cells = long;
    latches = ap (λ (x : Store). length x.latches) rest ∙ g.latches;
    shown = ap (λ (x : Store). x.converting) rest ∙ g.shown;
    scratch = ap (λ (x : Store). x.scratch) rest ∙ g.scratch;
  }

  pub bit_written : (d : Store) (t : int.Store) (b : written.BitDest) (x : Bool) → IsDest (room_of o) b → Good o r d t →
      Good o r (with_bit_at d (dest_of o b) x) (with t b x)
  bit_written d t (opdest.B j) x h g =
      let a = bit_cell o j in
      let lt : a.address < length d.cells = subst (λ n. a.address < n) (sym g.cells) (apart.bit j h).0 in
      record {
        stands = record {
          bits = λ k l. chosen (nat_eq j k) x (t.bit k) (bit_of (slice_index (put_in d.cells a.address a.bit x) (bit_cell o k).address) (bit_cell o k).bit)
              (λ e. let same : j ≡ k = are_same j k e in subst (λ i. bit_of (slice_index (put_in d.cells a.address a.bit x) (bit_cell o i).address)
              (bit_cell o i).bit ≡ x) same (put_same d.cells a.address a.bit x lt (apart.bit j h).1))
              (λ e. put_other d.cells a.address a.bit x (bit_cell o k).address (bit_cell o k).bit lt (apart.bit j h).1 (apart.bit k l).1
              (λ f i. are_apart j k e (sym (apart.bits k j l h f i))) ∙ g.stands.bits k l);
          outputs = g.stands.outputs;
          numbers = λ v l. subst (IsWordOf (t.number v)) (sym (word_kept d (with_bit_at d (dest_of o (opdest.B j)) x) (word_cell o v)
              (get_or-set_other d.cells a.address (word_cell o v) _ 0 (λ e. (apart.mixed j v h l).0 (sym e)))
              (get_or-set_other d.cells a.address (word_cell o v + 1) _ 0 (λ e. (apart.mixed j v h l).1 (sym e))))) (g.stands.numbers v l);
          eeprom = g.stands.eeprom;
        };
        levels = g.levels;
        cells = length-set d.cells a.address _ ∙ g.cells;
        latches = g.latches;
        shown = g.shown;
        scratch = g.scratch;
      }
  bit_written d t (opdest.Y j) x h g =
      let a = pin_at o.outputs j in
      let lt : a.port < length d.latches = subst (λ n. a.port < n) (sym g.latches) (pins.outputs j h).0 in
      record {
        stands = record {
          bits = g.stands.bits;
          outputs = λ k l. chosen (nat_eq j k) x (t.output k) (bit_of (slice_index (put_in d.latches a.port a.bit x) (pin_at o.outputs k).port)
              (pin_at o.outputs k).bit)
              (λ e. let same : j ≡ k = are_same j k e in subst (λ i. bit_of (slice_index (put_in d.latches a.port a.bit x) (pin_at o.outputs i).port)
              (pin_at o.outputs i).bit ≡ x) same (put_same d.latches a.port a.bit x lt (pins.outputs j h).1))
              (λ e. put_other d.latches a.port a.bit x (pin_at o.outputs k).port (pin_at o.outputs k).bit lt (pins.outputs j h).1 (pins.outputs k l).1
              (λ f i. are_apart j k e (sym (pins.apart k j l h (same_pin (pin_at o.outputs k) a f i)))) ∙ g.stands.outputs k l);
          numbers = g.stands.numbers;
          eeprom = g.stands.eeprom;
        };
        levels = g.levels;
        cells = g.cells;
        latches = length-set d.latches a.port _ ∙ g.latches;
        shown = g.shown;
        scratch = g.scratch;
      }

  pub word_written : (d : Store) (t : int.Store) (v : ℕ) (z : ℤ) (n : ℕ) → v < o.plan.sizes.variables → IsWordOf z n → Good o r d t →
      Good o r (with_word d (word_cell o v) n) (with_number t v z)
  word_written d t v z n h is g =
      let a = word_cell o v in
      let lt : a + 1 < length d.cells = subst (λ m. a + 1 < m) (sym g.cells) (apart.word v h) in
      let small : n < 65536 = subst (λ m. m < 65536) (sym is.word) (word_small z) in
      record {
        stands = record {
          bits = λ k l. ap (λ m. bit_of m (bit_cell o k).bit) (word_put_other d a n (bit_cell o k).address (apart.mixed k v l h).0 (apart.mixed k v l h).1) ∙
              g.stands.bits k l;
          outputs = g.stands.outputs;
          numbers = λ u l. number_by u l (nat_eq v u) refl;
          eeprom = g.stands.eeprom;
        };
        levels = g.levels;
        cells = words_kept d a n ∙ g.cells;
        latches = g.latches;
        shown = g.shown;
        scratch = g.scratch;
      }
    where
      number_by : (u : ℕ) → u < o.plan.sizes.variables → (b : Bool) → nat_eq v u ≡ b → IsWordOf (if b then z else t.number u)
          (word_at (with_word d (word_cell o v) n) (word_cell o u))
      number_by u l true e =
          let lt : word_cell o v + 1 < length d.cells = subst (λ m. word_cell o v + 1 < m) (sym g.cells) (apart.word v h) in
          let small : n < 65536 = subst (λ m. m < 65536) (sym is.word) (word_small z) in
          let put : word_at (with_word d (word_cell o v) n) (word_cell o v) ≡ n = word_put d (word_cell o v) n lt small in
          subst (λ i. IsWordOf z (word_at (with_word d (word_cell o v) n) (word_cell o i))) (are_same v u e) (subst (IsWordOf z) (sym put) is)
      number_by u l false e =
          let off = apart.words u v l h (λ f. are_apart v u e (sym f)) in
          subst (IsWordOf (t.number u)) (sym (word_kept d (with_word d (word_cell o v) n) (word_cell o u)
          (word_put_other d (word_cell o v) n (word_cell o u) off.0 off.1)
          (word_put_other d (word_cell o v) n (word_cell o u + 1) off.2 off.3))) (g.stands.numbers u l)

  pub bit_read : (d : Store) (t : int.Store) (s : read.BitSource) → IsSource (room_of o) s → Good o r d t → bit_from d (source_of o s) ≡ value_of r t s
  bit_read d t (opsource.B k) h g = ap (bit_of (cell d (bit_cell o k).address)) (in_byte_is (bit_cell o k).bit (apart.bit k h).1) ∙ g.stands.bits k h
  bit_read d t (opsource.X k) h g =
      ap (bit_of (slice_index d.reading.levels (pin_at o.inputs k).port)) (in_byte_is (pin_at o.inputs k).bit (pins.inputs k h).1) ∙ g.levels k h
  bit_read d t (opsource.Y k) h g =
      ap (bit_of (slice_index d.latches (pin_at o.outputs k).port)) (in_byte_is (pin_at o.outputs k).bit (pins.outputs k h).1) ∙ g.stands.outputs k h

  -- a level is read only where it is shown
  pub is_shown : (d : Store) (t : int.Store) (s : read.BitSource) → Good o r d t → IsShown (source_of o s) d
  is_shown d t (opsource.B k) g = tt
  is_shown d t (opsource.X k) g = g.shown
  is_shown d t (opsource.Y k) g = tt

  pub word_read : (d : Store) (t : int.Store) (v : ℕ) → v < o.plan.sizes.variables → Good o r d t → IsWordOf (t.number v) (word_from d (word_in o v))
  word_read d t v h g = g.stands.numbers v h

pub number_read : (d : Store) (n : ℤ) → IsNumber n → IsWordOf n (word_from d (number n))
number_read d n h = literal_word n h
