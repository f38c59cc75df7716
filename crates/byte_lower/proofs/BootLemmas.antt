-- From a fresh machine to the first cycle poll.
use Rattle.std.proofs.Common.{◌≡◌, ℕ, zero, suc, ◌+◌, ◌-◌, ◌*◌, ◌<◌, ◌≤◌, inl, inr, Bool, true, false, List, [], ◌∷◌, ◌++◌, drop, length, map, Option, Some, None, ℤ, pos, refl, sym, ap, subst, ◌∙◌, arith, length-set, slice_index, slice_set}
use Rattle.std.specs.Prelude.{◌⊎◌, unwrap_or, slice_get, slice_index_or, if◌then◌else◌, nat_eq, nat_le, All}
use Rattle.std.specs.Ordering.{int_eq}
use Rattle.std.proofs.lemmas.Bool.{cases_eq}
use Rattle.std.proofs.lemmas.Bool.Decides.{nat_tests, Decides-int_eq}
use Rattle.std.proofs.lemmas.List.{get_or-map, get_or-set_other}
use Rattle.std.proofs.lemmas.List.Elements.{All-head, All-tail}
use Rattle.std.proofs.lemmas.Nat.Bits.{bit_at-zero}
use Rattle.chip_tables.specs.Bits.{bit_of}
use Rattle.chip_tables.specs.Memory.{ram_size, ram_address}
use Rattle.chip_tables.specs.Scratch.{pic_scratch}
use Rattle.mem_plan.specs.Needs.{ram_need}
use Rattle.mem_plan.specs.Places.{IsChip}
use Rattle.mem_plan.specs.Seen.{is_high}
use Rattle.ladder_meaning.specs.Numbers.{IsNumber}
use Rattle.ladder_meaning.specs.declared.reading.Reading.{Reading}
use Rattle.int_code.specs.Store as int
use Rattle.int_code.specs.declared.op.IntProgram.{IntProgram}
use Rattle.byte_code.specs.declared.prim.BytePrim.TheVariants.{Start, Label}
use Rattle.byte_code.specs.declared.prim.Paced.{Paced}
use Rattle.byte_code.specs.declared.state.Bytes.{Bytes}
use Rattle.byte_code.specs.declared.store.Store.{Store}
use Rattle.byte_code.specs.Machine.{next_with}
use Rattle.byte_code.specs.Store.{cell, with_word, word_at, word_from}
use Rattle.byte_code.specs.Table.{plain, cleared, cell_cleared, none_waits}
use Rattle.byte_lower.proofs.PlaceLemmas.{Listed, kept_listed, low_listed, high_listed}
use Rattle.byte_lower.proofs.RouteLemmas.{along, Reaches, arrive, go, here, behind}
use Rattle.byte_lower.proofs.StoreLemmas.{Apart, Good, any_flag, word_written, number_read, are_same, are_apart}
use Rattle.byte_lower.specs.Code.{booted, polling, start_values, CanPlace, IsFresh, IsStart}
use Rattle.byte_lower.specs.Layout.{own_cells, word_cell, bit_cell, pin_at, HasPins}
use Rattle.byte_lower.specs.Lists.{number, move}
use Rattle.byte_lower.specs.Stands.{IsWordOf, Stands, seen}
use Rattle.byte_lower.specs.declared.layout.Layout.{Layout}

-- a list in which one place becomes 0
zero_put : (xs : List ℕ) (a : ℕ) → slice_index (slice_set xs a 0) a ≡ 0
zero_put [] a = refl
zero_put (x ∷ xs) zero = refl
zero_put (x ∷ xs) (suc a) = zero_put xs a

zero_stays : (xs : List ℕ) (a b : ℕ) → slice_index xs b ≡ 0 → slice_index (slice_set xs a 0) b ≡ 0
zero_stays xs a b h = by (cases_eq b a)
  where
    by : (b ≡ a) ⊎ (b ≡ a → ⊥) → slice_index (slice_set xs a 0) b ≡ 0
    by (inl same) = ap (slice_index (slice_set xs a 0)) same ∙ zero_put xs a
    by (inr other) = get_or-set_other xs a b 0 0 other ∙ h

-- the first so many cells of the list are 0, and little else is changed
record Wiped (d e : Store) (many : ℕ) : Type 0 where
  target : e.target ≡ d.target
  scratch : e.scratch ≡ d.scratch
  latches : e.latches ≡ d.latches
  shown : e.converting ≡ d.converting
  eeprom : e.eeprom ≡ d.eeprom
  cells : length e.cells ≡ length d.cells
  zeros : (i a : ℕ) → i < many → ram_address d.target i ≡ Some a → cell e a ≡ 0

wipe_on : (d e : Store) (k : ℕ) (o : Option ℕ) → ram_address e.target k ≡ o → Wiped d e k → Wiped d (cell_cleared o e) (suc k)
wipe_on d e k None is w = record {
  target = w.target;
  scratch = w.scratch;
  latches = w.latches;
  shown = w.shown;
  eeprom = w.eeprom;
  cells = w.cells;
  zeros = λ i a lt h. by i a lt h (cases_eq i k);
}
  where
    by : (i a : ℕ) → i < suc k → ram_address d.target i ≡ Some a → (i ≡ k) ⊎ (i ≡ k → ⊥) → cell e a ≡ 0
    by i a lt h (inl same) = let f : ram_address e.target k ≡ Some a = ap (λ t. ram_address t k) w.target ∙ ap (ram_address d.target) (sym same) ∙ h in absurd
        (cc)
    by i a lt h (inr other) = w.zeros i a (omega (arith, lt, other)) h
wipe_on d e k (Some x) is w = record {
  target = w.target;
  scratch = w.scratch;
  latches = w.latches;
  shown = w.shown;
  eeprom = w.eeprom;
  cells = length-set e.cells x 0 ∙ w.cells;
  zeros = λ i a lt h. by i a lt h (cases_eq i k);
}
  where
    by : (i a : ℕ) → i < suc k → ram_address d.target i ≡ Some a → (i ≡ k) ⊎ (i ≡ k → ⊥) → slice_index (slice_set e.cells x 0) a ≡ 0
    by i a lt h (inl same) =
        let f : ram_address e.target k ≡ Some a = ap (λ t. ram_address t k) w.target ∙ ap (ram_address d.target) (sym same) ∙ h in
        let g : a ≡ x = cc in
        ap (slice_index (slice_set e.cells x 0)) g ∙ zero_put e.cells x
    by i a lt h (inr other) = zero_stays e.cells x a (w.zeros i a (omega (arith, lt, other)) h)

wipe : (d : Store) (many : ℕ) → Wiped d (cleared many d) many
wipe d zero = record { target = refl; scratch = refl; latches = refl; shown = refl; eeprom = refl; cells = refl; zeros = λ i a lt h. absurd (omega (arith, lt)) }
wipe d (suc k) = wipe_on d (cleared k d) k (ram_address (cleared k d).target k) refl (wipe d k)

no_bit : (b : ℕ) → bit_of 0 b ≡ false
no_bit b = ap (λ m. nat_eq m 1) (bit_at-zero b)

zero_word : IsWordOf (pos 0) 0
zero_word = record { number = refl; word = refl }

both_zero : (x y : ℕ) → x ≡ 0 → y ≡ 0 → x + y * 256 ≡ 0
both_zero x y e f = omega (arith, e, f)

none_high : (k b : ℕ) → bit_of (slice_index (0 ∷ 0 ∷ 0 ∷ 0 ∷ 0 ∷ []) k) b ≡ false
none_high zero b = no_bit b
none_high (suc zero) b = no_bit b
none_high (suc (suc zero)) b = no_bit b
none_high (suc (suc (suc zero))) b = no_bit b
none_high (suc (suc (suc (suc zero)))) b = no_bit b
none_high (suc (suc (suc (suc (suc k))))) b = no_bit b

-- what a ladder sees of the pins is at the pins
pub seen_levels : (o : Layout) (levels : List ℕ) (k : ℕ) → k < length o.inputs →
    bit_of (slice_index levels (pin_at o.inputs k).port) (pin_at o.inputs k).bit ≡ slice_index_or (map (is_high levels) o.inputs) k false
seen_levels o levels k h = sym (get_or-map (is_high levels) o.inputs k (record { port = 0; bit = 0 }) false h)

-- the kept bits and the words are zeros, in cells of the list
pub record Zeroed (o : Layout) (d : Store) : Type 0 where
  pub bits : (k : ℕ) → k < o.plan.sizes.kept_bits → cell d (bit_cell o k).address ≡ 0
  pub words : (v : ℕ) → v < o.plan.sizes.variables → word_at d (word_cell o v) ≡ 0

-- the store that bytes show whose words are 0
abbrev pub first_store : Layout → Store → (ℕ → ℕ) → int.Store
first_store o d eeprom = record {
  bit = λ k. bit_of (cell d (bit_cell o k).address) (bit_cell o k).bit;
  output = λ k. bit_of (slice_index d.latches (pin_at o.outputs k).port) (pin_at o.outputs k).bit;
  number = λ v. pos 0;
  devices = (int.start [] eeprom).devices;
}

-- the machine in front of the start values of variables from number v on
record Started (code rest : List Paced) (o : Layout) (p : IntProgram) (r : Reading) (eeprom : ℕ → ℕ) (ns : List ℤ) (v at : ℕ) (s : Bytes) (t : int.Store) :
    Type 0 where
  ahead : drop at code ≡ start_values o ns v ++ polling (Label 0) ∷ rest
  is_at : s.place ≡ at
  closed : s.open_call ≡ None
  started : s.started ≡ true
  good : Good o r s.store t
  bits : (k : ℕ) → k < o.plan.sizes.kept_bits → t.bit k ≡ false
  outputs : (k : ℕ) → k < length o.outputs → t.output k ≡ false
  devices : t.devices ≡ (int.start p.starts eeprom).devices
  below : (u : ℕ) → u < v → t.number u ≡ slice_index_or p.starts u (pos 0)
  above : (u : ℕ) → v ≤ u → t.number u ≡ pos 0
  left : (i : ℕ) → slice_index_or ns i (pos 0) ≡ slice_index_or p.starts (v + i) (pos 0)
  room : v + length ns ≤ o.plan.sizes.variables
  numbers : All IsNumber ns

-- it comes to the poll, and stands for a store of the start
pub record Booted (code : List Paced) (o : Layout) (p : IntProgram) (r : Reading) (eeprom : ℕ → ℕ) (poll : ℕ) (s : Bytes) : Type 1 where
  pub t : int.Store
  pub is : IsStart o p eeprom t
  pub reaches : (Goal : Bytes → Type 0) → ((e : Bytes) → e.place ≡ poll → e.open_call ≡ None → e.started ≡ true → Good o r e.store t → Goal e) → Reaches code Goal poll s

module _ (code rest : List Paced) (o : Layout) (p : IntProgram) (r : Reading) (eeprom : ℕ → ℕ) (apart : Apart o) (pins : HasPins o) where
  abbrev Begun : List ℤ → ℕ → ℕ → Bytes → int.Store → Type 0
  Begun ns v at s t = Started code rest o p r eeprom ns v at s t

  last_value : (v at : ℕ) (s : Bytes) (t : int.Store) → Begun [] v at s t → Booted code o p r eeprom (suc at) s
  last_value v at s t b = record {
    t = t;
    is = record { bits = b.bits; outputs = b.outputs; numbers = λ u h. by u (nat_le v u) refl; devices = b.devices };
    reaches = λ Goal g. go code Goal (suc at) s (polling (Label 0)) (ap (slice_get code) b.is_at ∙ here code at (polling (Label 0)) rest b.ahead) refl (tt, tt)
        refl (omega arith)
        (arrive code Goal (suc at) (next_with s (plain s.store)) (g (next_with s (plain s.store)) (ap suc b.is_at) b.closed b.started
        (any_flag o r apart pins s.store t None b.good)) (ap suc b.is_at));
  }
    where
      by : (u : ℕ) (c : Bool) → nat_le v u ≡ c → t.number u ≡ slice_index_or p.starts u (pos 0)
      by u true e =
          let h : v ≤ u = grind (arith, nat_tests, e) in
          let f : v + (u - v) ≡ u = omega (arith, h) in
          b.above u h ∙ b.left (u - v) ∙ ap (λ i. slice_index_or p.starts i (pos 0)) f
      by u false e = b.below u (grind (arith, nat_tests, e))

  shifted : (v i : ℕ) → slice_index_or p.starts (v + suc i) (pos 0) ≡ slice_index_or p.starts (suc v + i) (pos 0)
  shifted v i = let f : v + suc i ≡ suc v + i = omega arith in ap (λ j. slice_index_or p.starts j (pos 0)) f

  first_left : (n : ℤ) (ns : List ℤ) (v at : ℕ) (s : Bytes) (t : int.Store) → Begun (n ∷ ns) v at s t → n ≡ slice_index_or p.starts v (pos 0)
  first_left n ns v at s t b = let f : v + 0 ≡ v = omega arith in b.left 0 ∙ ap (λ j. slice_index_or p.starts j (pos 0)) f

  value_by : (n : ℤ) (ns : List ℤ) (v at : ℕ) (s : Bytes) (t : int.Store) (c : Bool) → int_eq n (pos 0) ≡ c → Begun (n ∷ ns) v at s t →
      drop at code ≡ (if c then start_values o ns (suc v) else booted (move o v (number n)) ∷ start_values o ns (suc v)) ++ polling (Label 0) ∷ rest →
      ((at1 : ℕ) (s1 : Bytes) (t1 : int.Store) → Begun ns (suc v) at1 s1 t1 → Booted code o p r eeprom (suc (along at1 (start_values o ns (suc v)))) s1) →
      Booted code o p r eeprom (suc (along at (if c then start_values o ns (suc v) else booted (move o v (number n)) ∷ start_values o ns (suc v)))) s
  value_by n ns v at s t true e b ahead rec =
      let zero_is : n ≡ pos 0 = (Decides-int_eq n (pos 0)).0 e in
      rec at s t (record {
        ahead = ahead;
        is_at = b.is_at;
        closed = b.closed;
        started = b.started;
        good = b.good;
        bits = b.bits;
        outputs = b.outputs;
        devices = b.devices;
        below = λ u h. by u h (cases_eq u v);
        above = λ u h. b.above u (omega (arith, h));
        left = λ i. b.left (suc i) ∙ shifted v i;
        room = omega (arith, b.room);
        numbers = All-tail IsNumber n ns b.numbers;
      })
    where
      by : (u : ℕ) → u < suc v → (u ≡ v) ⊎ (u ≡ v → ⊥) → t.number u ≡ slice_index_or p.starts u (pos 0)
      by u h (inl same) =
          b.above u (omega (arith, same)) ∙ sym ((Decides-int_eq n (pos 0)).0 e) ∙ first_left n ns v at s t b ∙ ap (λ j. slice_index_or p.starts j (pos 0))
          (sym same)
      by u h (inr other) = b.below u (omega (arith, h, other))
  value_by n ns v at s t false e b ahead rec =
      let move = booted (move o v (number n)) in
      let behind_it = start_values o ns (suc v) ++ polling (Label 0) ∷ rest in
      let lt : v < o.plan.sizes.variables = omega (arith, b.room) in
      let d = with_word s.store (word_cell o v) (word_from s.store (number n)) in
      let s1 = next_with s (plain d) in
      let t1 = int.with_number t v n in
      let good1 = any_flag o r apart pins d t1 None (word_written o r apart pins s.store t v n (word_from s.store (number n)) lt
      (number_read s.store n (All-head IsNumber n ns b.numbers)) b.good) in
      let next = rec (suc at) s1 t1 (record {
        ahead = behind code at move behind_it ahead;
        is_at = ap suc b.is_at;
        closed = b.closed;
        started = b.started;
        good = good1;
        bits = b.bits;
        outputs = b.outputs;
        devices = b.devices;
        below = λ u h. by u h (nat_eq v u) refl;
        above = λ u h. by_above u h (nat_eq v u) refl;
        left = λ i. b.left (suc i) ∙ shifted v i;
        room = omega (arith, b.room);
        numbers = All-tail IsNumber n ns b.numbers;
      }) in
      record {
        t = next.t;
        is = next.is;
        reaches = λ Goal g. go code Goal _ s move (ap (slice_get code) b.is_at ∙ here code at move behind_it ahead) refl (tt, tt) refl (omega arith)
            (next.reaches Goal g);
      }
    where
      by : (u : ℕ) → u < suc v → (c : Bool) → nat_eq v u ≡ c → (if c then n else t.number u) ≡ slice_index_or p.starts u (pos 0)
      by u h true f = let same = are_same v u f in first_left n ns v at s t b ∙ ap (λ j. slice_index_or p.starts j (pos 0)) same
      by u h false f = let other = are_apart v u f in b.below u (omega (arith, h, other))

      by_above : (u : ℕ) → suc v ≤ u → (c : Bool) → nat_eq v u ≡ c → (if c then n else t.number u) ≡ pos 0
      by_above u h true f = let same = are_same v u f in absurd (omega (arith, same, h))
      by_above u h false f = b.above u (omega (arith, h))

  values_on : (ns : List ℤ) (v at : ℕ) (s : Bytes) (t : int.Store) → Begun ns v at s t → Booted code o p r eeprom (suc (along at (start_values o ns v))) s
  values_on [] v at s t b = last_value v at s t b
  values_on (n ∷ ns) v at s t b = value_by n ns v at s t (int_eq n (pos 0)) refl b b.ahead (λ at1 s1 t1 b1. values_on ns (suc v) at1 s1 t1 b1)

-- what the start leaves
module _ (o : Layout) (c : IsChip o.plan.target) (room : ram_need o.plan.sizes ≤ ram_size o.plan.target) (d : Store) (target : d.target ≡ o.plan.target) where
  abbrev pub started_store : Store
  started_store = plain (none_waits (cleared (ram_need o.plan.sizes) d))

  wiped : Wiped d (cleared (ram_need o.plan.sizes) d) (ram_need o.plan.sizes)
  wiped = wipe d (ram_need o.plan.sizes)

  listed_zero : (a : ℕ) → Listed o c room a → cell started_store a ≡ 0
  listed_zero a l =
      let e = cleared (ram_need o.plan.sizes) d in
      zero_stays e.cells e.scratch.pending_low a (wiped.zeros l.index a l.below (ap (λ t. ram_address t l.index) target ∙ l.is))

  pub zeroed : Zeroed o started_store
  zeroed = record {
    bits = λ k h. listed_zero (bit_cell o k).address (kept_listed o c room k h);
    words = λ v h. both_zero _ _ (listed_zero (word_cell o v) (low_listed o c room v h)) (listed_zero (word_cell o v + 1) (high_listed o c room v h));
  }

  first_stands : Stands o started_store (first_store o started_store (slice_index d.eeprom))
  first_stands = record {
    bits = λ k h. refl;
    outputs = λ k h. refl;
    numbers = λ v h. subst (IsWordOf (pos 0)) (sym (zeroed.words v h)) zero_word;
    eeprom = ap slice_index wiped.eeprom;
  }

  first_bits : (k : ℕ) → k < o.plan.sizes.kept_bits → bit_of (cell started_store (bit_cell o k).address) (bit_cell o k).bit ≡ false
  first_bits k h = ap (λ n. bit_of n (bit_cell o k).bit) (zeroed.bits k h) ∙ no_bit (bit_cell o k).bit

  first_outputs : d.latches ≡ 0 ∷ 0 ∷ 0 ∷ 0 ∷ 0 ∷ [] → (k : ℕ) → k < length o.outputs → bit_of (slice_index started_store.latches (pin_at o.outputs k).port)
      (pin_at o.outputs k).bit ≡ false
  first_outputs e k h = ap (λ xs. bit_of (slice_index xs (pin_at o.outputs k).port) (pin_at o.outputs k).bit) (wiped.latches ∙ e) ∙ none_high
      (pin_at o.outputs k).port (pin_at o.outputs k).bit

  first_good : length d.cells ≡ 1120 → d.latches ≡ 0 ∷ 0 ∷ 0 ∷ 0 ∷ 0 ∷ [] → d.converting ≡ false → d.scratch ≡ own_cells o.plan.target → Good o (seen o started_store.reading) started_store
      (first_store o started_store (slice_index d.eeprom))
  first_good cells latches shown own = record {
    stands = first_stands;
    levels = seen_levels o started_store.reading.levels;
    cells = length-set (cleared (ram_need o.plan.sizes) d).cells (cleared (ram_need o.plan.sizes) d).scratch.pending_low 0 ∙ wiped.cells ∙ cells;
    latches = ap length (wiped.latches ∙ latches);
    shown = wiped.shown ∙ shown;
    scratch = wiped.scratch ∙ own;
  }

pub booted_start : (code rest : List Paced) (o : Layout) (p : IntProgram) (can : CanPlace o p) (c : IsChip o.plan.target)
    (room : ram_need o.plan.sizes ≤ ram_size o.plan.target) (apart : Apart o) (s : Bytes) (fresh : IsFresh o s) →
    code ≡ booted (Start (ram_need o.plan.sizes)) ∷ (start_values o p.starts 0 ++ polling (Label 0) ∷ rest) →
    Booted code o p (seen o (started_store o c room s.store fresh.target).reading) (slice_index s.store.eeprom) (suc (along 1 (start_values o p.starts 0))) s
booted_start code rest o p can c room apart s fresh whole =
    let d = started_store o c room s.store fresh.target in
    let first = booted (Start (ram_need o.plan.sizes)) in
    let after = start_values o p.starts 0 ++ polling (Label 0) ∷ rest in
    let s1 = record (next_with s d) { started = true } in
    let next = values_on code rest o p (seen o d.reading) (slice_index s.store.eeprom) apart can.pins p.starts 0 1 s1
    (first_store o d (slice_index s.store.eeprom)) (record {
      ahead = behind code 0 first after whole;
      is_at = ap suc fresh.place;
      closed = fresh.closed;
      started = refl;
      good = first_good o c room s.store fresh.target fresh.cells fresh.latches fresh.shown
          (sym (ap (λ x. unwrap_or x pic_scratch) fresh.scratch));
      bits = first_bits o c room s.store fresh.target;
      outputs = first_outputs o c room s.store fresh.target fresh.latches;
      devices = refl;
      below = λ u h. absurd (omega (arith, h));
      above = λ u h. refl;
      left = λ i. let f : 0 + i ≡ i = omega arith in ap (λ j. slice_index_or p.starts j (pos 0)) (sym f);
      room = omega (arith, can.starts);
      numbers = can.start_numbers;
    }) in
    record {
      t = next.t;
      is = next.is;
      reaches = λ Goal g. go code Goal (suc (along 1 (start_values o p.starts 0))) s first (ap (slice_get code) fresh.place ∙ here code 0 first after whole)
          refl (tt, tt) refl (omega arith) (next.reaches Goal g);
    }
