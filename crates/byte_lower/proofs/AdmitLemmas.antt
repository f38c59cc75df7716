-- Each primitive of a program's code is one that code for its layout may have.
use Rattle.std.proofs.Common.{◌≡◌, ℕ, zero, suc, ◌+◌, ◌-◌, ◌/◌, ◌<◌, ◌≤◌, Bool, true, false, List, [], ◌∷◌, ◌++◌, length, Option, Some, None, ℤ, pos, refl, sym, ap, ◌∙◌, arith}
use Rattle.std.proofs.lemmas.Bool.{and_from, and_parts, or_left, or_right}
use Rattle.std.specs.Prelude.{◌&&◌, ◌==◌, nat_lt, nat_le, if◌then◌else◌, int_lt, All, count_by}
use Rattle.std.specs.List.{list_any, list_all}
use Rattle.std.specs.Ordering.{int_eq}
use Rattle.std.proofs.lemmas.Bool.Decides.{nat_tests}
use Rattle.std.proofs.lemmas.List.Elements.{All-head, All-tail}
use Rattle.chip_tables.specs.Memory.{ram_size, ram_ranges, holds}
use Rattle.chip_tables.specs.Scratch.{pic_wire, avr_wire, wire_of}
use Rattle.chip_tables.specs.declared.scratch.CellBit.{CellBit}
use Rattle.chip_tables.specs.declared.pins.PortBit.{PortBit}
use Rattle.chip_tables.specs.declared.target.Target.{Target}
use Rattle.chip_tables.specs.declared.target.Target.TheVariants.{F628, F877, Mega16, Interp, AnsiC}
use Rattle.chip_tables.specs.declared.scratch.TheConstants.{WIRES}
use Rattle.chip_tables.proofs.RamLemmas.{inside}
use Rattle.mem_plan.specs.Needs.{ram_need}
use Rattle.mem_plan.specs.Places.{IsChip}
use Rattle.ladder_meaning.specs.Numbers.{value_at}
use Rattle.int_code.specs.Shapes.{shape_of}
use Rattle.int_code.specs.WellFormed.{IsDest, IsSource, IsNumSource, IsComputed, IsInRange}
use Rattle.int_code.specs.declared.op.BitDest as written
use Rattle.int_code.specs.declared.op.BitDest.TheVariants as opdest
use Rattle.int_code.specs.declared.op.BitSource as read
use Rattle.int_code.specs.declared.op.BitSource.TheVariants as opsource
use Rattle.int_code.specs.declared.op.IntOp.{IntOp}
use Rattle.int_code.specs.declared.op.IntOp.TheVariants.{Set, Clr, Cpy, Not, Ifs, Ifc, Iflt, Ifeq, Els, Fi, Lit, Mov, Add, Sub, Inc, Dec, Tab, Mul, Div}
use Rattle.int_code.specs.declared.op.IntProgram.{IntProgram}
use Rattle.int_code.specs.declared.op.NumSource.{NumSource}
use Rattle.int_code.specs.declared.op.NumSource.TheVariants.{V, N}
use Rattle.byte_code.specs.Admitted.{is_scratch, is_scratch_word, is_cell, is_word, reads_bit, writes_bit, admits, reads_word}
use Rattle.byte_code.specs.declared.prim.Paced.{Paced}
use Rattle.byte_routines.specs.Routines.{multiply, divide}
use Rattle.byte_lower.proofs.CodeLemmas.{Every, every_on}
use Rattle.byte_lower.proofs.ListLemmas.{guard_ranges}
use Rattle.byte_lower.proofs.PlaceLemmas.{AvrWire, power, alone, shared, avr_view, wire_found, BitView, kept, wired, bit_view, WirePlace, Listed, kept_listed, low_listed, high_listed, places_apart}
use Rattle.byte_lower.specs.Code.{CanPlace, booted, start_values, code_of, if_called}
use Rattle.byte_lower.specs.Layout.{own_cells, word_cell, bit_cell, pin_at, dest_of, source_of, room_of}
use Rattle.byte_lower.specs.Lists.{is_built, label_of, list_of, lists_of, top_of, labels_behind, unless_less, unless_equal, sum, difference, put_known, look_up, move, number, guard_of, put_where, joined, called, product, quotient, word_of_source, calls_product, calls_quotient}
use Rattle.byte_lower.specs.Outfit.{outfit_of}
use Rattle.byte_lower.specs.declared.guard.Guard.{Guard}
use Rattle.byte_lower.specs.declared.layout.Layout.{Layout}

low_register : (a : ℕ) → 2 ≤ a → a < 16 → is_scratch Mega16 a ≡ true
low_register a h g =
    let e : nat_le 2 a ≡ true = grind (arith, nat_tests, h) in
    let f : nat_lt a 16 ≡ true = grind (arith, nat_tests, g) in
    or_right (a == 0) _ (or_left (nat_le 2 a && nat_lt a 16) _ (and_from (nat_le 2 a) (nat_lt a 16) e f))

avr_scratch_cell : (w : ℕ) → w < 48 → AvrWire w → is_scratch Mega16 (avr_wire w).address ≡ true
avr_scratch_cell w h (power e f) = ap (λ p. is_scratch Mega16 p.address) f
avr_scratch_cell w h (alone e g f) = ap (λ p. is_scratch Mega16 p.address) f ∙ low_register (w + 1) (omega (arith, e)) (omega (arith, g))
avr_scratch_cell w h (shared e f) = ap (λ p. is_scratch Mega16 p.address) f ∙ low_register (10 + (w - 9) / 8) (omega arith) (omega (arith, e, h))

pic_scratch_cell : (w : ℕ) → w < 48 → nat_le 0x70 (0x70 + w / 8) && nat_lt (0x70 + w / 8) 0x80 ≡ true
pic_scratch_cell w h =
    let low : 0x70 ≤ 0x70 + w / 8 = omega arith in
    let high : 0x70 + w / 8 < 0x80 = omega (arith, h) in
    let e : nat_le 0x70 (0x70 + w / 8) ≡ true = grind (arith, nat_tests, low) in
    let f : nat_lt (0x70 + w / 8) 0x80 ≡ true = grind (arith, nat_tests, high) in
    and_from (nat_le 0x70 (0x70 + w / 8)) (nat_lt (0x70 + w / 8) 0x80) e f

every_all : (f : Paced → Bool) (ps : List Paced) → Every (λ p. f p ≡ true) ps → list_all f ps ≡ true
every_all f [] h = refl
every_all f (p ∷ ps) h = and_from (f p) (list_all f ps) h.0 (every_all f ps h.1)

any_at : (f : PortBit → Bool) (pins : List PortBit) (k : ℕ) → k < length pins → f (pin_at pins k) ≡ true → list_any f pins ≡ true
any_at f [] k h e = absurd (omega (arith, h))
any_at f (p ∷ pins) zero h e = or_left (f p) (list_any f pins) e
any_at f (p ∷ pins) (suc k) h e = or_right (f p) (list_any f pins) (any_at f pins k (omega (arith, h)) e)

same_pin : (p : PortBit) → (p.port == p.port) && (p.bit == p.bit) ≡ true
same_pin p = and_from (p.port == p.port) (p.bit == p.bit) (grind (arith, nat_tests)) (grind (arith, nat_tests))

wired_at : (target : Target) (w : ℕ) (p : CellBit) (x : WirePlace target w) → wire_of target w ≡ Some p → x.place ≡ p
wired_at target w p x e = let f : Some x.place ≡ Some p = sym x.is ∙ e in cc

pub is_wire_scratch : (target : Target) → IsChip target → (w : ℕ) → w < 48 → (x : WirePlace target w) → is_scratch target x.place.address ≡ true
is_wire_scratch F628 c w h x = ap (λ p. is_scratch F628 p.address) (wired_at F628 w (pic_wire w) x (wire_found w (pic_wire w) h)) ∙ pic_scratch_cell w h
is_wire_scratch F877 c w h x = ap (λ p. is_scratch F877 p.address) (wired_at F877 w (pic_wire w) x (wire_found w (pic_wire w) h)) ∙ pic_scratch_cell w h
is_wire_scratch Mega16 c w h x = ap (λ p. is_scratch Mega16 p.address) (wired_at Mega16 w (avr_wire w) x (wire_found w (avr_wire w) h)) ∙ avr_scratch_cell w h
    (avr_view w)
is_wire_scratch Interp c w h x = absurd (cc)
is_wire_scratch AnsiC c w h x = absurd (cc)

-- the routines' words and cells are the compiler's
record OwnScratch (t : Target) : Type 0 where
  left : is_scratch_word t (own_cells t).left ≡ true
  right : is_scratch_word t (own_cells t).right ≡ true
  outcome : is_scratch_word t (own_cells t).outcome ≡ true
  count : is_scratch t (own_cells t).count ≡ true
  sign : is_scratch t (own_cells t).sign ≡ true

own_scratch : (t : Target) → IsChip t → OwnScratch t
own_scratch F628 c = record { left = refl; right = refl; outcome = refl; count = refl; sign = refl }
own_scratch F877 c = record { left = refl; right = refl; outcome = refl; count = refl; sign = refl }
own_scratch Mega16 c = record { left = refl; right = refl; outcome = refl; count = refl; sign = refl }
own_scratch Interp c = absurd (cc)
own_scratch AnsiC c = absurd (cc)

module _ (o : Layout) (c : IsChip o.plan.target) (room : ram_need o.plan.sizes ≤ ram_size o.plan.target) where
  abbrev Admits : Paced → Type 0
  Admits p = admits (outfit_of o) p.prim ≡ true

  listed_cell : (a : ℕ) → Listed o c room a → is_cell (outfit_of o) a ≡ true
  listed_cell a l = or_right (is_scratch o.plan.target a) (list_any (holds a) (ram_ranges o.plan.target)) (inside o.plan.target l.index (Some a) (sym l.is))

  word : (v : ℕ) → v < o.plan.sizes.variables → is_word (outfit_of o) (word_cell o v) ≡ true
  word v h = and_from _ _ (listed_cell (word_cell o v) (low_listed o c room v h)) (listed_cell (word_cell o v + 1) (high_listed o c room v h))

  bit : (k : ℕ) → k < o.plan.sizes.kept_bits + WIRES → is_cell (outfit_of o) (bit_cell o k).address && nat_lt (bit_cell o k).bit 8 ≡ true
  bit k h =
      let low : nat_lt (bit_cell o k).bit 8 ≡ true = let lt = ((places_apart o c room).bit k h).1 in grind (arith, nat_tests, lt) in
      and_from _ _ (by (bit_view o c room k h)) low
    where
      by : BitView o c room k → is_cell (outfit_of o) (bit_cell o k).address ≡ true
      by (kept lt b e) = listed_cell (bit_cell o k).address (kept_listed o c room k lt)
      by (wired past w e) =
          ap (λ p. is_cell (outfit_of o) p.address) e
          ∙ or_left (is_scratch o.plan.target w.place.address) _ (is_wire_scratch o.plan.target c (k - o.plan.sizes.kept_bits) (omega (arith, past, h)) w)

  dest : (b : written.BitDest) → IsDest (room_of o) b → writes_bit (outfit_of o) (dest_of o b) ≡ true
  dest (opdest.B k) h = bit k h
  dest (opdest.Y k) h = any_at (λ p. p.port == (pin_at o.outputs k).port && p.bit == (pin_at o.outputs k).bit) o.outputs k h (same_pin (pin_at o.outputs k))

  source : (f : read.BitSource) → IsSource (room_of o) f → reads_bit (outfit_of o) (source_of o f) ≡ true
  source (opsource.B k) h = bit k h
  source (opsource.X k) h = any_at (λ p. p.port == (pin_at o.inputs k).port && p.bit == (pin_at o.inputs k).bit) o.inputs k h (same_pin (pin_at o.inputs k))
  source (opsource.Y k) h = any_at (λ p. p.port == (pin_at o.outputs k).port && p.bit == (pin_at o.outputs k).bit) o.outputs k h (same_pin (pin_at o.outputs k))

  two : (u v : ℕ) → u < o.plan.sizes.variables → v < o.plan.sizes.variables → is_word (outfit_of o) (word_cell o u) && is_word (outfit_of o) (word_cell o v) ≡
      true
  two u v h g = and_from _ _ (word u h) (word v g)

  one : (u : ℕ) → u < o.plan.sizes.variables → is_word (outfit_of o) (word_cell o u) && true ≡ true
  one u h = and_from _ _ (word u h) refl

  either_list : (b : Bool) (ps qs : List Paced) → Every Admits ps → Every Admits qs → Every Admits (if b then ps else qs)
  either_list true ps qs h g = h
  either_list false ps qs h g = g

  less : (w u : NumSource) (l : ℕ) → IsNumSource (room_of o) w → IsNumSource (room_of o) u → Every Admits (unless_less o w u l)
  less (V a) (V b) l h g = (two a b h g, (refl, tt))
  less (V a) (N m) l h g = (one a h, (refl, tt))
  less (N n) (V b) l h g = either_list (int_lt n (pos 32767)) _ _ (one b g, (refl, tt)) (refl, tt)
  less (N n) (N m) l h g = either_list (int_lt n m) _ _ tt (refl, tt)

  equal : (w u : NumSource) (l : ℕ) → IsNumSource (room_of o) w → IsNumSource (room_of o) u → Every Admits (unless_equal o w u l)
  equal (V a) (V b) l h g = (two a b h g, (refl, tt))
  equal (V a) (N m) l h g = (one a h, (refl, tt))
  equal (N n) (V b) l h g = (one b g, (refl, tt))
  equal (N n) (N m) l h g = either_list (int_eq n m) _ _ tt (refl, tt)

  sums : (v : ℕ) (w u : NumSource) → IsComputed (room_of o) v w u → Every Admits (sum o v w u ∷ [])
  sums v (V a) (V b) h = (and_from _ _ (word v h.0) (two a b h.1 h.2), tt)
  sums v (V a) (N m) h = (and_from _ _ (word v h.0) (one a h.1), tt)
  sums v (N n) (V b) h = (and_from _ _ (word v h.0) (one b h.2), tt)
  sums v (N n) (N m) h = (one v h.0, tt)

  differences : (v : ℕ) (w u : NumSource) → IsComputed (room_of o) v w u → Every Admits (difference o v w u ∷ [])
  differences v (V a) (V b) h = (and_from _ _ (word v h.0) (two a b h.1 h.2), tt)
  differences v (V a) (N m) h = (and_from _ _ (word v h.0) (one a h.1), tt)
  differences v (N n) (V b) h = (and_from _ _ (word v h.0) (word b h.2), tt)
  differences v (N n) (N m) h = (one v h.0, tt)

  own : OwnScratch o.plan.target
  own = own_scratch o.plan.target c

  own_cell : (a : ℕ) → is_scratch o.plan.target a ≡ true → is_cell (outfit_of o) a ≡ true
  own_cell a h = or_left (is_scratch o.plan.target a) (list_any (holds a) (ram_ranges o.plan.target)) h

  own_low : (a : ℕ) → is_scratch_word o.plan.target a ≡ true → is_cell (outfit_of o) a ≡ true
  own_low a h = own_cell a (and_parts (is_scratch o.plan.target a) (is_scratch o.plan.target (a + 1)) h).0

  own_high : (a : ℕ) → is_scratch_word o.plan.target a ≡ true → is_cell (outfit_of o) (a + 1) ≡ true
  own_high a h = own_cell (a + 1) (and_parts (is_scratch o.plan.target a) (is_scratch o.plan.target (a + 1)) h).1

  own_word : (a : ℕ) → is_scratch_word o.plan.target a ≡ true → is_word (outfit_of o) a ≡ true
  own_word a h = and_from _ _ (own_low a h) (own_high a h)

  number_read : (w : NumSource) → IsNumSource (room_of o) w → reads_word (outfit_of o) (word_of_source o w) ≡ true
  number_read (V a) h = word a h
  number_read (N n) h = refl

  calls : (label outcome v : ℕ) (w u : NumSource) → is_scratch_word o.plan.target outcome ≡ true → IsComputed (room_of o) v w u →
      Every Admits (called o label outcome v w u)
  calls label outcome v w u out h = (
    and_from _ _ (own_word (own_cells o.plan.target).left own.left) (number_read w h.1),
    (
      and_from _ _ (own_word (own_cells o.plan.target).right own.right) (number_read u h.2),
      (refl, (and_from _ _ (word v h.0) (own_word outcome out), tt)),
    ),
  )

  products : (v : ℕ) (w u : NumSource) → IsComputed (room_of o) v w u → Every Admits (product o v w u)
  products v (N n) (N m) h = (one v h.0, tt)
  products v (N n) (V b) h = calls 1 (own_cells o.plan.target).outcome v (N n) (V b) own.outcome h
  products v (V a) u h = calls 1 (own_cells o.plan.target).outcome v (V a) u own.outcome h

  quotients : (v : ℕ) (w u : NumSource) → IsComputed (room_of o) v w u → Every Admits (quotient o v w u)
  quotients v (N n) (N m) h = (one v h.0, tt)
  quotients v (N n) (V b) h = calls 3 (own_cells o.plan.target).left v (N n) (V b) own.left h
  quotients v (V a) u h = calls 3 (own_cells o.plan.target).left v (V a) u own.left h

  zero_put : (a : ℕ) → is_scratch_word o.plan.target a ≡ true → is_word (outfit_of o) a && true ≡ true
  zero_put a h = and_from _ _ (own_word a h) refl

  multiplies : (n : ℕ) → Every Admits (if_called (multiply (own_cells o.plan.target)) n)
  multiplies zero = tt
  multiplies (suc n) = (
    refl,
    (zero_put (own_cells o.plan.target).outcome own.outcome, (own_cell (own_cells o.plan.target).count own.count, (refl, (refl, (refl, (refl, tt)))))),
  )

  divides : (n : ℕ) → Every Admits (if_called (divide (own_cells o.plan.target)) n)
  divides zero = tt
  divides (suc n) =
      let s = own_cells o.plan.target in (
        refl,
        (
          and_from _ _ (own_cell s.sign own.sign) (and_from _ _ (own_high s.left own.left) (own_high s.right own.right)),
          (
            and_from _ _ (own_word s.left own.left) (own_high s.left own.left),
            (
              and_from _ _ (own_word s.right own.right) (own_high s.right own.right),
              (
                zero_put s.outcome own.outcome,
                (
                  own_cell s.count own.count,
                  (
                    zero_put s.right own.right,
                    (
                      refl,
                      (
                        refl,
                        (
                          refl,
                          (
                            refl,
                            (
                              and_from _ _ (own_word s.left own.left) (own_cell s.sign own.sign),
                              (refl, (refl, (zero_put s.left own.left, (refl, tt)))),
                            ),
                          ),
                        ),
                      ),
                    ),
                  ),
                ),
              ),
            ),
          ),
        ),
      )

  known_value : (v : ℕ) (x : Option ℤ) → v < o.plan.sizes.variables → Every Admits (put_known o v x)
  known_value v None h = tt
  known_value v (Some n) h = (one v h, tt)

  looked : (v : ℕ) (w : NumSource) (values : List ℤ) (l : ℕ) → v < o.plan.sizes.variables → IsNumSource (room_of o) w → Every Admits (look_up o v w values l)
  looked v (N i) values l h g = known_value v (value_at values i) h
  looked v (V w) [] l h g = tt
  looked v (V w) (n ∷ []) l h g = (one w g, (refl, (one v h, (refl, tt))))
  looked v (V w) (n ∷ m ∷ ns) l h g =
      let index = own_word (own_cells o.plan.target).outcome own.outcome in
      let taken = own_word (own_cells o.plan.target).left own.left in
      (word w g, (refl, (and_from _ _ index (word w g), (refl, (and_from _ _ (word v h) taken, (refl, tt))))))

  list : (op : IntOp) (l top : ℕ) → is_built op ≡ true → IsInRange (room_of o) op → Every Admits (list_of o op l top)
  list (Set b) l top built h = (dest b h, tt)
  list (Clr b) l top built h = (dest b h, tt)
  list (Cpy b f) l top built h = (and_from _ _ (dest b h.0) (source f h.1), tt)
  list (Not b f) l top built h = (and_from _ _ (dest b h.0) (source f h.1), tt)
  list (Ifs f) l top built h = (source f h, tt)
  list (Ifc f) l top built h = (source f h, tt)
  list (Iflt w u) l top built h = less w u l h.0 h.1
  list (Ifeq w u) l top built h = equal w u l h.0 h.1
  list Els l top built h = (refl, (refl, tt))
  list Fi l top built h = (refl, tt)
  list (Lit v n) l top built h = (one v h, tt)
  list (Mov v f) l top built h = (two v f h.0 h.1, tt)
  list (Add v w u) l top built h = sums v w u h
  list (Sub v w u) l top built h = differences v w u h
  list (Mul v w u) l top built h = products v w u h
  list (Div v w u) l top built h = quotients v w u h
  list (Inc v) l top built h = (word v h, tt)
  list (Dec v) l top built h = (word v h, tt)
  list (Tab v w values) l top built h = looked v w values l h.0 h.1
  list op l top built h = absurd (cc)

  joined_by : (x : Option Guard) (one_list : Guard → List Paced) (other : List Paced) → ((g : Guard) → x ≡ Some g → Every Admits (one_list g)) →
      Every Admits other → Every Admits (joined x one_list other)
  joined_by (Some g) one_list other h f = h g refl
  joined_by None one_list other h f = f

  lists : (passed : ℕ) (ops : List IntOp) (k : ℕ) (labels : List ℕ) → All (λ op. is_built op ≡ true) ops → All (IsInRange (room_of o)) ops →
      Every Admits (lists_of o passed ops k labels)
  lists zero [] k labels built range = tt
  lists (suc passed) [] k labels built range = tt
  lists (suc passed) (op ∷ ops) k labels built range = lists passed ops (suc k) labels (All-tail (λ x. is_built x ≡ true) op ops built)
      (All-tail (IsInRange (room_of o)) op ops range)
  lists zero (op ∷ ops) k labels built range =
      joined_by (guard_of (op ∷ ops)) (λ g. put_where o g ∷ lists_of o 2 ops (suc k) labels)
      (list_of o op (label_of k) (top_of labels) ++ lists_of o zero ops (suc k) (labels_behind (shape_of op) k labels))
      (λ g e. let places = guard_ranges o (op ∷ ops) g e range in (
        and_from _ _ (source g.from places.0) (dest g.to places.1),
        lists 2 ops (suc k) labels (All-tail (λ x. is_built x ≡ true) op ops built)
            (All-tail (IsInRange (room_of o)) op ops range),
      ))
      (every_on Admits (list_of o op (label_of k) (top_of labels)) (lists_of o zero ops (suc k) (labels_behind (shape_of op) k labels))
      (list op (label_of k) (top_of labels) (All-head (λ x. is_built x ≡ true) op ops built) (All-head (IsInRange (room_of o)) op ops range))
      (lists zero ops (suc k) (labels_behind (shape_of op) k labels) (All-tail (λ x. is_built x ≡ true) op ops built) (All-tail (IsInRange (room_of o)) op ops
      range)))

  starts : (ns : List ℤ) (v : ℕ) → v + length ns ≤ o.plan.sizes.variables → Every Admits (start_values o ns v)
  starts [] v h = tt
  starts (n ∷ ns) v h =
      either_list (int_eq n (pos 0)) (start_values o ns (suc v)) (booted (move o v (number n)) ∷ start_values o ns (suc v))
      (starts ns (suc v) (omega (arith, h)))
      (one v (omega (arith, h)), starts ns (suc v) (omega (arith, h)))

  pub admitted : (p : IntProgram) → CanPlace o p → list_all (λ q. admits (outfit_of o) q.prim) (code_of o p) ≡ true
  admitted p can =
      every_all (λ q. admits (outfit_of o) q.prim) (code_of o p) (
        refl,
        every_on Admits (start_values o p.starts 0) _ (starts p.starts 0 (omega (arith, can.starts))) (
          refl,
          (
            refl,
            every_on Admits (lists_of o 0 p.ops 5 []) _ (lists 0 p.ops 5 [] can.built can.range) (
              refl,
              every_on Admits (if_called (multiply (own_cells o.plan.target)) (count_by calls_product p.ops))
                  (if_called (divide (own_cells o.plan.target)) (count_by calls_quotient p.ops)) (multiplies (count_by calls_product p.ops))
                  (divides (count_by calls_quotient p.ops)),
            ),
          ),
        ),
      )
