-- The code of a program has and begins no more than the public list allows to its operations.
use Rattle.std.proofs.Common.{◌≡◌, inl, inr, ℕ, zero, suc, ◌+◌, ◌-◌, ◌*◌, ◌/◌, ◌<◌, ◌≤◌, Bool, true, false, cond, List, [], ◌∷◌, ◌++◌, length, map, Option, Some, None, ℤ, pos, negsuc, refl, sym, ap, ap₂, subst, ◌∙◌, arith, append-nil}
use Rattle.std.proofs.lemmas.Bool.Decides.{nat_tests}
use Rattle.std.proofs.lemmas.List.{length-map}
use Rattle.std.proofs.lemmas.List.Elements.{All-head, All-tail}
use Rattle.std.proofs.lemmas.List.Sums.{sum_by-append, sum_by-cons}
use Rattle.std.proofs.lemmas.List.Concat.{flat_map-append}
use Rattle.std.specs.Prelude.{◌&&◌, ◌==◌, nat_le, nat_lt, if◌then◌else◌, int_lt, count_by, All}
use Rattle.std.specs.List.{flat_map, sum_by}
use Rattle.std.specs.Ordering.{int_eq}
use Rattle.chip_tables.specs.Memory.{ram_size}
use Rattle.chip_tables.specs.declared.scratch.TheConstants.{WIRES}
use Rattle.chip_tables.specs.declared.target.Target.{Target}
use Rattle.chip_tables.specs.declared.target.Target.TheVariants.{F628, F877, Mega16, Interp, AnsiC}
use Rattle.mem_plan.specs.Needs.{ram_need}
use Rattle.mem_plan.specs.Places.{IsChip}
use Rattle.ladder_meaning.specs.Device.{word_of}
use Rattle.ladder_meaning.specs.Numbers.{value_at}
use Rattle.int_code.specs.Kinds.{Kind, kinds, is_wire, reads_wire}
use Rattle.int_code.specs.Kinds as op
use Rattle.int_code.specs.Shapes.{shape_of}
use Rattle.int_code.specs.WellFormed.{IsDest, IsSource, IsInRange}
use Rattle.int_code.specs.declared.op.BitDest as written
use Rattle.int_code.specs.declared.op.BitDest.TheVariants as opdest
use Rattle.int_code.specs.declared.op.BitSource as read
use Rattle.int_code.specs.declared.op.BitSource.TheVariants as opsource
use Rattle.int_code.specs.declared.op.IntOp.{IntOp}
use Rattle.int_code.specs.declared.op.IntOp.TheVariants.{Set, Clr, Cpy, Not, Ifs, Ifc, Iflt, Ifeq, Els, Fi, Lit, Mov, Add, Sub, Mul, Div, Inc, Dec, Tab}
use Rattle.int_code.specs.declared.op.IntProgram.{IntProgram}
use Rattle.int_code.specs.declared.op.NumSource.{NumSource}
use Rattle.int_code.specs.declared.op.NumSource.TheVariants.{V, N}
use Rattle.byte_code.specs.Admitted.{is_scratch}
use Rattle.byte_code.specs.Kinds as prim
use Rattle.byte_code.specs.Kinds.{PrimKind, IsWithin, boot_kinds, turn_kinds, reads_scratch, writes_scratch, repeated}
use Rattle.byte_code.specs.Lowered as list
use Rattle.byte_code.specs.Lowered.{Entry, Operation, Routine, AreChosen, IsListed, IsOneOf, entries, plain, whole}
use Rattle.byte_code.specs.declared.prim.BytePrim.TheVariants as bytes
use Rattle.byte_code.specs.declared.prim.Paced.{Paced}
use Rattle.std.proofs.Math.Nat.{suc-mul}
use Rattle.chip_tables.specs.declared.scratch.Scratch.{Scratch}
use Rattle.byte_routines.specs.Routines.{multiply, divide}
use Rattle.byte_lower.proofs.AdmitLemmas.{is_wire_scratch}
use Rattle.byte_lower.proofs.ListLemmas.{guard_ranges}
use Rattle.byte_lower.proofs.NameLemmas.{count_more}
use Rattle.byte_lower.proofs.PlaceLemmas.{BitView, kept, wired, bit_view, IsIn, found_byte}
use Rattle.byte_lower.specs.Code.{CanPlace, booted, start_values, if_called, routines_of, code_of}
use Rattle.byte_lower.specs.Layout.{own_cells, bit_cell, dest_of, source_of, room_of}
use Rattle.byte_lower.specs.Listed.{operation_of, operations, routine_if, routines_in, starts_in}
use Rattle.byte_lower.specs.Lists.{is_built, label_of, list_of, lists_of, top_of, labels_behind, unless_less, unless_equal, sum, difference, called, product, quotient, calls_product, calls_quotient, move, number, guard_of, guard_by, look_up, put_known, put_where, joined}
use Rattle.byte_lower.specs.declared.guard.Guard.{Guard}
use Rattle.byte_lower.specs.declared.layout.Layout.{Layout}

pic_low : (a : ℕ) → a < 0x70 → (nat_le 0x70 a && nat_lt a 0x80) ≡ false
pic_low a h = let e : nat_le 0x70 a ≡ false = grind (arith, nat_tests, h) in ap (λ b. b && nat_lt a 0x80) e

pic_high : (a : ℕ) → 0x80 ≤ a → (nat_le 0x70 a && nat_lt a 0x80) ≡ false
pic_high a h =
    let e : nat_le 0x70 a ≡ true = grind (arith, nat_tests, h) in
    let f : nat_lt a 0x80 ≡ false = grind (arith, nat_tests, h) in
    ap₂ (λ b d. b && d) e f

avr_high : (a : ℕ) → 96 ≤ a → is_scratch Mega16 a ≡ false
avr_high a h =
    let zero_off : (a == 0) ≡ false = grind (arith, nat_tests, h) in
    let two : nat_le 2 a ≡ true = grind (arith, nat_tests, h) in
    let low : nat_lt a 16 ≡ false = grind (arith, nat_tests, h) in
    let twenty : nat_le 20 a ≡ true = grind (arith, nat_tests, h) in
    let middle : nat_lt a 28 ≡ false = grind (arith, nat_tests, h) in
    let thirty : nat_le 30 a ≡ true = grind (arith, nat_tests, h) in
    let top : nat_lt a 32 ≡ false = grind (arith, nat_tests, h) in
    rw (zero_off, two, low, twenty, middle, thirty, top) refl

-- a chip's bytes for variables and bits are none of the compiler's own
free : (target : Target) (a : ℕ) → IsIn target a → is_scratch target a ≡ false
free F628 a (inl h) = pic_low a (omega (arith, h.1))
free F628 a (inr (inl h)) = pic_high a (omega (arith, h.0))
free F628 a (inr (inr (inl h))) = pic_high a (omega (arith, h.0))
free F628 a (inr (inr (inr h))) = absurd h
free F877 a (inl h) = pic_low a (omega (arith, h.1))
free F877 a (inr (inl h)) = pic_high a (omega (arith, h.0))
free F877 a (inr (inr (inl h))) = pic_high a (omega (arith, h.0))
free F877 a (inr (inr (inr (inl h)))) = pic_high a (omega (arith, h.0))
free F877 a (inr (inr (inr (inr h)))) = absurd h
free Mega16 a (inl h) = avr_high a h.0
free Mega16 a (inr h) = absurd h
free Interp a h = absurd h
free AnsiC a h = absurd h

some_same : {a b : Guard} → Some a ≡ Some b → a ≡ b
some_same e = cc

none_at : (i : ℤ) → value_at [] i ≡ None
none_at (pos k) = refl
none_at (negsuc k) = refl

-- the kinds of an if on a bit whose block is one set or clr
kinds_guarded : (wires : ℕ) (x y z : IntOp) (ops : List IntOp) (g : Guard) → guard_by x y z ≡ Some g →
    kinds wires (x ∷ y ∷ z ∷ ops) ≡ op.Guarded (reads_wire wires g.from) (is_wire wires g.to) ∷ kinds wires ops
kinds_guarded wires (Ifs s) (Set b) Fi ops g e = ap (λ (q : Guard). op.Guarded (reads_wire wires q.from) (is_wire wires q.to) ∷ kinds wires ops) (some_same e)
kinds_guarded wires (Ifs s) (Clr b) Fi ops g e = ap (λ (q : Guard). op.Guarded (reads_wire wires q.from) (is_wire wires q.to) ∷ kinds wires ops) (some_same e)
kinds_guarded wires (Ifc s) (Set b) Fi ops g e = ap (λ (q : Guard). op.Guarded (reads_wire wires q.from) (is_wire wires q.to) ∷ kinds wires ops) (some_same e)
kinds_guarded wires (Ifc s) (Clr b) Fi ops g e = ap (λ (q : Guard). op.Guarded (reads_wire wires q.from) (is_wire wires q.to) ∷ kinds wires ops) (some_same e)
kinds_guarded wires x y z ops g e = absurd (cc)

-- the kinds of what is no such if
kinds_plain : (wires : ℕ) (x : IntOp) (ops : List IntOp) → guard_of (x ∷ ops) ≡ None → kinds wires (x ∷ ops) ≡ op.kind_of wires x ∷ kinds wires ops
kinds_plain wires (Ifs s) (Set b ∷ Fi ∷ ops) e = absurd (cc)
kinds_plain wires (Ifs s) (Clr b ∷ Fi ∷ ops) e = absurd (cc)
kinds_plain wires (Ifc s) (Set b ∷ Fi ∷ ops) e = absurd (cc)
kinds_plain wires (Ifc s) (Clr b ∷ Fi ∷ ops) e = absurd (cc)
kinds_plain wires x ops e = refl

-- the sum over what primitives give
sums_on : (f : Paced → List PrimKind) (cost : PrimKind → ℕ) (ps qs : List Paced) →
    sum_by cost (flat_map f (ps ++ qs)) ≡ sum_by cost (flat_map f ps) + sum_by cost (flat_map f qs)
sums_on f cost ps qs = ap (sum_by cost) (flat_map-append f ps qs) ∙ sum_by-append cost (flat_map f ps) (flat_map f qs)

-- a number so often
abbrev many : ℕ → ℕ → ℕ
many zero x = 0
many (suc n) x = x + many n x

many_on : (b : Bool) (n x : ℕ) → many (cond b 1 0 + n) x ≡ many (cond b 1 0) x + many n x
many_on true n x = ap (λ k. many k x) (one_more n) ∙ more x (many n x)
  where
    one_more : (n : ℕ) → 1 + n ≡ suc n
    one_more n = omega arith

    more : (x m : ℕ) → x + m ≡ x + 0 + m
    more x m = omega arith
many_on false n x = ap (λ k. many k x) (none_more n) ∙ sym (none_more (many n x))
  where
    none_more : (n : ℕ) → 0 + n ≡ n
    none_more n = omega arith

module _ (o : Layout) (c : IsChip o.plan.target) (room : ram_need o.plan.sizes ≤ ram_size o.plan.target) where
  abbrev Kept : ℕ
  Kept = o.plan.sizes.kept_bits

  abbrev Chip : Target
  Chip = o.plan.target

  -- a bit is in a cell of the compiler's where it is a wire
  bit : (k : ℕ) → k < Kept + WIRES → is_scratch Chip (bit_cell o k).address ≡ nat_le Kept k
  bit k h = by (bit_view o c room k h)
    where
      by : BitView o c room k → is_scratch Chip (bit_cell o k).address ≡ nat_le Kept k
      by (kept lt b e) =
          let f : nat_le Kept k ≡ false = grind (arith, nat_tests, lt) in
          let found = found_byte Chip c (2 * o.plan.sizes.variables + k / 8) (omega (arith, lt, room)) in
          let same : found.address ≡ b.address = (let g : Some found.address ≡ Some b.address = sym found.is ∙ b.is in cc) in
          ap (λ p. is_scratch Chip p.address) e ∙ ap (is_scratch Chip) (sym same) ∙ free Chip found.address found.within ∙ sym f
      by (wired past w e) =
          let f : nat_le Kept k ≡ true = grind (arith, nat_tests, past) in
          ap (λ p. is_scratch Chip p.address) e ∙ is_wire_scratch Chip c (k - Kept) (omega (arith, past, h)) w ∙ sym f

  dest : (b : written.BitDest) → IsDest (room_of o) b → writes_scratch Chip (dest_of o b) ≡ is_wire Kept b
  dest (opdest.B k) h = bit k h
  dest (opdest.Y k) h = refl

  source : (f : read.BitSource) → IsSource (room_of o) f → reads_scratch Chip (source_of o f) ≡ reads_wire Kept f
  source (opsource.B k) h = bit k h
  source (opsource.X k) h = refl
  source (opsource.Y k) h = refl

  abbrev Has : (PrimKind → ℕ) → List Paced → ℕ
  Has cost ps = sum_by cost (prim.kinds Chip ps)

  abbrev Boots : (PrimKind → ℕ) → List Paced → ℕ
  Boots cost ps = sum_by cost (boot_kinds Chip ps)

  abbrev Turns : (PrimKind → ℕ) → List Paced → ℕ
  Turns cost ps = sum_by cost (turn_kinds Chip ps)

  -- primitives have and begin no more than an entry
  record Within (e : Entry) (ps : List Paced) : Type 0 where
    code : (cost : PrimKind → ℕ) → Has cost ps ≤ sum_by cost e.code
    boot : (cost : PrimKind → ℕ) → Boots cost ps ≡ 0
    turns : (cost : PrimKind → ℕ) → Turns cost ps ≤ sum_by cost e.turns

  -- an operation's have and begin no more than one of its entries
  record Fits (to : Operation) (ps : List Paced) : Type 0 where
    entry : Entry
    one : IsOneOf entry (entries to)
    within : Within entry ps

  fits : (to : Operation) (e : Entry) (ps : List Paced) → IsOneOf e (entries to) → Within e ps → Fits to ps
  fits to e ps one within = record { entry = e; one = one; within = within }

  -- one primitive of a kind
  one_kind : (k n : PrimKind) (p : Paced) → prim.kind_of Chip p.prim ≡ k ∷ [] → p.boot ≡ 0 → p.turns ≡ 1 → k ≡ n → Within (plain (n ∷ [])) (p ∷ [])
  one_kind k n p is boot turns same = record {
    code = λ cost. let e = ap (λ ks. sum_by cost (ks ++ [])) is in let f = ap cost same in omega (arith, e, f);
    boot = λ cost. ap (λ b. sum_by cost (repeated b (prim.kind_of Chip p.prim) ++ [])) boot;
    turns = λ cost.
        let e = ap₂ (λ t ks. sum_by cost (repeated t ks ++ [])) turns is in
        let f = ap cost same in omega (arith, e, f);
  }

  -- a comparison and its branch
  two_kinds : (a b : PrimKind) (p q : Paced) → prim.kind_of Chip p.prim ≡ a ∷ [] → prim.kind_of Chip q.prim ≡ b ∷ [] → p.boot ≡ 0 → q.boot ≡ 0 →
      p.turns ≡ 1 → q.turns ≡ 1 → Within (plain (a ∷ b ∷ [])) (p ∷ q ∷ [])
  two_kinds a b p q ip iq bp bq tp tq = record {
    code = λ cost. let e = ap₂ (λ xs ys. sum_by cost (xs ++ (ys ++ []))) ip iq in omega (arith, e);
    boot = λ cost. ap₂ (λ x y. sum_by cost (repeated x (prim.kind_of Chip p.prim) ++ (repeated y (prim.kind_of Chip q.prim) ++ []))) bp bq;
    turns = λ cost.
        let e = ap₂ (λ x y. sum_by cost (repeated x (prim.kind_of Chip p.prim) ++ (repeated y (prim.kind_of Chip q.prim) ++ []))) tp tq in
        let f = ap₂ (λ xs ys. sum_by cost (repeated 1 xs ++ (repeated 1 ys ++ []))) ip iq in omega (arith, e, f);
  }

  none_within : Within (plain []) []
  none_within = record { code = λ cost. omega arith; boot = λ cost. refl; turns = λ cost. omega arith }

  -- of an empty list any entry is enough
  empty_within : (e : Entry) → Within e []
  empty_within e = record { code = λ cost. omega arith; boot = λ cost. refl; turns = λ cost. omega arith }

  by_test : (to : Operation) (b : Bool) (ps qs : List Paced) → Fits to ps → Fits to qs → Fits to (if b then ps else qs)
  by_test to true ps qs h g = h
  by_test to false ps qs h g = g

  known_jump : (l : ℕ) → Within (plain (prim.Jump ∷ [])) (record { prim = bytes.Jump l; boot = 0; turns = 1 } ∷ [])
  known_jump l = one_kind prim.Jump prim.Jump _ refl refl refl refl

  less : (w u : NumSource) (l : ℕ) → Fits list.Iflt (unless_less o w u l)
  less (V a) (V b) l = fits _ (plain (prim.Less ∷ prim.JumpOnFlag ∷ [])) _ (inl refl) (two_kinds _ _ _ _ refl refl refl refl refl refl)
  less (V a) (N m) l = fits _ (plain (prim.Less ∷ prim.JumpOnFlag ∷ [])) _ (inl refl) (two_kinds _ _ _ _ refl refl refl refl refl refl)
  less (N n) (V b) l = by_test list.Iflt (int_lt n (pos 32767)) _ _
      (fits _ (plain (prim.Less ∷ prim.JumpOnFlag ∷ [])) _ (inl refl) (two_kinds _ _ _ _ refl refl refl refl refl refl))
      (fits _ (plain (prim.Jump ∷ [])) _ (inr (inl refl)) (known_jump l))
  less (N n) (N m) l = by_test list.Iflt (int_lt n m) _ _ (fits _ (plain (prim.Jump ∷ [])) _ (inr (inl refl)) (empty_within _))
      (fits _ (plain (prim.Jump ∷ [])) _ (inr (inl refl)) (known_jump l))

  equal : (w u : NumSource) (l : ℕ) → Fits list.Ifeq (unless_equal o w u l)
  equal (V a) (V b) l = fits _ (plain (prim.Equal ∷ prim.JumpOnFlag ∷ [])) _ (inl refl) (two_kinds _ _ _ _ refl refl refl refl refl refl)
  equal (V a) (N m) l = fits _ (plain (prim.Equal ∷ prim.JumpOnFlag ∷ [])) _ (inl refl) (two_kinds _ _ _ _ refl refl refl refl refl refl)
  equal (N n) (V b) l = fits _ (plain (prim.Equal ∷ prim.JumpOnFlag ∷ [])) _ (inl refl) (two_kinds _ _ _ _ refl refl refl refl refl refl)
  equal (N n) (N m) l = by_test list.Ifeq (int_eq n m) _ _ (fits _ (plain (prim.Jump ∷ [])) _ (inr (inl refl)) (empty_within _))
      (fits _ (plain (prim.Jump ∷ [])) _ (inr (inl refl)) (known_jump l))

  sums : (v : ℕ) (w u : NumSource) → Fits list.Add (sum o v w u ∷ [])
  sums v (V a) (V b) = fits _ (plain (prim.Add ∷ [])) _ (inl refl) (one_kind _ _ _ refl refl refl refl)
  sums v (V a) (N m) = fits _ (plain (prim.Add ∷ [])) _ (inl refl) (one_kind _ _ _ refl refl refl refl)
  sums v (N n) (V b) = fits _ (plain (prim.Add ∷ [])) _ (inl refl) (one_kind _ _ _ refl refl refl refl)
  sums v (N n) (N m) = fits _ (plain (prim.Move ∷ [])) _ (inr (inl refl)) (one_kind _ _ _ refl refl refl refl)

  differences : (v : ℕ) (w u : NumSource) → Fits list.Sub (difference o v w u ∷ [])
  differences v (V a) (V b) = fits _ (plain (prim.Subtract ∷ [])) _ (inl refl) (one_kind _ _ _ refl refl refl refl)
  differences v (V a) (N m) = fits _ (plain (prim.Add ∷ [])) _ (inr (inl refl)) (one_kind _ _ _ refl refl refl refl)
  differences v (N n) (V b) = fits _ (plain (prim.Subtract ∷ [])) _ (inl refl) (one_kind _ _ _ refl refl refl refl)
  differences v (N n) (N m) = fits _ (plain (prim.Move ∷ [])) _ (inr (inr (inl refl))) (one_kind _ _ _ refl refl refl refl)

  known : (v : ℕ) (values : List ℤ) (x : Option ℤ) → (values ≡ [] → x ≡ None) → Within (plain (list.tab_code (length values))) (put_known o v x)
  known v values None h = empty_within _
  known v [] (Some n) h = let e = h refl in absurd (cc)
  known v (a ∷ []) (Some n) h = record { code = λ cost. omega arith; boot = λ cost. refl; turns = λ cost. omega arith }
  known v (a ∷ b ∷ values) (Some n) h = record { code = λ cost. omega arith; boot = λ cost. refl; turns = λ cost. omega arith }

  looked_within : (v : ℕ) (w : NumSource) (values : List ℤ) (l : ℕ) → Within (plain (list.tab_code (length values))) (look_up o v w values l)
  looked_within v (N i) values l = known v values (value_at values i) (λ e. ap (λ xs. value_at xs i) e ∙ none_at i)
  looked_within v (V w) [] l = empty_within _
  looked_within v (V w) (n ∷ []) l = record { code = λ cost. omega arith; boot = λ cost. refl; turns = λ cost. omega arith }
  looked_within v (V w) (n ∷ m ∷ ns) l =
      let many = length-map (n ∷ m ∷ ns) word_of in
      record {
        code = λ cost. let e = ap (λ k. cost (prim.Table k)) many in omega (arith, e);
        boot = λ cost. refl;
        turns = λ cost. let e = ap (λ k. cost (prim.Table k)) many in omega (arith, e);
      }

  looked : (v : ℕ) (w : NumSource) (values : List ℤ) (l : ℕ) → Fits (list.Tab (length values)) (look_up o v w values l)
  looked v w values l = fits _ (plain (list.tab_code (length values))) _ (inl refl) (looked_within v w values l)

  -- what calls of a routine begin, so many of them
  abbrev Begun : (PrimKind → ℕ) → Routine → ℕ
  Begun cost r = sum_by cost (list.call_turns r)

  abbrev Owed : (PrimKind → ℕ) → List IntOp → ℕ
  Owed cost ops = many (count_by calls_product ops) (Begun cost list.Multiply) + many (count_by calls_quotient ops) (Begun cost list.Divide)

  abbrev OwedBy : (PrimKind → ℕ) → IntOp → ℕ
  OwedBy cost x = many (cond (calls_product x) 1 0) (Begun cost list.Multiply) + many (cond (calls_quotient x) 1 0) (Begun cost list.Divide)

  owed_more : (cost : PrimKind → ℕ) (x : IntOp) (ops : List IntOp) → Owed cost (x ∷ ops) ≡ OwedBy cost x + Owed cost ops
  owed_more cost x ops =
      let a = ap (λ n. many n (Begun cost list.Multiply)) (count_more calls_product x ops)
      ∙ many_on (calls_product x) (count_by calls_product ops) (Begun cost list.Multiply) in
      let b = ap (λ n. many n (Begun cost list.Divide)) (count_more calls_quotient x ops)
      ∙ many_on (calls_quotient x) (count_by calls_quotient ops) (Begun cost list.Divide) in omega (arith, a, b)

  -- an operation's list, and what is begun by the calls in it
  record Owing (x : IntOp) (ps : List Paced) : Type 0 where
    entry : Entry
    one : IsOneOf entry (entries (operation_of (op.kind_of Kept x)))
    code : (cost : PrimKind → ℕ) → Has cost ps ≤ sum_by cost entry.code
    boot : (cost : PrimKind → ℕ) → Boots cost ps ≡ 0
    turns : (cost : PrimKind → ℕ) → Turns cost ps + OwedBy cost x ≤ sum_by cost entry.turns

  owing : (x : IntOp) (ps : List Paced) → ((cost : PrimKind → ℕ) → OwedBy cost x ≡ 0) → Fits (operation_of (op.kind_of Kept x)) ps → Owing x ps
  owing x ps none h = record {
    entry = h.entry;
    one = h.one;
    code = h.within.code;
    boot = h.within.boot;
    turns = λ cost. let a = h.within.turns cost in let b = none cost in omega (arith, a, b);
  }

  abbrev CallEntry : Routine → Entry
  CallEntry r = list.calling (r ∷ []) (prim.Move ∷ prim.Move ∷ prim.Call ∷ prim.Move ∷ [])

  move_few : (cost : PrimKind → ℕ) (r : Routine) → cost prim.Move ≤ sum_by cost (CallEntry r).turns
  move_few cost r =
      let a = sum_by-append cost (prim.Move ∷ prim.Move ∷ prim.Call ∷ prim.Move ∷ []) (flat_map list.call_turns (r ∷ [])) in
      let b = sum_by-cons cost prim.Move (prim.Move ∷ prim.Call ∷ prim.Move ∷ []) in omega (arith, a, b)

  called_turns : (cost : PrimKind → ℕ) (r : Routine) →
      sum_by cost (CallEntry r).turns ≡ cost prim.Move + (cost prim.Move + (cost prim.Call + cost prim.Move)) + Begun cost r
  called_turns cost r =
      let a = sum_by-append cost (prim.Move ∷ prim.Move ∷ prim.Call ∷ prim.Move ∷ []) (flat_map list.call_turns (r ∷ [])) in
      let b = ap (sum_by cost) (append-nil (list.call_turns r)) in
      let d = sum_by-cons cost prim.Move (prim.Move ∷ prim.Call ∷ prim.Move ∷ []) in
      let e = sum_by-cons cost prim.Move (prim.Call ∷ prim.Move ∷ []) in
      let f = sum_by-cons cost prim.Call (prim.Move ∷ []) in
      let g = sum_by-cons cost prim.Move [] in omega (arith, a, b, d, e, f, g)

  known_owing : (x : IntOp) (r : Routine) (p : Paced) → IsOneOf (CallEntry r) (entries (operation_of (op.kind_of Kept x))) →
      ((cost : PrimKind → ℕ) → OwedBy cost x ≡ 0) → Within (plain (prim.Move ∷ [])) (p ∷ []) → Owing x (p ∷ [])
  known_owing x r p one none h = record {
    entry = CallEntry r;
    one = one;
    code = λ cost. let a = h.code cost in omega (arith, a);
    boot = h.boot;
    turns = λ cost. let a = h.turns cost in let b = none cost in let d = move_few cost r in omega (arith, a, b, d);
  }

  call_owing : (x : IntOp) (r : Routine) (label result v : ℕ) (w u : NumSource) → IsOneOf (CallEntry r) (entries (operation_of (op.kind_of Kept x))) →
      ((cost : PrimKind → ℕ) → OwedBy cost x ≡ Begun cost r) → Owing x (called o label result v w u)
  call_owing x r label result v w u one owes = record {
    entry = CallEntry r;
    one = one;
    code = λ cost. omega arith;
    boot = λ cost. refl;
    turns = λ cost. let a = called_turns cost r in let b = owes cost in omega (arith, a, b);
  }

  none_first : (m : ℕ) → m + 0 + 0 ≡ m
  none_first m = omega arith

  none_last : (m : ℕ) → 0 + (m + 0) ≡ m
  none_last m = omega arith

  products : (v : ℕ) (w u : NumSource) → Owing (Mul v w u) (product o v w u)
  products v (N n) (N m) = known_owing (Mul v (N n) (N m)) list.Multiply _ (inl refl) (λ cost. refl) (one_kind _ _ _ refl refl refl refl)
  products v (N n) (V b) = call_owing (Mul v (N n) (V b)) list.Multiply _ _ v (N n) (V b) (inl refl) (λ cost. none_first (Begun cost list.Multiply))
  products v (V a) u = call_owing (Mul v (V a) u) list.Multiply _ _ v (V a) u (inl refl) (λ cost. none_first (Begun cost list.Multiply))

  quotients : (v : ℕ) (w u : NumSource) → Owing (Div v w u) (quotient o v w u)
  quotients v (N n) (N m) = known_owing (Div v (N n) (N m)) list.Divide _ (inl refl) (λ cost. refl) (one_kind _ _ _ refl refl refl refl)
  quotients v (N n) (V b) = call_owing (Div v (N n) (V b)) list.Divide _ _ v (N n) (V b) (inl refl) (λ cost. none_last (Begun cost list.Divide))
  quotients v (V a) u = call_owing (Div v (V a) u) list.Divide _ _ v (V a) u (inl refl) (λ cost. none_last (Begun cost list.Divide))

  settled : (x : IntOp) (ps : List Paced) → Owing x ps → Fits (operation_of (op.kind_of Kept x)) ps
  settled x ps h = record {
    entry = h.entry;
    one = h.one;
    within = record { code = h.code; boot = h.boot; turns = λ cost. let a = h.turns cost in omega (arith, a) };
  }

  list_fits : (x : IntOp) (l top : ℕ) → is_built x ≡ true → IsInRange (room_of o) x → Fits (operation_of (op.kind_of Kept x)) (list_of o x l top)
  list_fits (Set b) l top built h = fits _ (plain (prim.PutBit (is_wire Kept b) ∷ [])) _ (inl refl) (one_kind _ _ _ refl refl refl (ap prim.PutBit (dest b h)))
  list_fits (Clr b) l top built h = fits _ (plain (prim.PutBit (is_wire Kept b) ∷ [])) _ (inl refl) (one_kind _ _ _ refl refl refl (ap prim.PutBit (dest b h)))
  list_fits (Cpy b f) l top built h = fits _ (plain (prim.CopyBit (is_wire Kept b) (reads_wire Kept f) ∷ [])) _ (inl refl)
      (one_kind _ _ _ refl refl refl (ap₂ prim.CopyBit (dest b h.0) (source f h.1)))
  list_fits (Not b f) l top built h = fits _ (plain (prim.CopyBit (is_wire Kept b) (reads_wire Kept f) ∷ [])) _ (inl refl)
      (one_kind _ _ _ refl refl refl (ap₂ prim.CopyBit (dest b h.0) (source f h.1)))
  list_fits (Ifs f) l top built h = fits _ (plain (prim.JumpIf (reads_wire Kept f) ∷ [])) _ (inl refl) (one_kind _ _ _ refl refl refl (ap prim.JumpIf (source f h)))
  list_fits (Ifc f) l top built h = fits _ (plain (prim.JumpIf (reads_wire Kept f) ∷ [])) _ (inl refl) (one_kind _ _ _ refl refl refl (ap prim.JumpIf (source f h)))
  list_fits (Iflt w u) l top built h = less w u l
  list_fits (Ifeq w u) l top built h = equal w u l
  list_fits Els l top built h = fits _ (plain (prim.Jump ∷ [])) _ (inl refl) (record { code = λ cost. omega arith; boot = λ cost. refl; turns = λ cost. omega arith })
  list_fits Fi l top built h = fits _ (plain []) _ (inl refl) (record { code = λ cost. omega arith; boot = λ cost. refl; turns = λ cost. omega arith })
  list_fits (Lit v n) l top built h = fits _ (plain (prim.Move ∷ [])) _ (inl refl) (one_kind _ _ _ refl refl refl refl)
  list_fits (Mov v f) l top built h = fits _ (plain (prim.Move ∷ [])) _ (inl refl) (one_kind _ _ _ refl refl refl refl)
  list_fits (Add v w u) l top built h = sums v w u
  list_fits (Sub v w u) l top built h = differences v w u
  list_fits (Inc v) l top built h = fits _ (plain (prim.Increment ∷ [])) _ (inl refl) (one_kind _ _ _ refl refl refl refl)
  list_fits (Dec v) l top built h = fits _ (plain (prim.Decrement ∷ [])) _ (inl refl) (one_kind _ _ _ refl refl refl refl)
  list_fits (Tab v w values) l top built h = looked v w values l
  list_fits (Mul v w u) l top built h = settled (Mul v w u) (product o v w u) (products v w u)
  list_fits (Div v w u) l top built h = settled (Div v w u) (quotient o v w u) (quotients v w u)
  list_fits x l top built h = absurd (cc)

  guard_fits : (g : Guard) → IsSource (room_of o) g.from × IsDest (room_of o) g.to →
      Fits (list.Guarded (reads_wire Kept g.from) (is_wire Kept g.to)) (put_where o g ∷ [])
  guard_fits g h = fits _ (plain (prim.PutBitIf (reads_wire Kept g.from) (is_wire Kept g.to) ∷ [])) _ (inl refl)
      (one_kind _ _ _ refl refl refl (ap₂ prim.PutBitIf (source g.from h.0) (dest g.to h.1)))

  list_owing : (x : IntOp) (l top : ℕ) → is_built x ≡ true → IsInRange (room_of o) x → Owing x (list_of o x l top)
  list_owing (Mul v w u) l top built h = products v w u
  list_owing (Div v w u) l top built h = quotients v w u
  list_owing x l top built h = owing x (list_of o x l top) (λ cost. refl) (list_fits x l top built h)

  -- the same of many operations
  record AllFit (ops : List Operation) (of : List IntOp) (ps : List Paced) : Type 0 where
    choice : List Entry
    chosen : AreChosen ops choice
    code : (cost : PrimKind → ℕ) → Has cost ps ≤ sum_by cost (flat_map (λ e. e.code) choice)
    boot : (cost : PrimKind → ℕ) → Boots cost ps ≡ 0
    turns : (cost : PrimKind → ℕ) → Turns cost ps + Owed cost of ≤ sum_by cost (flat_map (λ e. e.turns) choice)

  fit_on : (x : IntOp) (ops : List Operation) (of : List IntOp) (ps qs : List Paced) → Owing x ps → AllFit ops of qs →
      AllFit (operation_of (op.kind_of Kept x) ∷ ops) (x ∷ of) (ps ++ qs)
  fit_on x ops of ps qs h g = record {
    choice = h.entry ∷ g.choice;
    chosen = (h.one, g.chosen);
    code = λ cost.
        let a = h.code cost in
        let b = g.code cost in
        let d = sums_on (λ p. prim.kind_of Chip p.prim) cost ps qs in
        let e = sum_by-append cost h.entry.code (flat_map (λ x. x.code) g.choice) in omega (arith, a, b, d, e);
    boot = λ cost.
        let a = h.boot cost in
        let b = g.boot cost in
        let d = sums_on (λ p. repeated p.boot (prim.kind_of Chip p.prim)) cost ps qs in omega (arith, a, b, d);
    turns = λ cost.
        let a = h.turns cost in
        let b = g.turns cost in
        let d = sums_on (λ p. repeated p.turns (prim.kind_of Chip p.prim)) cost ps qs in
        let f = owed_more cost x of in
        let e = sum_by-append cost h.entry.turns (flat_map (λ x. x.turns) g.choice) in omega (arith, a, b, d, e, f);
  }

  -- in front of them an if that is one primitive, which calls nothing
  guard_more : (to : Operation) (ops : List Operation) (of more : List IntOp) (ps qs : List Paced) → Fits to ps → AllFit ops of qs →
      ((cost : PrimKind → ℕ) → Owed cost more ≡ Owed cost of) → AllFit (to ∷ ops) more (ps ++ qs)
  guard_more to ops of more ps qs h g same = record {
    choice = h.entry ∷ g.choice;
    chosen = (h.one, g.chosen);
    code = λ cost.
        let a = h.within.code cost in
        let b = g.code cost in
        let d = sums_on (λ p. prim.kind_of Chip p.prim) cost ps qs in
        let e = sum_by-append cost h.entry.code (flat_map (λ x. x.code) g.choice) in omega (arith, a, b, d, e);
    boot = λ cost.
        let a = h.within.boot cost in
        let b = g.boot cost in
        let d = sums_on (λ p. repeated p.boot (prim.kind_of Chip p.prim)) cost ps qs in omega (arith, a, b, d);
    turns = λ cost.
        let a = h.within.turns cost in
        let b = g.turns cost in
        let d = sums_on (λ p. repeated p.turns (prim.kind_of Chip p.prim)) cost ps qs in
        let f = same cost in
        let e = sum_by-append cost h.entry.turns (flat_map (λ x. x.turns) g.choice) in omega (arith, a, b, d, e, f);
  }

  nothing_owed : (cost : PrimKind → ℕ) (x y z : IntOp) (ops : List IntOp) → OwedBy cost x ≡ 0 → OwedBy cost y ≡ 0 → OwedBy cost z ≡ 0 →
      Owed cost (x ∷ y ∷ z ∷ ops) ≡ Owed cost ops
  nothing_owed cost x y z ops a b d =
      let e = owed_more cost x (y ∷ z ∷ ops) in
      let f = owed_more cost y (z ∷ ops) in
      let g = owed_more cost z ops in omega (arith, a, b, d, e, f, g)

  guard_owes : (x y z : IntOp) (ops : List IntOp) (g : Guard) → guard_by x y z ≡ Some g → (cost : PrimKind → ℕ) → Owed cost (x ∷ y ∷ z ∷ ops) ≡ Owed cost ops
  guard_owes (Ifs s) (Set b) Fi ops g e cost = nothing_owed cost (Ifs s) (Set b) Fi ops refl refl refl
  guard_owes (Ifs s) (Clr b) Fi ops g e cost = nothing_owed cost (Ifs s) (Clr b) Fi ops refl refl refl
  guard_owes (Ifc s) (Set b) Fi ops g e cost = nothing_owed cost (Ifc s) (Set b) Fi ops refl refl refl
  guard_owes (Ifc s) (Clr b) Fi ops g e cost = nothing_owed cost (Ifc s) (Clr b) Fi ops refl refl refl
  guard_owes x y z ops g e cost = absurd (cc)

  abbrev Ops : List IntOp → List Operation
  Ops ops = map operation_of (kinds Kept ops)

  -- one that is no such if
  plain_on : (x : IntOp) (ops : List IntOp) (k : ℕ) (labels : List ℕ) → guard_of (x ∷ ops) ≡ None → is_built x ≡ true → IsInRange (room_of o) x →
      AllFit (Ops ops) ops (lists_of o 0 ops (suc k) (labels_behind (shape_of x) k labels)) → AllFit (Ops (x ∷ ops)) (x ∷ ops) (lists_of o 0 (x ∷ ops) k labels)
  plain_on x ops k labels e built h behind =
      let own = list_of o x (label_of k) (top_of labels) in
      let later = lists_of o 0 ops (suc k) (labels_behind (shape_of x) k labels) in
      let all = fit_on x (Ops ops) ops own later (list_owing x (label_of k) (top_of labels) built h) behind in
      subst (λ ks. AllFit (map operation_of ks) (x ∷ ops) (lists_of o 0 (x ∷ ops) k labels)) (sym (kinds_plain Kept x ops e))
      (subst (λ q. AllFit (operation_of (op.kind_of Kept x) ∷ Ops ops) (x ∷ ops) (joined q (λ g. put_where o g ∷ lists_of o 2 ops (suc k) labels) (own ++ later)))
      (sym e) all)

  guard_on : (x y z : IntOp) (ops : List IntOp) (k : ℕ) (labels : List ℕ) (g : Guard) → guard_by x y z ≡ Some g →
      IsSource (room_of o) g.from × IsDest (room_of o) g.to → AllFit (Ops ops) ops (lists_of o 0 ops (suc (suc (suc k))) labels) →
      AllFit (Ops (x ∷ y ∷ z ∷ ops)) (x ∷ y ∷ z ∷ ops) (lists_of o 0 (x ∷ y ∷ z ∷ ops) k labels)
  guard_on x y z ops k labels g e places behind =
      let own = list_of o x (label_of k) (top_of labels) in
      let later = lists_of o 0 (y ∷ z ∷ ops) (suc k) (labels_behind (shape_of x) k labels) in
      let all = guard_more (list.Guarded (reads_wire Kept g.from) (is_wire Kept g.to)) (Ops ops) ops (x ∷ y ∷ z ∷ ops) (put_where o g ∷ [])
      (lists_of o 0 ops (suc (suc (suc k))) labels) (guard_fits g places) behind (guard_owes x y z ops g e) in
      subst (λ ks. AllFit (map operation_of ks) (x ∷ y ∷ z ∷ ops) (lists_of o 0 (x ∷ y ∷ z ∷ ops) k labels)) (sym (kinds_guarded Kept x y z ops g e))
      (subst (λ q. AllFit (list.Guarded (reads_wire Kept g.from) (is_wire Kept g.to) ∷ Ops ops) (x ∷ y ∷ z ∷ ops)
      (joined q (λ g. put_where o g ∷ lists_of o 2 (y ∷ z ∷ ops) (suc k) labels) (own ++ later))) (sym e) all)

  either_on : (x y z : IntOp) (ops : List IntOp) (k : ℕ) (labels : List ℕ) (q : Option Guard) → guard_by x y z ≡ q → is_built x ≡ true →
      All (IsInRange (room_of o)) (x ∷ y ∷ z ∷ ops) → AllFit (Ops ops) ops (lists_of o 0 ops (suc (suc (suc k))) labels) →
      AllFit (Ops (y ∷ z ∷ ops)) (y ∷ z ∷ ops) (lists_of o 0 (y ∷ z ∷ ops) (suc k) (labels_behind (shape_of x) k labels)) →
      AllFit (Ops (x ∷ y ∷ z ∷ ops)) (x ∷ y ∷ z ∷ ops) (lists_of o 0 (x ∷ y ∷ z ∷ ops) k labels)
  either_on x y z ops k labels (Some g) e built range past behind =
      guard_on x y z ops k labels g e (guard_ranges o (x ∷ y ∷ z ∷ ops) g e range) past
  either_on x y z ops k labels None e built range past behind =
      plain_on x (y ∷ z ∷ ops) k labels e built (All-head (IsInRange (room_of o)) x (y ∷ z ∷ ops) range) behind

  abbrev IsBuilt : IntOp → Type 0
  IsBuilt x = is_built x ≡ true

  lists_fit : (ops : List IntOp) (k : ℕ) (labels : List ℕ) → All IsBuilt ops → All (IsInRange (room_of o)) ops → AllFit (Ops ops) ops (lists_of o 0 ops k labels)
  lists_fit [] k labels built range =
      record { choice = []; chosen = tt; code = λ cost. omega arith; boot = λ cost. refl; turns = λ cost. omega arith }
  lists_fit (x ∷ []) k labels built range = plain_on x [] k labels refl (All-head IsBuilt x [] built) (All-head (IsInRange (room_of o)) x [] range)
      (lists_fit [] (suc k) (labels_behind (shape_of x) k labels) (All-tail IsBuilt x [] built) (All-tail (IsInRange (room_of o)) x [] range))
  lists_fit (x ∷ y ∷ []) k labels built range =
      plain_on x (y ∷ []) k labels refl (All-head IsBuilt x (y ∷ []) built) (All-head (IsInRange (room_of o)) x (y ∷ []) range)
      (lists_fit (y ∷ []) (suc k) (labels_behind (shape_of x) k labels) (All-tail IsBuilt x (y ∷ []) built) (All-tail (IsInRange (room_of o)) x (y ∷ []) range))
  lists_fit (x ∷ y ∷ z ∷ ops) k labels built range =
      let built1 = All-tail IsBuilt x (y ∷ z ∷ ops) built in
      let range1 = All-tail (IsInRange (room_of o)) x (y ∷ z ∷ ops) range in
      either_on x y z ops k labels (guard_by x y z) refl (All-head IsBuilt x (y ∷ z ∷ ops) built) range
      (lists_fit ops (suc (suc (suc k))) labels (All-tail IsBuilt z ops (All-tail IsBuilt y (z ∷ ops) built1))
      (All-tail (IsInRange (room_of o)) z ops (All-tail (IsInRange (room_of o)) y (z ∷ ops) range1)))
      (lists_fit (y ∷ z ∷ ops) (suc k) (labels_behind (shape_of x) k labels) built1 range1)

  -- a move for each start value other than 0, in front of the first reading
  record AreStarts (n : ℕ) (ps : List Paced) : Type 0 where
    code : (cost : PrimKind → ℕ) → Has cost ps ≡ sum_by cost (repeated n (prim.Move ∷ []))
    boot : (cost : PrimKind → ℕ) → Boots cost ps ≡ sum_by cost (repeated n (prim.Move ∷ []))
    turns : (cost : PrimKind → ℕ) → Turns cost ps ≡ 0

  starts : (ns : List ℤ) (v : ℕ) → AreStarts (starts_in ns) (start_values o ns v)
  starts [] v = record { code = λ cost. refl; boot = λ cost. refl; turns = λ cost. refl }
  starts (n ∷ ns) v = by (int_eq n (pos 0)) (starts ns (suc v))
    where
      one : (cost : PrimKind → ℕ) (xs ys : List PrimKind) → sum_by cost xs ≡ sum_by cost ys → sum_by cost (prim.Move ∷ xs) ≡ sum_by cost (prim.Move ∷ ys)
      one cost xs ys e = sum_by-cons cost prim.Move xs ∙ ap (λ n. cost prim.Move + n) e ∙ sym (sum_by-cons cost prim.Move ys)

      more : AreStarts (starts_in ns) (start_values o ns (suc v)) → AreStarts (suc (starts_in ns)) (booted (move o v (number n)) ∷ start_values o ns (suc v))
      more h = record {
        code = λ cost. one cost (prim.kinds Chip (start_values o ns (suc v))) (repeated (starts_in ns) (prim.Move ∷ [])) (h.code cost);
        boot = λ cost. one cost (boot_kinds Chip (start_values o ns (suc v))) (repeated (starts_in ns) (prim.Move ∷ [])) (h.boot cost);
        turns = λ cost. h.turns cost;
      }

      by : (b : Bool) → AreStarts (starts_in ns) (start_values o ns (suc v)) →
          AreStarts (if b then starts_in ns else suc (starts_in ns)) (if b then start_values o ns (suc v) else booted (move o v (number n)) ∷ start_values o ns (suc v))
      by true h = h
      by false h = more h

  abbrev Moves : ℕ → List PrimKind
  Moves n = repeated n (prim.Move ∷ [])

  -- three kinds and others in front of more
  three_on : (cost : PrimKind → ℕ) (a b d : PrimKind) (xs ys : List PrimKind) →
      sum_by cost ((a ∷ b ∷ d ∷ xs) ++ ys) ≡ cost a + (cost b + (cost d + sum_by cost xs)) + sum_by cost ys
  three_on cost a b d xs ys =
      let e = sum_by-append cost (a ∷ b ∷ d ∷ xs) ys in
      let f = sum_by-cons cost a (b ∷ d ∷ xs) in
      let g = sum_by-cons cost b (d ∷ xs) in
      let h = sum_by-cons cost d xs in omega (arith, e, f, g, h)

  two_on : (cost : PrimKind → ℕ) (a b : PrimKind) (xs ys : List PrimKind) → sum_by cost ((a ∷ b ∷ xs) ++ ys) ≡ cost a + (cost b + sum_by cost xs) + sum_by cost ys
  two_on cost a b xs ys =
      let e = sum_by-append cost (a ∷ b ∷ xs) ys in
      let f = sum_by-cons cost a (b ∷ xs) in
      let g = sum_by-cons cost b xs in omega (arith, e, f, g)

  -- a kind that is begun so often
  abbrev Sets : ℕ → PrimKind → (PrimKind → ℕ) → ℕ
  Sets n k cost = sum_by cost (repeated n (k ∷ []))

  one_set : (cost : PrimKind → ℕ) (k : PrimKind) (n : ℕ) → Sets (suc n) k cost ≡ cost k + Sets n k cost
  one_set cost k n = sum_by-cons cost k (repeated n (k ∷ []))

  sets_on : (cost : PrimKind → ℕ) (k : PrimKind) (a b : ℕ) → Sets (a + b) k cost ≡ Sets a k cost + Sets b k cost
  sets_on cost k zero b = ap (λ n. Sets n k cost) (none_more b) ∙ sym (none_more (Sets b k cost))
    where
      none_more : (n : ℕ) → 0 + n ≡ n
      none_more n = omega arith
  sets_on cost k (suc a) b =
      let d = ap (λ n. Sets n k cost) (one_more a b) in
      let e = one_set cost k (a + b) in
      let f = one_set cost k a in
      let g = sets_on cost k a b in omega (arith, d, e, f, g)
    where
      one_more : (a b : ℕ) → suc a + b ≡ suc (a + b)
      one_more a b = omega arith

  sets_more : (cost : PrimKind → ℕ) (k : PrimKind) (n m : ℕ) → Sets (suc n * m) k cost ≡ Sets (n * m) k cost + Sets m k cost
  sets_more cost k n m = ap (λ x. Sets x k cost) (suc-mul n m) ∙ sets_on cost k (n * m) m

  no_kind : (cost : PrimKind → ℕ) (n : ℕ) → sum_by cost (repeated {X = PrimKind} n []) ≡ 0
  no_kind cost zero = refl
  no_kind cost (suc n) = no_kind cost n

  -- the turns of primitives, one after another
  abbrev Total : (PrimKind → ℕ) → List Paced → ℕ
  Total cost [] = 0
  Total cost (p ∷ ps) = sum_by cost (repeated p.turns (prim.kind_of Chip p.prim)) + Total cost ps

  total : (cost : PrimKind → ℕ) (ps : List Paced) → Turns cost ps ≡ Total cost ps
  total cost [] = refl
  total cost (p ∷ ps) =
      sum_by-append cost (repeated p.turns (prim.kind_of Chip p.prim)) (turn_kinds Chip ps)
      ∙ ap (λ n. sum_by cost (repeated p.turns (prim.kind_of Chip p.prim)) + n) (total cost ps)

  multiply_total : (cost : PrimKind → ℕ) (s : Scratch) (n : ℕ) → Total cost (multiply s n) ≡ many n (Begun cost list.Multiply)
  multiply_total cost s zero = refl
  multiply_total cost s (suc n) =
      let a = one_set cost prim.Move n in
      let b = one_set cost prim.PutByte n in
      let d = one_set cost prim.Return n in
      let e = sets_more cost prim.MultiplyStep n 8 in
      let f = sets_more cost prim.Loop n 8 in
      let g : Begun cost list.Multiply ≡ cost prim.Move + cost prim.PutByte + Sets 8 prim.MultiplyStep cost + Sets 8 prim.Loop cost + cost prim.Return = omega arith in
      let h = multiply_total cost s n in
      let i = no_kind cost n in
      let j = no_kind cost (n * 8) in
      let k = no_kind cost (suc n) in
      let l = no_kind cost (suc n * 8) in omega (arith, a, b, d, e, f, g, h, i, j, k, l)

  divide_total : (cost : PrimKind → ℕ) (s : Scratch) (n : ℕ) → Total cost (divide s n) ≡ many n (Begun cost list.Divide)
  divide_total cost s zero = refl
  divide_total cost s (suc n) =
      let a = one_set cost prim.Move n in
      let b = one_set cost prim.PutByte n in
      let d = one_set cost prim.Return n in
      let m = one_set cost prim.Xor n in
      let o = one_set cost prim.NegateIf n in
      let p = one_set cost prim.Equal n in
      let q = one_set cost prim.JumpOnFlag n in
      let e = sets_more cost prim.DivideStep n 16 in
      let f = sets_more cost prim.Loop n 16 in
      let g : Begun cost list.Divide ≡ cost prim.Xor + cost prim.NegateIf + cost prim.NegateIf + cost prim.Move + cost prim.PutByte + cost prim.Equal
      + cost prim.JumpOnFlag + Sets 16 prim.DivideStep cost + Sets 16 prim.Loop cost + cost prim.NegateIf + cost prim.Return + cost prim.Move
      + cost prim.Return = omega arith in
      let h = divide_total cost s n in
      let i = no_kind cost n in
      let j = no_kind cost (n * 16) in
      let k = no_kind cost (suc n) in
      let l = no_kind cost (suc n * 16) in omega (arith, a, b, d, m, o, p, q, e, f, g, h, i, j, k, l)

  -- the routines that are called have what the list has for them, and begin what their calls owe
  record Called (rs : List Routine) (ps : List Paced) (n d : ℕ) : Type 0 where
    code : (cost : PrimKind → ℕ) → Has cost ps ≡ sum_by cost (flat_map (λ e. e.code) (map list.routine_entry rs))
    boot : (cost : PrimKind → ℕ) → Boots cost ps ≡ 0
    turns : (cost : PrimKind → ℕ) → Turns cost ps ≡ many n (Begun cost list.Multiply) + many d (Begun cost list.Divide)

  routines_fit : (s : Scratch) (n d : ℕ) →
      Called (routine_if n list.Multiply ++ routine_if d list.Divide) (if_called (multiply s) n ++ if_called (divide s) d) n d
  routines_fit s zero zero = record { code = λ cost. refl; boot = λ cost. refl; turns = λ cost. refl }
  routines_fit s (suc n) zero = record {
    code = λ cost. refl;
    boot = λ cost. refl;
    turns = λ cost. let a = total cost (multiply s (suc n)) in let b = multiply_total cost s (suc n) in omega (arith, a, b);
  }
  routines_fit s zero (suc d) = record {
    code = λ cost. refl;
    boot = λ cost. refl;
    turns = λ cost. let a = total cost (divide s (suc d)) in let b = divide_total cost s (suc d) in omega (arith, a, b);
  }
  routines_fit s (suc n) (suc d) = record {
    code = λ cost. refl;
    boot = λ cost. refl;
    turns = λ cost.
        let a = total cost (multiply s (suc n)) in
        let b = multiply_total cost s (suc n) in
        let e = total cost (divide s (suc d)) in
        let f = divide_total cost s (suc d) in
        let g = sums_on (λ p. repeated p.turns (prim.kind_of Chip p.prim)) cost (multiply s (suc n)) (divide s (suc d)) in omega (arith, a, b, e, f, g);
  }

  abbrev Last : List Paced → List Paced
  Last routines = record { prim = bytes.Jump 0; boot = 0; turns = 1 } ∷ routines

  abbrev Behind : List Paced → List Paced → List Paced
  Behind code routines =
      record { prim = bytes.Label 0; boot = 1; turns = 1 } ∷ record { prim = bytes.CyclePoll 0; boot = 1; turns = 1 } ∷ (code ++ Last routines)

  has_all : (cost : PrimKind → ℕ) (starts code routines : List Paced) → Has cost (booted (bytes.Start (ram_need o.plan.sizes)) ∷ (starts ++ Behind code routines))
      ≡ cost prim.Start + (Has cost starts + (cost prim.CyclePoll + (Has cost code + (cost prim.Jump + Has cost routines))))
  has_all cost starts code routines =
      let a = sum_by-cons cost prim.Start (prim.kinds Chip (starts ++ Behind code routines)) in
      let b = sums_on (λ p. prim.kind_of Chip p.prim) cost starts (Behind code routines) in
      let d = sum_by-cons cost prim.CyclePoll (prim.kinds Chip (code ++ Last routines)) in
      let e = sums_on (λ p. prim.kind_of Chip p.prim) cost code (Last routines) in
      let f : Has cost (Last routines) ≡ cost prim.Jump + Has cost routines = sum_by-cons cost prim.Jump (prim.kinds Chip routines) in
      let g : Has cost (Behind code routines) ≡ cost prim.CyclePoll + Has cost (code ++ Last routines) = d in
      a ∙ omega (arith, b, e, f, g)

  boots_all : (cost : PrimKind → ℕ) (starts code routines : List Paced) →
      Boots cost (booted (bytes.Start (ram_need o.plan.sizes)) ∷ (starts ++ Behind code routines))
      ≡ cost prim.Start + (Boots cost starts + (cost prim.CyclePoll + (Boots cost code + Boots cost routines)))
  boots_all cost starts code routines =
      let a = sum_by-cons cost prim.Start (boot_kinds Chip (starts ++ Behind code routines)) in
      let b = sums_on (λ p. repeated p.boot (prim.kind_of Chip p.prim)) cost starts (Behind code routines) in
      let d = sum_by-cons cost prim.CyclePoll (boot_kinds Chip (code ++ Last routines)) in
      let e = sums_on (λ p. repeated p.boot (prim.kind_of Chip p.prim)) cost code (Last routines) in
      let f : Boots cost (Last routines) ≡ Boots cost routines = refl in
      let g : Boots cost (Behind code routines) ≡ cost prim.CyclePoll + Boots cost (code ++ Last routines) = d in
      a ∙ omega (arith, b, e, f, g)

  turns_all : (cost : PrimKind → ℕ) (starts code routines : List Paced) →
      Turns cost (booted (bytes.Start (ram_need o.plan.sizes)) ∷ (starts ++ Behind code routines))
      ≡ Turns cost starts + (cost prim.CyclePoll + (Turns cost code + (cost prim.Jump + Turns cost routines)))
  turns_all cost starts code routines =
      let b = sums_on (λ p. repeated p.turns (prim.kind_of Chip p.prim)) cost starts (Behind code routines) in
      let d = sum_by-cons cost prim.CyclePoll (turn_kinds Chip (code ++ Last routines)) in
      let e = sums_on (λ p. repeated p.turns (prim.kind_of Chip p.prim)) cost code (Last routines) in
      let f : Turns cost (Last routines) ≡ cost prim.Jump + Turns cost routines = sum_by-cons cost prim.Jump (turn_kinds Chip routines) in
      let g : Turns cost (Behind code routines) ≡ cost prim.CyclePoll + Turns cost (code ++ Last routines) = d in
      b ∙ omega (arith, e, f, g)

  entries_on : (f : Entry → List PrimKind) (cost : PrimKind → ℕ) (xs ys : List Entry) →
      sum_by cost (flat_map f (xs ++ ys)) ≡ sum_by cost (flat_map f xs) + sum_by cost (flat_map f ys)
  entries_on f cost xs ys = ap (sum_by cost) (flat_map-append f xs ys) ∙ sum_by-append cost (flat_map f xs) (flat_map f ys)

  pub listed : (p : IntProgram) → CanPlace o p → IsListed Chip (starts_in p.starts) (routines_in p.ops) (operations o p) (code_of o p)
  listed p can =
      let lists = lists_fit p.ops 5 [] can.built can.range in
      let first = starts p.starts 0 in
      let n = starts_in p.starts in
      let front = start_values o p.starts 0 in
      let code = lists_of o 0 p.ops 5 [] in
      let behind = routines_of o p.ops in
      let called = routines_fit (own_cells o.plan.target) (count_by calls_product p.ops) (count_by calls_quotient p.ops) in
      let ends = map list.routine_entry (routines_in p.ops) in
      record {
        choice = lists.choice;
        chosen = lists.chosen;
        primitives = λ cost.
            let a = first.code cost in
            let b = lists.code cost in
            let d = has_all cost front code behind in
            let e = three_on cost prim.Start prim.CyclePoll prim.Jump (Moves n) (flat_map (λ e. e.code) (lists.choice ++ ends)) in
            let f = entries_on (λ e. e.code) cost lists.choice ends in
            let g = called.code cost in
            subst (λ x. x ≤ sum_by cost (flat_map (λ e. e.code) (whole n (routines_in p.ops) lists.choice))) (sym d)
            (subst (λ x. cost prim.Start + (Has cost front + (cost prim.CyclePoll + (Has cost code + (cost prim.Jump + Has cost behind)))) ≤ x) (sym e)
            (omega (arith, a, b, f, g)));
        boot = λ cost.
            let a = first.boot cost in
            let b = lists.boot cost in
            let d = boots_all cost front code behind in
            let e = two_on cost prim.Start prim.CyclePoll (Moves n) (flat_map (λ e. e.boot) (lists.choice ++ ends)) in
            let g = called.boot cost in
            subst (λ x. x ≤ sum_by cost (flat_map (λ e. e.boot) (whole n (routines_in p.ops) lists.choice))) (sym d)
            (subst (λ x. cost prim.Start + (Boots cost front + (cost prim.CyclePoll + (Boots cost code + Boots cost behind))) ≤ x) (sym e)
            (omega (arith, a, b, g)));
        turns = λ cost.
            let a = first.turns cost in
            let b = lists.turns cost in
            let d = turns_all cost front code behind in
            let e = two_on cost prim.CyclePoll prim.Jump [] (flat_map (λ e. e.turns) (lists.choice ++ ends)) in
            let f = entries_on (λ e. e.turns) cost lists.choice ends in
            let g = called.turns cost in
            subst (λ x. x ≤ sum_by cost (flat_map (λ e. e.turns) (whole n (routines_in p.ops) lists.choice))) (sym d)
            (subst (λ x. Turns cost front + (cost prim.CyclePoll + (Turns cost code + (cost prim.Jump + Turns cost behind))) ≤ x) (sym e)
            (omega (arith, a, b, f, g)));
      }
