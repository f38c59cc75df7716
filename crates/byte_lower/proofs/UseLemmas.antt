-- A program's code uses of its chip only what its layout has.
use Rattle.std.proofs.Common.{◌≡◌, ℕ, zero, suc, ◌+◌, ◌<◌, ◌≤◌, inl, inr, Bool, true, false, List, [], ◌∷◌, ◌++◌, length, drop, Option, Some, None, ℤ, pos, refl, sym, subst, arith}
use Rattle.std.specs.Prelude.{if◌then◌else◌, int_lt, count_by, All}
use Rattle.std.specs.Ordering.{int_eq}
use Rattle.std.proofs.lemmas.List.{length-map}
use Rattle.std.proofs.lemmas.List.Elements.{All-head, All-tail, All-nil, All-cons}
use Rattle.ladder_meaning.specs.Device.{word_of}
use Rattle.ladder_meaning.specs.Numbers.{value_at}
use Rattle.ladder_tree.specs.declared.limits.TheConstants.{TABLE_VALUES}
use Rattle.int_code.specs.Shapes.{shape_of}
use Rattle.int_code.specs.WellFormed.{IsDest, IsSource, IsNumSource, IsComputed, IsInRange}
use Rattle.int_code.specs.declared.op.BitDest as written
use Rattle.int_code.specs.declared.op.BitDest.TheVariants as opdest
use Rattle.int_code.specs.declared.op.BitSource as read
use Rattle.int_code.specs.declared.op.BitSource.TheVariants as opsource
use Rattle.int_code.specs.declared.op.IntOp.{IntOp}
use Rattle.int_code.specs.declared.op.IntOp.TheVariants.{Set, Clr, Cpy, Not, Ifs, Ifc, Iflt, Ifeq, Els, Fi, Lit, Mov, Add, Sub, Mul, Div, Inc, Dec, Tab}
use Rattle.int_code.specs.declared.op.IntProgram.{IntProgram}
use Rattle.int_code.specs.declared.op.NumSource.{NumSource}
use Rattle.int_code.specs.declared.op.NumSource.TheVariants.{V, N}
use Rattle.byte_code.specs.declared.prim.Paced.{Paced}
use Rattle.byte_routines.specs.Routines.{zero_word, multiply, divide_front, divide_steps, divide}
use Rattle.byte_routines.specs.declared.routines.TheConstants.{MULTIPLY, DIVIDE}
use Rattle.byte_lower.proofs.CodeLemmas.{Every, every_on}
use Rattle.byte_lower.proofs.ListLemmas.{guard_ranges}
use Rattle.byte_lower.proofs.WordLemmas.{word_small}
use Rattle.byte_lower.specs.Code.{CanPlace, booted, start_values, if_called, routines_of, code_of}
use Rattle.byte_lower.specs.Layout.{word_cell, dest_of, source_of, room_of, own_cells}
use Rattle.byte_lower.specs.Lists.{is_built, label_of, list_of, lists_of, top_of, labels_behind, unless_less, unless_equal, sum, difference, product, quotient, called, word_of_source, calls_product, calls_quotient, move, number, guard_of, look_up, put_known, put_where, joined}
use Rattle.byte_lower.specs.Uses.{UsesWord, UsesByte, ReadsWord, ReadsBit, WritesBit, Uses}
use Rattle.byte_lower.specs.declared.guard.Guard.{Guard}
use Rattle.byte_lower.specs.declared.layout.Layout.{Layout}

every_in : (P : Paced → Type 0) (ps : List Paced) → Every P ps → All P ps
every_in P [] h = All-nil P
every_in P (p ∷ ps) h = All-cons P p ps h.0 (every_in P ps h.1)

either_list : (P : Paced → Type 0) (b : Bool) (ps qs : List Paced) → Every P ps → Every P qs → Every P (if b then ps else qs)
either_list P true ps qs h g = h
either_list P false ps qs h g = g

joined_by : (P : Paced → Type 0) (x : Option Guard) (one_list : Guard → List Paced) (other : List Paced) →
    ((g : Guard) → x ≡ Some g → Every P (one_list g)) → Every P other → Every P (joined x one_list other)
joined_by P (Some g) one_list other h f = h g refl
joined_by P None one_list other h f = f

module _ (o : Layout) where
  abbrev IsUsed : Paced → Type 0
  IsUsed p = Uses o p.prim

  word : (v : ℕ) → v < o.plan.sizes.variables → UsesWord o (word_cell o v)
  word v h = inl (v, h, refl)

  bytes : (n : ℤ) → ReadsWord o (number n)
  bytes n = let small = word_small n in (omega arith, omega (arith, small))

  dest : (b : written.BitDest) → IsDest (room_of o) b → WritesBit o (dest_of o b)
  dest (opdest.B k) h = (k, h, refl, refl)
  dest (opdest.Y k) h = (k, h, refl, refl)

  source : (f : read.BitSource) → IsSource (room_of o) f → ReadsBit o (source_of o f)
  source (opsource.B k) h = (k, h, refl, refl)
  source (opsource.X k) h = (k, h, refl, refl)
  source (opsource.Y k) h = (k, h, refl, refl)

  less : (w u : NumSource) (l : ℕ) → IsNumSource (room_of o) w → IsNumSource (room_of o) u → Every IsUsed (unless_less o w u l)
  less (V a) (V b) l h g = ((word a h, word b g), (tt, tt))
  less (V a) (N m) l h g = ((word a h, bytes m), (tt, tt))
  less (N n) (V b) l h g = either_list IsUsed (int_lt n (pos 32767)) _ _ ((word b g, bytes _), (tt, tt)) (tt, tt)
  less (N n) (N m) l h g = either_list IsUsed (int_lt n m) _ _ tt (tt, tt)

  equal : (w u : NumSource) (l : ℕ) → IsNumSource (room_of o) w → IsNumSource (room_of o) u → Every IsUsed (unless_equal o w u l)
  equal (V a) (V b) l h g = ((word a h, word b g), (tt, tt))
  equal (V a) (N m) l h g = ((word a h, bytes m), (tt, tt))
  equal (N n) (V b) l h g = ((word b g, bytes n), (tt, tt))
  equal (N n) (N m) l h g = either_list IsUsed (int_eq n m) _ _ tt (tt, tt)

  sums : (v : ℕ) (w u : NumSource) → IsComputed (room_of o) v w u → IsUsed (sum o v w u)
  sums v (V a) (V b) h = (word v h.0, word a h.1, word b h.2)
  sums v (V a) (N m) h = (word v h.0, word a h.1, bytes m)
  sums v (N n) (V b) h = (word v h.0, word b h.2, bytes n)
  sums v (N n) (N m) h = (word v h.0, bytes _)

  differences : (v : ℕ) (w u : NumSource) → IsComputed (room_of o) v w u → IsUsed (difference o v w u)
  differences v (V a) (V b) h = (word v h.0, word a h.1, word b h.2)
  differences v (V a) (N m) h = (word v h.0, word a h.1, bytes _)
  differences v (N n) (V b) h = (word v h.0, bytes n, word b h.2)
  differences v (N n) (N m) h = (word v h.0, bytes _)

  known : (v : ℕ) (x : Option ℤ) → v < o.plan.sizes.variables → Every IsUsed (put_known o v x)
  known v None h = tt
  known v (Some n) h = ((word v h, bytes n), tt)

  looked : (v : ℕ) (w : NumSource) (values : List ℤ) (l : ℕ) → v < o.plan.sizes.variables → IsNumSource (room_of o) w → length values ≤ TABLE_VALUES →
      Every IsUsed (look_up o v w values l)
  looked v (N i) values l h g few = known v (value_at values i) h
  looked v (V w) [] l h g few = tt
  looked v (V w) (n ∷ []) l h g few = ((word w g, bytes (pos 0)), (tt, ((word v h, bytes n), (tt, tt))))
  looked v (V w) (n ∷ m ∷ ns) l h g few =
      let many = length-map (n ∷ m ∷ ns) word_of in (
        (word w g, omega (arith, few)),
        (
          tt,
          (
            (inr (inr (inr refl)), word w g),
            ((subst (λ k. 0 < k) (sym many) (omega arith), subst (λ k. k ≤ TABLE_VALUES) (sym many) few), ((word v h, inr (inl refl)), (tt, tt))),
          ),
        ),
      )

  -- the compiler's own words, their bytes, the count and the sign
  left : UsesWord o (own_cells o.plan.target).left
  left = inr (inl refl)

  right : UsesWord o (own_cells o.plan.target).right
  right = inr (inr (inl refl))

  outcome : UsesWord o (own_cells o.plan.target).outcome
  outcome = inr (inr (inr refl))

  count : UsesByte o (own_cells o.plan.target).count
  count = inr (inl refl)

  sign : UsesByte o (own_cells o.plan.target).sign
  sign = inr (inr refl)

  high : (w : ℕ) → UsesWord o w → UsesByte o (w + 1)
  high w h = inl (w, h, inr refl)

  read_word : (w : NumSource) → IsNumSource (room_of o) w → ReadsWord o (word_of_source o w)
  read_word (V a) h = word a h
  read_word (N n) h = bytes n

  calls : (label result v : ℕ) (w u : NumSource) → UsesWord o result → IsComputed (room_of o) v w u → Every IsUsed (called o label result v w u)
  calls label result v w u out h = ((left, read_word w h.1), ((right, read_word u h.2), (tt, ((word v h.0, out), tt))))

  products : (v : ℕ) (w u : NumSource) → IsComputed (room_of o) v w u → Every IsUsed (product o v w u)
  products v (N n) (N m) h = ((word v h.0, bytes _), tt)
  products v (N n) (V b) h = calls MULTIPLY _ v (N n) (V b) outcome h
  products v (V a) u h = calls MULTIPLY _ v (V a) u outcome h

  quotients : (v : ℕ) (w u : NumSource) → IsComputed (room_of o) v w u → Every IsUsed (quotient o v w u)
  quotients v (N n) (N m) h = ((word v h.0, bytes _), tt)
  quotients v (N n) (V b) h = calls DIVIDE _ v (N n) (V b) left h
  quotients v (V a) u h = calls DIVIDE _ v (V a) u left h

  list : (op : IntOp) (l top : ℕ) → is_built op ≡ true → IsInRange (room_of o) op → Every IsUsed (list_of o op l top)
  list (Set b) l top built h = (dest b h, tt)
  list (Clr b) l top built h = (dest b h, tt)
  list (Cpy b f) l top built h = ((dest b h.0, source f h.1), tt)
  list (Not b f) l top built h = ((dest b h.0, source f h.1), tt)
  list (Ifs f) l top built h = (source f h, tt)
  list (Ifc f) l top built h = (source f h, tt)
  list (Iflt w u) l top built h = less w u l h.0 h.1
  list (Ifeq w u) l top built h = equal w u l h.0 h.1
  list Els l top built h = (tt, (tt, tt))
  list Fi l top built h = (tt, tt)
  list (Lit v n) l top built h = ((word v h, bytes n), tt)
  list (Mov v f) l top built h = ((word v h.0, word f h.1), tt)
  list (Add v w u) l top built h = (sums v w u h, tt)
  list (Sub v w u) l top built h = (differences v w u h, tt)
  list (Mul v w u) l top built h = products v w u h
  list (Div v w u) l top built h = quotients v w u h
  list (Inc v) l top built h = (word v h, tt)
  list (Dec v) l top built h = (word v h, tt)
  list (Tab v w values) l top built h = looked v w values l h.0 h.1 h.2
  list op l top built h = absurd (cc)

  lists : (passed : ℕ) (ops : List IntOp) (k : ℕ) (labels : List ℕ) → All (λ op. is_built op ≡ true) ops → All (IsInRange (room_of o)) ops →
      Every IsUsed (lists_of o passed ops k labels)
  lists zero [] k labels built range = tt
  lists (suc passed) [] k labels built range = tt
  lists (suc passed) (op ∷ ops) k labels built range = lists passed ops (suc k) labels (All-tail (λ x. is_built x ≡ true) op ops built)
      (All-tail (IsInRange (room_of o)) op ops range)
  lists zero (op ∷ ops) k labels built range =
      let built_behind = All-tail (λ x. is_built x ≡ true) op ops built in
      let range_behind = All-tail (IsInRange (room_of o)) op ops range in
      let own = list op (label_of k) (top_of labels) (All-head (λ x. is_built x ≡ true) op ops built) (All-head (IsInRange (room_of o)) op ops range) in
      joined_by IsUsed (guard_of (op ∷ ops)) (λ g. put_where o g ∷ lists_of o 2 ops (suc k) labels)
      (list_of o op (label_of k) (top_of labels) ++ lists_of o zero ops (suc k) (labels_behind (shape_of op) k labels))
      (λ g e. let places = guard_ranges o (op ∷ ops) g e range in (
        (source g.from places.0, dest g.to places.1),
        lists 2 ops (suc k) labels built_behind range_behind,
      ))
      (every_on IsUsed (list_of o op (label_of k) (top_of labels)) (lists_of o zero ops (suc k) (labels_behind (shape_of op) k labels))
      own (lists zero ops (suc k) (labels_behind (shape_of op) k labels) built_behind range_behind))

  none : ReadsWord o zero_word
  none = (omega arith, omega arith)

  -- the routines use these alone
  pub multiply_used : (calls : ℕ) → Every IsUsed (multiply (own_cells o.plan.target) calls)
  multiply_used calls = (tt, ((outcome, none), ((count, omega arith), (tt, (tt, (tt, (tt, tt)))))))

  pub divide_used : (calls : ℕ) → Every IsUsed (divide (own_cells o.plan.target) calls)
  divide_used calls = every_on IsUsed (divide_front (own_cells o.plan.target) calls) (divide_steps (own_cells o.plan.target) calls) front steps
    where
      zeros : Every IsUsed (drop 4 (divide_front (own_cells o.plan.target) calls))
      zeros = ((outcome, none), ((count, omega arith), ((right, none), (tt, tt))))

      front : Every IsUsed (divide_front (own_cells o.plan.target) calls)
      front = (tt, ((sign, high _ left, high _ right), ((left, high _ left), ((right, high _ right), zeros))))

      steps : Every IsUsed (divide_steps (own_cells o.plan.target) calls)
      steps = (tt, (tt, (tt, ((left, sign), (tt, (tt, ((left, none), (tt, tt))))))))

  multiply_if : (n : ℕ) → Every IsUsed (if_called (multiply (own_cells o.plan.target)) n)
  multiply_if zero = tt
  multiply_if (suc n) = multiply_used (suc n)

  divide_if : (n : ℕ) → Every IsUsed (if_called (divide (own_cells o.plan.target)) n)
  divide_if zero = tt
  divide_if (suc n) = divide_used (suc n)

  routines : (ops : List IntOp) → Every IsUsed (routines_of o ops)
  routines ops = every_on IsUsed (if_called (multiply (own_cells o.plan.target)) (count_by calls_product ops)) _ (multiply_if (count_by calls_product ops))
      (divide_if (count_by calls_quotient ops))

  starts : (ns : List ℤ) (v : ℕ) → v + length ns ≤ o.plan.sizes.variables → Every IsUsed (start_values o ns v)
  starts [] v h = tt
  starts (n ∷ ns) v h =
      either_list IsUsed (int_eq n (pos 0)) (start_values o ns (suc v)) (booted (move o v (number n)) ∷ start_values o ns (suc v))
      (starts ns (suc v) (omega (arith, h)))
      ((word v (omega (arith, h)), bytes n), starts ns (suc v) (omega (arith, h)))

  pub used : (p : IntProgram) → CanPlace o p → All IsUsed (code_of o p)
  used p can =
      every_in IsUsed (code_of o p) (
        refl,
        every_on IsUsed (start_values o p.starts 0) _ (starts p.starts 0 (omega (arith, can.starts)))
            (tt, (tt, every_on IsUsed (lists_of o 0 p.ops 5 []) _ (lists 0 p.ops 5 [] can.built can.range) (tt, routines p.ops))),
      )
