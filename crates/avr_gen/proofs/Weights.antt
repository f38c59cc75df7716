-- What the primitives of a program's code weigh, each of them and all together, whatever the chip is.
use Rattle.std.proofs.Common.{◌≡◌, ℕ, zero, suc, ◌+◌, ◌*◌, ◌^◌, ◌<◌, ◌≤◌, Bool, true, false, cond, List, [], ◌∷◌, ◌++◌, length, Option, Some, None, ℤ, pos, arith}
use Rattle.std.proofs.lemmas.List.Sums.{sum_by-cons, sum_by-append}
use Rattle.std.specs.Prelude.{if◌then◌else◌, int_lt, count_by, sum_by}
use Rattle.std.specs.Ordering.{int_eq}
use Rattle.chip_tables.specs.Memory.{ram_size}
use Rattle.chip_tables.specs.declared.scratch.Scratch.{Scratch}
use Rattle.chip_tables.specs.declared.target.Target.{Target}
use Rattle.chip_tables.specs.declared.target.Target.TheVariants.{F628, F877, Mega16, Interp, AnsiC}
use Rattle.ladder_meaning.specs.Numbers.{value_at}
use Rattle.mem_plan.specs.Needs.{ram_need}
use Rattle.int_code.specs.Shapes.{shape_of}
use Rattle.int_code.specs.declared.op.IntOp.{IntOp}
use Rattle.int_code.specs.declared.op.IntOp.TheVariants.{Set, Clr, Cpy, Not, Ifs, Ifc, Iflt, Ifeq, Els, Fi, Lit, Mov, Add, Sub, Mul, Div, Inc, Dec, Tab}
use Rattle.int_code.specs.declared.op.IntProgram.{IntProgram}
use Rattle.int_code.specs.declared.op.NumSource.{NumSource}
use Rattle.int_code.specs.declared.op.NumSource.TheVariants.{V, N}
use Rattle.byte_code.specs.declared.prim.BytePrim.{BytePrim}
use Rattle.byte_code.specs.declared.prim.BytePrim.TheVariants.{Start, CyclePoll, AdcPoll, Label, Jump, Call, Return, JumpWhere, Bit, Byte, Word, Compare, Device, Eeprom, Table}
use Rattle.byte_code.specs.declared.prim.Paced.{Paced}
use Rattle.byte_routines.specs.Routines.{multiply, divide}
use Rattle.byte_lower.proofs.NameLemmas.{count_more}
use Rattle.byte_lower.specs.Layout.{own_cells}
use Rattle.byte_lower.specs.Code.{CanPlace, booted, polling, start_values, if_called, routines_of, code_of}
use Rattle.byte_lower.specs.Lists.{paced, label_of, list_of, lists_of, top_of, labels_behind, unless_less, unless_equal, sum, difference, product, quotient, calls_product, calls_quotient, move, number, guard_of, look_up, put_known, put_where, joined}
use Rattle.byte_lower.specs.declared.guard.Guard.{Guard}
use Rattle.byte_lower.specs.declared.layout.Layout.{Layout}

-- the most words, and the most cycles
abbrev pub weight : BytePrim → ℕ
weight (Start n) = 8192
weight (Table values l) = 512
weight (CyclePoll l) = 32
weight (AdcPoll l) = 32
weight (Label l) = 32
weight (Jump l) = 32
weight (Call l) = 32
weight Return = 32
weight (JumpWhere by l) = 32
weight (Bit op) = 32
weight (Byte op) = 32
weight (Word op) = 32
weight (Compare op) = 32
weight (Device op) = 32
weight (Eeprom op) = 32

-- once for its words, and as often as it is begun
abbrev pub heft : Paced → ℕ
heft q = weight q.prim * (q.turns + q.boot + 1)

-- the list of each operation weighs 1400 at most, which leaves room for that of a look-up
none : 0 ≤ 1400
none = omega arith

one : 64 ≤ 1400
one = omega arith

two : 128 ≤ 1400
two = omega arith

either_list : (b : Bool) (ps qs : List Paced) (n : ℕ) → sum_by heft ps ≤ n → sum_by heft qs ≤ n → sum_by heft (if b then ps else qs) ≤ n
either_list true ps qs n h g = h
either_list false ps qs n h g = g

joined_list : (x : Option Guard) (one_list : Guard → List Paced) (other : List Paced) (n : ℕ) → ((g : Guard) → sum_by heft (one_list g) ≤ n) →
    sum_by heft other ≤ n → sum_by heft (joined x one_list other) ≤ n
joined_list (Some g) one_list other n h f = h g
joined_list None one_list other n h f = f

add_guard : (s r n : ℕ) → s ≡ 64 + r → r ≤ 1400 * n → s ≤ 1400 * suc n
add_guard s r n e h = omega (arith, e, h)

add_list : (s l r n : ℕ) → s ≡ l + r → l ≤ 1400 → r ≤ 1400 * n → s ≤ 1400 * suc n
add_list s l r n e h g = omega (arith, e, h, g)

add_none : (r n : ℕ) → r ≤ 1400 * n → r ≤ 1400 * suc n
add_none r n h = omega (arith, h)

add_start : (s r n : ℕ) → s ≡ 64 + r → r ≤ 64 * n → s ≤ 64 * suc n
add_start s r n e h = omega (arith, e, h)

add_no_start : (r n : ℕ) → r ≤ 64 * n → r ≤ 64 * suc n
add_no_start r n h = omega (arith, h)

room_small : (t : Target) → ram_size t ≤ 8192
room_small F628 = omega arith
room_small F877 = omega arith
room_small Mega16 = omega arith
room_small Interp = omega arith
room_small AnsiC = omega arith

-- the routines, by how often they are called in a cycle
pub multiply_heft : (s : Scratch) (calls : ℕ) → sum_by heft (multiply s calls) ≡ 896 * calls + 224
multiply_heft s calls = omega arith

pub divide_heft : (s : Scratch) (calls : ℕ) → sum_by heft (divide s calls) ≡ 1952 * calls + 512
divide_heft s calls = omega arith

module _ (o : Layout) where
  less : (w u : NumSource) (l : ℕ) → sum_by heft (unless_less o w u l) ≤ 1400
  less (V a) (V b) l = two
  less (V a) (N m) l = two
  less (N n) (V b) l = either_list (int_lt n (pos 32767)) _ _ 1400 two one
  less (N n) (N m) l = either_list (int_lt n m) _ _ 1400 none one

  equal : (w u : NumSource) (l : ℕ) → sum_by heft (unless_equal o w u l) ≤ 1400
  equal (V a) (V b) l = two
  equal (V a) (N m) l = two
  equal (N n) (V b) l = two
  equal (N n) (N m) l = either_list (int_eq n m) _ _ 1400 none one

  sums : (v : ℕ) (w u : NumSource) → sum_by heft (sum o v w u ∷ []) ≤ 1400
  sums v (V a) (V b) = one
  sums v (V a) (N m) = one
  sums v (N n) (V b) = one
  sums v (N n) (N m) = one

  differences : (v : ℕ) (w u : NumSource) → sum_by heft (difference o v w u ∷ []) ≤ 1400
  differences v (V a) (V b) = one
  differences v (V a) (N m) = one
  differences v (N n) (V b) = one
  differences v (N n) (N m) = one

  products : (v : ℕ) (w u : NumSource) → sum_by heft (product o v w u) ≤ 1400
  products v (N n) (N m) = one
  products v (N n) (V b) = omega arith
  products v (V a) u = omega arith

  quotients : (v : ℕ) (w u : NumSource) → sum_by heft (quotient o v w u) ≤ 1400
  quotients v (N n) (N m) = one
  quotients v (N n) (V b) = omega arith
  quotients v (V a) u = omega arith

  known : (v : ℕ) (x : Option ℤ) → sum_by heft (put_known o v x) ≤ 1400
  known v None = none
  known v (Some n) = one

  looked : (v : ℕ) (w : NumSource) (values : List ℤ) (l : ℕ) → sum_by heft (look_up o v w values l) ≤ 1400
  looked v (N i) values l = known v (value_at values i)
  looked v (V w) [] l = none
  looked v (V w) (n ∷ []) l = omega arith
  looked v (V w) (n ∷ m ∷ ns) l = omega arith

  list : (op : IntOp) (l top : ℕ) → sum_by heft (list_of o op l top) ≤ 1400
  list (Set b) l top = one
  list (Clr b) l top = one
  list (Cpy b f) l top = one
  list (Not b f) l top = one
  list (Ifs f) l top = one
  list (Ifc f) l top = one
  list (Iflt w u) l top = less w u l
  list (Ifeq w u) l top = equal w u l
  list Els l top = two
  list Fi l top = one
  list (Lit v n) l top = one
  list (Mov v f) l top = one
  list (Add v w u) l top = sums v w u
  list (Sub v w u) l top = differences v w u
  list (Mul v w u) l top = products v w u
  list (Div v w u) l top = quotients v w u
  list (Inc v) l top = one
  list (Dec v) l top = one
  list (Tab v w values) l top = looked v w values l
  list op l top = none

  lists : (passed : ℕ) (ops : List IntOp) (k : ℕ) (labels : List ℕ) → sum_by heft (lists_of o passed ops k labels) ≤ 1400 * length ops
  lists zero [] k labels = omega arith
  lists (suc passed) [] k labels = omega arith
  lists (suc passed) (op ∷ ops) k labels = add_none (sum_by heft (lists_of o passed ops (suc k) labels)) (length ops) (lists passed ops (suc k) labels)
  lists zero (op ∷ ops) k labels =
      let own = list_of o op (label_of k) (top_of labels) in
      let rest = lists_of o zero ops (suc k) (labels_behind (shape_of op) k labels) in
      let behind = lists_of o 2 ops (suc k) labels in
      joined_list (guard_of (op ∷ ops)) (λ g. put_where o g ∷ lists_of o 2 ops (suc k) labels)
      (list_of o op (label_of k) (top_of labels) ++ lists_of o zero ops (suc k) (labels_behind (shape_of op) k labels)) (1400 * suc (length ops))
      (λ g. add_guard (sum_by heft (put_where o g ∷ behind)) (sum_by heft behind) (length ops) (sum_by-cons heft (put_where o g) behind)
      (lists 2 ops (suc k) labels))
      (add_list (sum_by heft (own ++ rest)) (sum_by heft own) (sum_by heft rest) (length ops) (sum_by-append heft own rest)
      (list op (label_of k) (top_of labels)) (lists zero ops (suc k) (labels_behind (shape_of op) k labels)))

  starts : (ns : List ℤ) (v : ℕ) → sum_by heft (start_values o ns v) ≤ 64 * length ns
  starts [] v = omega arith
  starts (n ∷ ns) v =
      let rest = start_values o ns (suc v) in
      either_list (int_eq n (pos 0)) (start_values o ns (suc v)) (booted (move o v (number n)) ∷ start_values o ns (suc v)) (64 * suc (length ns))
      (add_no_start (sum_by heft rest) (length ns) (starts ns (suc v)))
      (add_start (sum_by heft (booted (move o v (number n)) ∷ rest)) (sum_by heft rest) (length ns) (sum_by-cons heft (booted (move o v (number n))) rest)
      (starts ns (suc v)))

  counted : (f : IntOp → Bool) (ops : List IntOp) → count_by f ops ≤ length ops
  counted f [] = omega arith
  counted f (x ∷ ops) = by (f x) (count_more f x ops) (counted f ops)
    where
      by : (b : Bool) → count_by f (x ∷ ops) ≡ cond b 1 0 + count_by f ops → count_by f ops ≤ length ops → count_by f (x ∷ ops) ≤ suc (length ops)
      by true e h = omega (arith, e, h)
      by false e h = omega (arith, e, h)

  multiply_if : (s : Scratch) (n : ℕ) → sum_by heft (if_called (multiply s) n) ≤ 896 * n + 224
  multiply_if s zero = omega arith
  multiply_if s (suc n) = let e = multiply_heft s (suc n) in omega (arith, e)

  divide_if : (s : Scratch) (n : ℕ) → sum_by heft (if_called (divide s) n) ≤ 1952 * n + 512
  divide_if s zero = omega arith
  divide_if s (suc n) = let e = divide_heft s (suc n) in omega (arith, e)

  routines : (ops : List IntOp) → sum_by heft (routines_of o ops) ≤ 2848 * length ops + 736
  routines ops =
      let s = own_cells o.plan.target in
      let e = sum_by-append heft (if_called (multiply s) (count_by calls_product ops)) (if_called (divide s) (count_by calls_quotient ops)) in
      let f = multiply_if s (count_by calls_product ops) in
      let g = divide_if s (count_by calls_quotient ops) in
      let h = counted calls_product ops in
      let i = counted calls_quotient ops in omega (arith, e, f, g, h, i)

  -- the start, the start values, the poll and its label, the lists, the jump back, and the routines
  in_all : (s a b c r starts ops variables : ℕ) → s ≡ 16384 + (a + (96 + (96 + (b + c)))) → c ≡ 64 + r → r ≤ 2848 * ops + 736 → a ≤ 64 * starts →
      b ≤ 1400 * ops → starts ≤ variables → 2 * variables ≤ 8192 → ops ≤ 1000000 → s < 2 ^ 32
  in_all s a b c r starts ops variables e f l h g i j k = omega (arith, e, f, l, h, g, i, j, k)

  pub code_heft : (p : IntProgram) → CanPlace o p → sum_by heft (code_of o p) < 2 ^ 32
  code_heft p can =
      let first = start_values o p.starts 0 in
      let own = lists_of o 0 p.ops 5 [] in
      let last = paced (Jump 0) ∷ routines_of o p.ops in
      let behind = polling (Label 0) ∷ polling (CyclePoll 0) ∷ (own ++ last) in
      let e : sum_by heft (code_of o p) ≡ 16384 + sum_by heft (first ++ behind) =
      sum_by-cons heft (booted (Start (ram_need o.plan.sizes))) (first ++ behind) in
      let f = sum_by-append heft first behind in
      let g : sum_by heft behind ≡ 96 + sum_by heft (polling (CyclePoll 0) ∷ (own ++ last)) =
      sum_by-cons heft (polling (Label 0)) (polling (CyclePoll 0) ∷ (own ++ last)) in
      let h : sum_by heft (polling (CyclePoll 0) ∷ (own ++ last)) ≡ 96 + sum_by heft (own ++ last) =
      sum_by-cons heft (polling (CyclePoll 0)) (own ++ last) in
      let i = sum_by-append heft own last in
      let room : 2 * o.plan.sizes.variables ≤ 8192 = (let fits = o.plan.ram_fits in let small = room_small o.plan.target in omega (arith, fits, small)) in
      in_all (sum_by heft (code_of o p)) (sum_by heft first) (sum_by heft own) (sum_by heft last) (sum_by heft (routines_of o p.ops)) (length p.starts) (length p.ops) o.plan.sizes.variables
      (omega (arith, e, f, g, h, i)) (sum_by-cons heft (paced (Jump 0)) (routines_of o p.ops)) (routines p.ops) (starts p.starts 0)
      (lists 0 p.ops 5 []) can.starts room can.few
