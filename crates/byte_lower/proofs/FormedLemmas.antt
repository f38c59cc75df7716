-- Well-formed programs can be placed.
use Rattle.std.proofs.Common.{◌≡◌, ℕ, ◌<◌, true, List, [], ◌∷◌, sym, ap, subst, arith}
use Rattle.std.specs.Prelude.{All}
use Rattle.std.specs.List.{AllByRecursion}
use Rattle.std.proofs.lemmas.List.Elements.{All-head, All-tail, All-from_recursion}
use Rattle.int_code.specs.WellFormed.{IsDest, IsSource, IsNumSource, IsComputed, IsInRange, sizes_of}
use Rattle.int_code.specs.declared.op.BitDest as written
use Rattle.int_code.specs.declared.op.BitDest.TheVariants as opdest
use Rattle.int_code.specs.declared.op.BitSource as read
use Rattle.int_code.specs.declared.op.BitSource.TheVariants as opsource
use Rattle.int_code.specs.declared.op.IntOp.{IntOp}
use Rattle.int_code.specs.declared.op.IntOp.TheVariants.{Set, Clr, Cpy, Not, Ifs, Ifc, Iflt, Ifeq, Els, Fi, Lit, Mov, Add, Sub, Inc, Dec, Tab, Mul, Div}
use Rattle.int_code.specs.declared.op.IntProgram.{IntProgram}
use Rattle.int_code.specs.declared.op.NumSource.{NumSource}
use Rattle.int_code.specs.declared.op.NumSource.TheVariants.{V, N}
use Rattle.byte_lower.specs.Layout.{room_of}
use Rattle.byte_lower.specs.Lists.{is_built}
use Rattle.byte_lower.specs.Placed.{HasPlaces, FormedIsPlaced}
use Rattle.byte_lower.specs.declared.layout.Layout.{Layout}

module _ (o : Layout) (p : IntProgram) (h : HasPlaces o p) where
  many : p.variables ≡ o.plan.sizes.variables
  many = sym (ap (λ s. s.variables) h.plan)

  kept : p.kept_bits ≡ o.plan.sizes.kept_bits
  kept = sym (ap (λ s. s.kept_bits) h.plan)

  variable : (v : ℕ) → v < p.variables → v < o.plan.sizes.variables
  variable v lt = subst (λ n. v < n) many lt

  dest : (b : written.BitDest) → IsDest (sizes_of p) b → IsDest (room_of o) b
  dest (opdest.B k) lt = omega (arith, lt, h.wires, kept)
  dest (opdest.Y k) lt = omega (arith, lt, h.outputs)

  source : (s : read.BitSource) → IsSource (sizes_of p) s → IsSource (room_of o) s
  source (opsource.B k) lt = omega (arith, lt, h.wires, kept)
  source (opsource.X k) lt = omega (arith, lt, h.inputs)
  source (opsource.Y k) lt = omega (arith, lt, h.outputs)

  number : (w : NumSource) → IsNumSource (sizes_of p) w → IsNumSource (room_of o) w
  number (V k) lt = variable k lt
  number (N n) lt = tt

  computed : (v : ℕ) (w u : NumSource) → IsComputed (sizes_of p) v w u → IsComputed (room_of o) v w u
  computed v w u (a, b, c) = (variable v a, number w b, number u c)

  in_room : (op : IntOp) → is_built op ≡ true → IsInRange (sizes_of p) op → IsInRange (room_of o) op
  in_room (Set b) built r = dest b r
  in_room (Clr b) built r = dest b r
  in_room (Cpy b s) built r = (dest b r.0, source s r.1)
  in_room (Not b s) built r = (dest b r.0, source s r.1)
  in_room (Ifs s) built r = source s r
  in_room (Ifc s) built r = source s r
  in_room (Iflt w u) built r = (number w r.0, number u r.1)
  in_room (Ifeq w u) built r = (number w r.0, number u r.1)
  in_room Els built r = tt
  in_room Fi built r = tt
  in_room (Lit v n) built r = variable v r
  in_room (Mov v from) built r = (variable v r.0, variable from r.1)
  in_room (Add v w u) built r = computed v w u r
  in_room (Sub v w u) built r = computed v w u r
  in_room (Mul v w u) built r = computed v w u r
  in_room (Div v w u) built r = computed v w u r
  in_room (Inc v) built r = variable v r
  in_room (Dec v) built r = variable v r
  in_room (Tab v w values) built r = (variable v r.0, number w r.1, r.2)
  in_room op built r = absurd (cc)

  all_in_room : (ops : List IntOp) → All (λ op. is_built op ≡ true) ops → All (IsInRange (sizes_of p)) ops → AllByRecursion (IsInRange (room_of o)) ops
  all_in_room [] built r = tt
  all_in_room (op ∷ ops) built r = (
    in_room op (All-head (λ x. is_built x ≡ true) op ops built) (All-head (IsInRange (sizes_of p)) op ops r),
    all_in_room ops (All-tail (λ x. is_built x ≡ true) op ops built) (All-tail (IsInRange (sizes_of p)) op ops r),
  )

pub formed_is_placed : FormedIsPlaced
formed_is_placed o p h f built numbers starts few = record {
  built = built;
  nests = f.nests;
  range = All-from_recursion (IsInRange (room_of o)) p.ops (all_in_room o p h p.ops built f.range);
  numbers = numbers;
  starts = omega (arith, f.starts, many o p h);
  start_numbers = starts;
  few = few;
  pins = h.pins;
}
