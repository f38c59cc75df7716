-- The test that numbers are in range says what it should.
use Rattle.std.proofs.Common.{◌≡◌, ℕ, ◌<◌, ◌≤◌, Bool, true, ◌&&◌, nat_lt, nat_le, length, refl, arith}
use Rattle.std.specs.Bool.{Decides}
use Rattle.std.proofs.lemmas.Bool.Decides.{nat_tests, Decides-and, same_from_decides}
use Rattle.int_code.specs.declared.op.BitDest.{BitDest}
use Rattle.int_code.specs.declared.op.BitDest.TheVariants as dest
use Rattle.int_code.specs.declared.op.BitSource.{BitSource}
use Rattle.int_code.specs.declared.op.BitSource.TheVariants as source
use Rattle.int_code.specs.declared.op.NumSource.{NumSource}
use Rattle.int_code.specs.declared.op.NumSource.TheVariants.{V, N}
use Rattle.int_code.specs.declared.op.IntOp.{IntOp}
use Rattle.int_code.specs.declared.op.IntOp.TheVariants.{Set, Clr, Cpy, Not, Ifs, Ifc, Iflt, Ifeq, Ifee, Els, Fi, Lit, Mov, Add, Sub, Mul, Div, Inc, Dec, Adc, Pwm, Rx, Tx, Eebusy, Eerd, Eewr, Tab}
use Rattle.int_code.specs.WellFormed.{Sizes, IsDest, IsSource, IsNumSource, IsComputed, IsInRange, most_values}
use Rattle.interp_code.specs.Draft.{is_dest, is_source, is_number, is_computed, is_in_range}

below : (k n : ℕ) → Decides (nat_lt k n) (k < n)
below k n = (λ h. grind (arith, nat_tests), λ h. grind (arith, nat_tests))

at_most : (k n : ℕ) → Decides (nat_le k n) (k ≤ n)
at_most k n = (λ h. grind (arith, nat_tests), λ h. grind (arith, nat_tests))

always : Decides true (Unit {0})
always = (λ h. tt, λ h. refl)

three : {P Q R : Type 0} → (x y z : Bool) → Decides x P → Decides y Q → Decides z R → Decides (x && (y && z)) (P × Q × R)
three x y z p q r =
    let all = Decides-and x (y && z) p (Decides-and y z q r) in
    (λ h. ((all.0 h).0, (all.0 h).1.0, (all.0 h).1.1), λ h. all.1 (h.0, (h.1, h.2)))

module _ (n : Sizes) where
  dest_decides : (b : BitDest) → Decides (is_dest n b) (IsDest n b)
  dest_decides (dest.B k) = below k n.bits
  dest_decides (dest.Y k) = below k n.outputs

  source_decides : (s : BitSource) → Decides (is_source n s) (IsSource n s)
  source_decides (source.B k) = below k n.bits
  source_decides (source.X k) = below k n.inputs
  source_decides (source.Y k) = below k n.outputs

  number_decides : (w : NumSource) → Decides (is_number n w) (IsNumSource n w)
  number_decides (V v) = below v n.variables
  number_decides (N number) = always

  numbers_decide : (w u : NumSource) → Decides (is_number n w && is_number n u) (IsNumSource n w × IsNumSource n u)
  numbers_decide w u = Decides-and (is_number n w) (is_number n u) (number_decides w) (number_decides u)

  computed_decides : (v : ℕ) (w u : NumSource) → Decides (is_computed n v w u) (IsComputed n v w u)
  computed_decides v w u = three (nat_lt v n.variables) (is_number n w) (is_number n u) (below v n.variables) (number_decides w) (number_decides u)

  -- a variable and a number of one of so many
  indexes_decide : (v k most : ℕ) → Decides (nat_lt v n.variables && nat_lt k most) ((v < n.variables) × (k < most))
  indexes_decide v k most = Decides-and (nat_lt v n.variables) (nat_lt k most) (below v n.variables) (below k most)

  pub range_decides : (op : IntOp) → Decides (is_in_range n op) (IsInRange n op)
  range_decides (Set b) = dest_decides b
  range_decides (Clr b) = dest_decides b
  range_decides (Cpy b s) = Decides-and (is_dest n b) (is_source n s) (dest_decides b) (source_decides s)
  range_decides (Not b s) = Decides-and (is_dest n b) (is_source n s) (dest_decides b) (source_decides s)
  range_decides (Ifs s) = source_decides s
  range_decides (Ifc s) = source_decides s
  range_decides (Iflt w u) = numbers_decide w u
  range_decides (Ifeq w u) = numbers_decide w u
  range_decides (Ifee v a) = indexes_decide v a n.persistent
  range_decides Els = always
  range_decides Fi = always
  range_decides (Lit v number) = below v n.variables
  range_decides (Mov v from) = indexes_decide v from n.variables
  range_decides (Add v w u) = computed_decides v w u
  range_decides (Sub v w u) = computed_decides v w u
  range_decides (Mul v w u) = computed_decides v w u
  range_decides (Div v w u) = computed_decides v w u
  range_decides (Inc v) = below v n.variables
  range_decides (Dec v) = below v n.variables
  range_decides (Adc v k) = indexes_decide v k n.analogs
  range_decides (Pwm w hz) = number_decides w
  range_decides (Rx v b) = Decides-and (nat_lt v n.variables) (is_dest n b) (below v n.variables) (dest_decides b)
  range_decides (Tx w s b) = three (is_number n w) (is_source n s) (is_dest n b) (number_decides w) (source_decides s) (dest_decides b)
  range_decides (Eebusy b) = dest_decides b
  range_decides (Eerd v a) = indexes_decide v a n.persistent
  range_decides (Eewr w a) = Decides-and (is_number n w) (nat_lt a n.persistent) (number_decides w) (below a n.persistent)
  range_decides (Tab v w values) =
      three (nat_lt v n.variables) (is_number n w) (nat_le (length values) most_values) (below v n.variables) (number_decides w)
      (at_most (length values) most_values)

  -- a test that decides the range is this one
  pub same_test : (op : IntOp) (b : Bool) → Decides b (IsInRange n op) → b ≡ is_in_range n op
  same_test op b h = same_from_decides b (is_in_range n op) h (range_decides op)
