-- Numbers in range of smaller sizes are in range of larger ones.
use Rattle.std.proofs.Common.{◌≤◌, ◌<◌, List, ℕ, All, arith}
use Rattle.int_code.specs.WellFormed.{Sizes, IsDest, IsSource, IsNumSource, IsComputed, IsInRange}
use Rattle.int_code.specs.declared.op.BitDest.{BitDest}
use Rattle.int_code.specs.declared.op.BitDest.TheVariants as dest
use Rattle.int_code.specs.declared.op.BitSource.{BitSource}
use Rattle.int_code.specs.declared.op.BitSource.TheVariants as source
use Rattle.int_code.specs.declared.op.NumSource.{NumSource}
use Rattle.int_code.specs.declared.op.NumSource.TheVariants.{V, N}
use Rattle.int_code.specs.declared.op.IntOp.{IntOp}
use Rattle.int_code.specs.declared.op.IntOp.TheVariants.{Set, Clr, Cpy, Not, Ifs, Ifc, Iflt, Ifeq, Ifee, Els, Fi, Lit, Mov, Add, Sub, Mul, Div, Inc, Dec, Adc, Pwm, Rx, Tx, Eebusy, Eerd, Eewr, Tab}

-- each size of a is at most that of b
pub record IsWithin (a b : Sizes) : Type 0 where
  pub bits : a.bits ≤ b.bits
  pub outputs : a.outputs ≤ b.outputs
  pub inputs : a.inputs ≤ b.inputs
  pub analogs : a.analogs ≤ b.analogs
  pub variables : a.variables ≤ b.variables
  pub persistent : a.persistent ≤ b.persistent

module _ (a b : Sizes) (w : IsWithin a b) where
  dest_within : (d : BitDest) → IsDest a d → IsDest b d
  dest_within (dest.B k) h = omega (arith, w.bits, h)
  dest_within (dest.Y k) h = omega (arith, w.outputs, h)

  source_within : (s : BitSource) → IsSource a s → IsSource b s
  source_within (source.B k) h = omega (arith, w.bits, h)
  source_within (source.X k) h = omega (arith, w.inputs, h)
  source_within (source.Y k) h = omega (arith, w.outputs, h)

  variable_within : (v : ℕ) → v < a.variables → v < b.variables
  variable_within v h = omega (arith, w.variables, h)

  persistent_within : (k : ℕ) → k < a.persistent → k < b.persistent
  persistent_within k h = omega (arith, w.persistent, h)

  number_within : (n : NumSource) → IsNumSource a n → IsNumSource b n
  number_within (V k) h = variable_within k h
  number_within (N n) h = tt

  computed_within : (v : ℕ) (w u : NumSource) → IsComputed a v w u → IsComputed b v w u
  computed_within v w u h = (variable_within v h.0, number_within w h.1, number_within u h.2)

  pub range_within : (op : IntOp) → IsInRange a op → IsInRange b op
  range_within (Set d) h = dest_within d h
  range_within (Clr d) h = dest_within d h
  range_within (Cpy d s) h = (dest_within d h.0, source_within s h.1)
  range_within (Not d s) h = (dest_within d h.0, source_within s h.1)
  range_within (Ifs s) h = source_within s h
  range_within (Ifc s) h = source_within s h
  range_within (Iflt x y) h = (number_within x h.0, number_within y h.1)
  range_within (Ifeq x y) h = (number_within x h.0, number_within y h.1)
  range_within (Ifee v k) h = (variable_within v h.0, persistent_within k h.1)
  range_within Els h = tt
  range_within Fi h = tt
  range_within (Lit v n) h = variable_within v h
  range_within (Mov v from) h = (variable_within v h.0, variable_within from h.1)
  range_within (Add v x y) h = computed_within v x y h
  range_within (Sub v x y) h = computed_within v x y h
  range_within (Mul v x y) h = computed_within v x y h
  range_within (Div v x y) h = computed_within v x y h
  range_within (Inc v) h = variable_within v h
  range_within (Dec v) h = variable_within v h
  range_within (Adc v k) h = (variable_within v h.0, omega (arith, w.analogs, h.1))
  range_within (Pwm x hz) h = number_within x h
  range_within (Rx v d) h = (variable_within v h.0, dest_within d h.1)
  range_within (Tx x s d) h = (number_within x h.0, source_within s h.1, dest_within d h.2)
  range_within (Eebusy d) h = dest_within d h
  range_within (Eerd v k) h = (variable_within v h.0, persistent_within k h.1)
  range_within (Eewr x k) h = (number_within x h.0, persistent_within k h.1)
  range_within (Tab v x values) h = (variable_within v h.0, number_within x h.1, h.2)

  pub all_within : (ops : List IntOp) → All (IsInRange a) ops → All (IsInRange b) ops
  all_within ops h k d lt = range_within _ (h k d lt)
