-- The kinds of operations, as far as a target's code for them differs in length.
use Rattle.std.specs.Prelude.{ℕ, ◌≤◌, Bool, false, List, [], ◌∷◌, length, nat_le}
use Rattle.std.specs.List.{sum_by}
use Rattle.int_code.specs.declared.op.BitDest.{BitDest}
use Rattle.int_code.specs.declared.op.BitDest.TheVariants as dest
use Rattle.int_code.specs.declared.op.BitSource.{BitSource}
use Rattle.int_code.specs.declared.op.BitSource.TheVariants as source
use Rattle.int_code.specs.declared.op.IntOp.{IntOp}
use Rattle.int_code.specs.declared.op.IntOp.TheVariants as op

-- An operation by its name, and for each of its bits whether that is a wire: `from` is read, and `to` written. A table has its
-- length. An if on a bit whose block is one set or clr is a kind of its own, with its block and its end.
pub data Kind : Type 0 where
  Guarded : (from to : Bool) → Kind
  Set : (to : Bool) → Kind
  Clr : (to : Bool) → Kind
  Cpy : (to from : Bool) → Kind
  Not : (to from : Bool) → Kind
  Ifs : (from : Bool) → Kind
  Ifc : (from : Bool) → Kind
  Iflt : Kind
  Ifeq : Kind
  Ifee : Kind
  Els : Kind
  Fi : Kind
  Lit : Kind
  Mov : Kind
  Add : Kind
  Sub : Kind
  Mul : Kind
  Div : Kind
  Inc : Kind
  Dec : Kind
  Adc : Kind
  Pwm : Kind
  Rx : (to : Bool) → Kind
  Tx : (from to : Bool) → Kind
  Eebusy : (to : Bool) → Kind
  Eerd : Kind
  Eewr : Kind
  Tab : (values : ℕ) → Kind

-- wires are the bits behind the kept ones
abbrev pub is_wire : ℕ → BitDest → Bool
is_wire kept (dest.B k) = nat_le kept k
is_wire kept (dest.Y k) = false

abbrev pub reads_wire : ℕ → BitSource → Bool
reads_wire kept (source.B k) = nat_le kept k
reads_wire kept (source.X k) = false
reads_wire kept (source.Y k) = false

abbrev pub kind_of : ℕ → IntOp → Kind
kind_of kept (op.Set b) = Set (is_wire kept b)
kind_of kept (op.Clr b) = Clr (is_wire kept b)
kind_of kept (op.Cpy b s) = Cpy (is_wire kept b) (reads_wire kept s)
kind_of kept (op.Not b s) = Not (is_wire kept b) (reads_wire kept s)
kind_of kept (op.Ifs s) = Ifs (reads_wire kept s)
kind_of kept (op.Ifc s) = Ifc (reads_wire kept s)
kind_of kept (op.Iflt w u) = Iflt
kind_of kept (op.Ifeq w u) = Ifeq
kind_of kept (op.Ifee v a) = Ifee
kind_of kept op.Els = Els
kind_of kept op.Fi = Fi
kind_of kept (op.Lit v n) = Lit
kind_of kept (op.Mov v from) = Mov
kind_of kept (op.Add v w u) = Add
kind_of kept (op.Sub v w u) = Sub
kind_of kept (op.Mul v w u) = Mul
kind_of kept (op.Div v w u) = Div
kind_of kept (op.Inc v) = Inc
kind_of kept (op.Dec v) = Dec
kind_of kept (op.Adc v k) = Adc
kind_of kept (op.Pwm w hz) = Pwm
kind_of kept (op.Rx v b) = Rx (is_wire kept b)
kind_of kept (op.Tx w s b) = Tx (reads_wire kept s) (is_wire kept b)
kind_of kept (op.Eebusy b) = Eebusy (is_wire kept b)
kind_of kept (op.Eerd v a) = Eerd
kind_of kept (op.Eewr w a) = Eewr
kind_of kept (op.Tab v w values) = Tab (length values)

-- the kinds of operations in order, where the bits from `kept` on are wires
abbrev pub kinds : ℕ → List IntOp → List Kind
kinds kept [] = []
kinds kept (op.Ifs s ∷ op.Set b ∷ op.Fi ∷ ops) = Guarded (reads_wire kept s) (is_wire kept b) ∷ kinds kept ops
kinds kept (op.Ifs s ∷ op.Clr b ∷ op.Fi ∷ ops) = Guarded (reads_wire kept s) (is_wire kept b) ∷ kinds kept ops
kinds kept (op.Ifc s ∷ op.Set b ∷ op.Fi ∷ ops) = Guarded (reads_wire kept s) (is_wire kept b) ∷ kinds kept ops
kinds kept (op.Ifc s ∷ op.Clr b ∷ op.Fi ∷ ops) = Guarded (reads_wire kept s) (is_wire kept b) ∷ kinds kept ops
kinds kept (x ∷ ops) = kind_of kept x ∷ kinds kept ops

-- how many operations of a program are one of the kind
abbrev pub ops_of : Kind → ℕ
ops_of (Guarded from to) = 3
ops_of (Set to) = 1
ops_of (Clr to) = 1
ops_of (Cpy to from) = 1
ops_of (Not to from) = 1
ops_of (Ifs from) = 1
ops_of (Ifc from) = 1
ops_of Iflt = 1
ops_of Ifeq = 1
ops_of Ifee = 1
ops_of Els = 1
ops_of Fi = 1
ops_of Lit = 1
ops_of Mov = 1
ops_of Add = 1
ops_of Sub = 1
ops_of Mul = 1
ops_of Div = 1
ops_of Inc = 1
ops_of Dec = 1
ops_of Adc = 1
ops_of Pwm = 1
ops_of (Rx to) = 1
ops_of (Tx from to) = 1
ops_of (Eebusy to) = 1
ops_of Eerd = 1
ops_of Eewr = 1
ops_of (Tab values) = 1

-- No kind is there more often than in the list: whatever each costs, the sum is no more than the list's.
abbrev pub IsWithin : List Kind → List Kind → Type 0
IsWithin have may = (cost : Kind → ℕ) → sum_by cost have ≤ sum_by cost may
