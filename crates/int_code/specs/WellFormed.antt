-- When a program's operations nest, and its numbers are in range.
use Rattle.std.specs.Prelude.{◌≡◌, ℕ, ◌<◌, ◌≤◌, Bool, true, false, not, ◌&&◌, List, [], ◌∷◌, length, All}
use Rattle.int_code.specs.Shapes.{shape_of}
use Rattle.ladder_tree.specs.declared.limits.TheConstants.{TABLE_VALUES}
use Rattle.int_code.specs.declared.op.BitDest.{BitDest}
use Rattle.int_code.specs.declared.op.BitDest.TheVariants as dest
use Rattle.int_code.specs.declared.op.BitSource.{BitSource}
use Rattle.int_code.specs.declared.op.BitSource.TheVariants as source
use Rattle.int_code.specs.declared.op.NumSource.{NumSource}
use Rattle.int_code.specs.declared.op.NumSource.TheVariants.{V, N}
use Rattle.int_code.specs.declared.op.IntOp.{IntOp}
use Rattle.int_code.specs.declared.op.IntOp.TheVariants.{Set, Clr, Cpy, Not, Ifs, Ifc, Iflt, Ifeq, Ifee, Els, Fi, Lit, Mov, Add, Sub, Mul, Div, Inc, Dec, Adc, Pwm, Rx, Tx, Eebusy, Eerd, Eewr, Tab}
use Rattle.int_code.specs.declared.op.IntProgram.{IntProgram}
use Rattle.int_code.specs.declared.op.Shape.{Shape}
use Rattle.int_code.specs.declared.op.Shape.TheVariants.{Opens, Turns, Closes, Plain}

-- whether the operations behind one of a shape nest, given what they do with the open ifs
abbrev pub nests_by : Shape → (List Bool → Bool) → List Bool → Bool
nests_by Opens rest es = rest (false ∷ es)
nests_by Turns rest [] = false
nests_by Turns rest (e ∷ es) = not e && rest (true ∷ es)
nests_by Closes rest [] = false
nests_by Closes rest (e ∷ es) = rest es
nests_by Plain rest es = rest es

-- Ifs nest and close, and each has at most one els. For each open if, the innermost first, whether it had its els.
abbrev pub nests : List IntOp → List Bool → Bool
nests [] [] = true
nests [] (e ∷ es) = false
nests (op ∷ ops) es = nests_by (shape_of op) (nests ops) es

-- the sizes that numbers are below
pub record Sizes : Type 0 where
  pub bits : ℕ
  pub outputs : ℕ
  pub inputs : ℕ
  pub analogs : ℕ
  pub variables : ℕ
  pub persistent : ℕ

-- how many values a table may have
abbrev pub most_values : ℕ
most_values = TABLE_VALUES

abbrev pub IsDest : Sizes → BitDest → Type 0
IsDest n (dest.B k) = k < n.bits
IsDest n (dest.Y k) = k < n.outputs

abbrev pub IsSource : Sizes → BitSource → Type 0
IsSource n (source.B k) = k < n.bits
IsSource n (source.Y k) = k < n.outputs
IsSource n (source.X k) = k < n.inputs

abbrev pub IsNumSource : Sizes → NumSource → Type 0
IsNumSource n (V k) = k < n.variables
IsNumSource n (N number) = Unit {0}

abbrev pub IsComputed : Sizes → ℕ → NumSource → NumSource → Type 0
IsComputed n v w u = (v < n.variables) × IsNumSource n w × IsNumSource n u

abbrev pub IsInRange : Sizes → IntOp → Type 0
IsInRange n (Set b) = IsDest n b
IsInRange n (Clr b) = IsDest n b
IsInRange n (Cpy b s) = IsDest n b × IsSource n s
IsInRange n (Not b s) = IsDest n b × IsSource n s
IsInRange n (Ifs s) = IsSource n s
IsInRange n (Ifc s) = IsSource n s
IsInRange n (Iflt w u) = IsNumSource n w × IsNumSource n u
IsInRange n (Ifeq w u) = IsNumSource n w × IsNumSource n u
IsInRange n (Ifee v a) = (v < n.variables) × (a < n.persistent)
IsInRange n Els = Unit {0}
IsInRange n Fi = Unit {0}
IsInRange n (Lit v number) = v < n.variables
IsInRange n (Mov v from) = (v < n.variables) × (from < n.variables)
IsInRange n (Add v w u) = IsComputed n v w u
IsInRange n (Sub v w u) = IsComputed n v w u
IsInRange n (Mul v w u) = IsComputed n v w u
IsInRange n (Div v w u) = IsComputed n v w u
IsInRange n (Inc v) = v < n.variables
IsInRange n (Dec v) = v < n.variables
IsInRange n (Adc v k) = (v < n.variables) × (k < n.analogs)
IsInRange n (Pwm w hz) = IsNumSource n w
IsInRange n (Rx v b) = (v < n.variables) × IsDest n b
IsInRange n (Tx w s b) = IsNumSource n w × IsSource n s × IsDest n b
IsInRange n (Eebusy b) = IsDest n b
IsInRange n (Eerd v a) = (v < n.variables) × (a < n.persistent)
IsInRange n (Eewr w a) = IsNumSource n w × (a < n.persistent)
IsInRange n (Tab v w values) = (v < n.variables) × IsNumSource n w × (length values ≤ TABLE_VALUES)

abbrev pub sizes_of : IntProgram → Sizes
sizes_of p = record { bits = p.bits; outputs = p.outputs; inputs = p.inputs; analogs = p.analogs; variables = p.variables; persistent = p.persistent }

pub record IsWellFormed (p : IntProgram) : Type 0 where
  pub nests : nests p.ops [] ≡ true
  pub range : All (IsInRange (sizes_of p)) p.ops
  pub kept : p.kept_bits ≤ p.bits
  pub starts : length p.starts ≡ p.variables
