-- The operations of a program by the public list of what each may be lowered to.
use Rattle.std.specs.Prelude.{ℕ, zero, suc, List, [], ◌∷◌, ◌++◌, ℤ, pos, if◌then◌else◌, map, count_by}
use Rattle.std.specs.Ordering.{int_eq}
use Rattle.int_code.specs.Kinds as op
use Rattle.int_code.specs.Kinds.{Kind, kinds}
use Rattle.int_code.specs.declared.op.IntOp.{IntOp}
use Rattle.int_code.specs.declared.op.IntProgram.{IntProgram}
use Rattle.byte_code.specs.Lowered as list
use Rattle.byte_code.specs.Lowered.{Operation, Routine}
use Rattle.byte_lower.specs.Lists.{calls_product, calls_quotient}
use Rattle.byte_lower.specs.declared.layout.Layout.{Layout}

-- the list names operations as their kinds do
abbrev pub operation_of : Kind → Operation
operation_of (op.Guarded from to) = list.Guarded from to
operation_of (op.Set to) = list.Set to
operation_of (op.Clr to) = list.Clr to
operation_of (op.Cpy to from) = list.Cpy to from
operation_of (op.Not to from) = list.Not to from
operation_of (op.Ifs from) = list.Ifs from
operation_of (op.Ifc from) = list.Ifc from
operation_of op.Iflt = list.Iflt
operation_of op.Ifeq = list.Ifeq
operation_of op.Ifee = list.Ifee
operation_of op.Els = list.Els
operation_of op.Fi = list.Fi
operation_of op.Lit = list.Lit
operation_of op.Mov = list.Mov
operation_of op.Add = list.Add
operation_of op.Sub = list.Sub
operation_of op.Mul = list.Mul
operation_of op.Div = list.Div
operation_of op.Inc = list.Inc
operation_of op.Dec = list.Dec
operation_of op.Adc = list.Adc
operation_of op.Pwm = list.Pwm
operation_of (op.Rx to) = list.Rx to
operation_of (op.Tx from to) = list.Tx from to
operation_of (op.Eebusy to) = list.Eebusy to
operation_of op.Eerd = list.Eerd
operation_of op.Eewr = list.Eewr
operation_of (op.Tab values) = list.Tab values

-- of a program's operations; the bits behind the kept ones are wires
abbrev pub operations : Layout → IntProgram → List Operation
operations o p = map operation_of (kinds o.plan.sizes.kept_bits p.ops)

-- how many variables do not start at 0
abbrev pub starts_in : List ℤ → ℕ
starts_in [] = 0
starts_in (n ∷ ns) = if int_eq n (pos 0) then starts_in ns else suc (starts_in ns)

-- a routine that is called stands once
abbrev pub routine_if : ℕ → Routine → List Routine
routine_if zero r = []
routine_if (suc calls) r = r ∷ []

-- the routines that operations call
abbrev pub routines_in : List IntOp → List Routine
routines_in ops = routine_if (count_by calls_product ops) list.Multiply ++ routine_if (count_by calls_quotient ops) list.Divide
