-- Plain operations that write no bit, in two groups.
use Rattle.std.specs.Prelude.{Bool, true, false}
use Rattle.int_code.specs.declared.op.IntOp.{IntOp}
use Rattle.int_code.specs.declared.op.IntOp.TheVariants.{Set, Clr, Cpy, Not, Ifs, Ifc, Iflt, Ifeq, Ifee, Els, Fi, Lit, Mov, Add, Sub, Mul, Div, Inc, Dec, Adc, Pwm, Rx, Tx, Eebusy, Eerd, Eewr, Tab}

-- it computes a number from numbers
abbrev pub is_computing : IntOp → Bool
is_computing (Lit v n) = true
is_computing (Mov v from) = true
is_computing (Add v w u) = true
is_computing (Sub v w u) = true
is_computing (Mul v w u) = true
is_computing (Div v w u) = true
is_computing (Inc v) = true
is_computing (Dec v) = true
is_computing (Tab v w values) = true
is_computing (Set b) = false
is_computing (Clr b) = false
is_computing (Cpy b s) = false
is_computing (Not b s) = false
is_computing (Ifs s) = false
is_computing (Ifc s) = false
is_computing (Iflt w u) = false
is_computing (Ifeq w u) = false
is_computing (Ifee v a) = false
is_computing Els = false
is_computing Fi = false
is_computing (Adc v k) = false
is_computing (Pwm w hz) = false
is_computing (Rx v b) = false
is_computing (Tx w s b) = false
is_computing (Eebusy b) = false
is_computing (Eerd v a) = false
is_computing (Eewr w a) = false

-- it reads or writes what devices hold
abbrev pub is_of_device : IntOp → Bool
is_of_device (Adc v k) = true
is_of_device (Pwm w hz) = true
is_of_device (Rx v b) = true
is_of_device (Tx w s b) = true
is_of_device (Eebusy b) = true
is_of_device (Eerd v a) = true
is_of_device (Eewr w a) = true
is_of_device (Set b) = false
is_of_device (Clr b) = false
is_of_device (Cpy b s) = false
is_of_device (Not b s) = false
is_of_device (Ifs s) = false
is_of_device (Ifc s) = false
is_of_device (Iflt w u) = false
is_of_device (Ifeq w u) = false
is_of_device (Ifee v a) = false
is_of_device Els = false
is_of_device Fi = false
is_of_device (Lit v n) = false
is_of_device (Mov v from) = false
is_of_device (Add v w u) = false
is_of_device (Sub v w u) = false
is_of_device (Mul v w u) = false
is_of_device (Div v w u) = false
is_of_device (Inc v) = false
is_of_device (Dec v) = false
is_of_device (Tab v w values) = false
