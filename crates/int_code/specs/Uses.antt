-- Which devices operations use.
use Rattle.std.specs.Prelude.{Bool, true, false, List}
use Rattle.std.specs.List.{list_any}
use Rattle.int_code.specs.declared.op.IntOp.{IntOp}
use Rattle.int_code.specs.declared.op.IntOp.TheVariants.{Set, Clr, Cpy, Not, Ifs, Ifc, Iflt, Ifeq, Ifee, Els, Fi, Lit, Mov, Add, Sub, Mul, Div, Inc, Dec, Adc, Pwm, Rx, Tx, Eebusy, Eerd, Eewr, Tab}

abbrev pub is_pwm : IntOp → Bool
is_pwm (Pwm w hz) = true
is_pwm (Set b) = false
is_pwm (Clr b) = false
is_pwm (Cpy b s) = false
is_pwm (Not b s) = false
is_pwm (Ifs s) = false
is_pwm (Ifc s) = false
is_pwm (Iflt w u) = false
is_pwm (Ifeq w u) = false
is_pwm (Ifee v a) = false
is_pwm Els = false
is_pwm Fi = false
is_pwm (Lit v n) = false
is_pwm (Mov v from) = false
is_pwm (Add v w u) = false
is_pwm (Sub v w u) = false
is_pwm (Mul v w u) = false
is_pwm (Div v w u) = false
is_pwm (Inc v) = false
is_pwm (Dec v) = false
is_pwm (Adc v k) = false
is_pwm (Rx v b) = false
is_pwm (Tx w s b) = false
is_pwm (Eebusy b) = false
is_pwm (Eerd v a) = false
is_pwm (Eewr w a) = false
is_pwm (Tab v w values) = false

-- whether an operation sets the duty
abbrev pub has_pwm : List IntOp → Bool
has_pwm ops = list_any is_pwm ops
