-- What operations are among ifs.
use Rattle.int_code.specs.declared.op.IntOp.{IntOp}
use Rattle.int_code.specs.declared.op.IntOp.TheVariants.{Set, Clr, Cpy, Not, Ifs, Ifc, Iflt, Ifeq, Ifee, Els, Fi, Lit, Mov, Add, Sub, Mul, Div, Inc, Dec, Adc, Pwm, Rx, Tx, Eebusy, Eerd, Eewr, Tab}
use Rattle.int_code.specs.declared.op.Shape.{Shape}
use Rattle.int_code.specs.declared.op.Shape.TheVariants.{Opens, Turns, Closes, Plain}

abbrev pub shape_of : IntOp → Shape
shape_of (Ifs s) = Opens
shape_of (Ifc s) = Opens
shape_of (Iflt w u) = Opens
shape_of (Ifeq w u) = Opens
shape_of (Ifee v a) = Opens
shape_of Els = Turns
shape_of Fi = Closes
shape_of (Set b) = Plain
shape_of (Clr b) = Plain
shape_of (Cpy b s) = Plain
shape_of (Not b s) = Plain
shape_of (Lit v n) = Plain
shape_of (Mov v from) = Plain
shape_of (Add v w u) = Plain
shape_of (Sub v w u) = Plain
shape_of (Mul v w u) = Plain
shape_of (Div v w u) = Plain
shape_of (Inc v) = Plain
shape_of (Dec v) = Plain
shape_of (Adc v k) = Plain
shape_of (Pwm w hz) = Plain
shape_of (Rx v b) = Plain
shape_of (Tx w s b) = Plain
shape_of (Eebusy b) = Plain
shape_of (Eerd v a) = Plain
shape_of (Eewr w a) = Plain
shape_of (Tab v w values) = Plain
