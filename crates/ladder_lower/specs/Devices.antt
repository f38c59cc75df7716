-- Which devices a program's operations use, and which a ladder's elements.
use Rattle.std.specs.Prelude.{ℕ, Bool, true, false, List, [], ◌∷◌}
use Rattle.std.specs.List.{list_any, flat_map}
use Rattle.std.specs.Option.{option_to_list}
use Rattle.ladder_tree.specs.Peripherals.{rate_of}
use Rattle.ladder_tree.specs.declared.element.Leaf as leaf
use Rattle.int_code.specs.declared.op.IntOp.{IntOp}
use Rattle.int_code.specs.declared.op.IntOp.TheVariants.{Set, Clr, Cpy, Not, Ifs, Ifc, Iflt, Ifeq, Ifee, Els, Fi, Lit, Mov, Add, Sub, Mul, Div, Inc, Dec, Adc}
use Rattle.int_code.specs.declared.op.IntOp.TheVariants.{Pwm, Rx, Tx, Eebusy, Eerd, Eewr, Tab}

abbrev pub is_serial : IntOp → Bool
is_serial (Rx v b) = true
is_serial (Tx w s b) = true
is_serial (Set b) = false
is_serial (Clr b) = false
is_serial (Cpy b s) = false
is_serial (Not b s) = false
is_serial (Ifs s) = false
is_serial (Ifc s) = false
is_serial (Iflt w u) = false
is_serial (Ifeq w u) = false
is_serial (Ifee v a) = false
is_serial Els = false
is_serial Fi = false
is_serial (Lit v n) = false
is_serial (Mov v from) = false
is_serial (Add v w u) = false
is_serial (Sub v w u) = false
is_serial (Mul v w u) = false
is_serial (Div v w u) = false
is_serial (Inc v) = false
is_serial (Dec v) = false
is_serial (Adc v k) = false
is_serial (Pwm w hz) = false
is_serial (Eebusy b) = false
is_serial (Eerd v a) = false
is_serial (Eewr w a) = false
is_serial (Tab v w values) = false

-- whether an operation uses the serial line
abbrev pub has_serial : List IntOp → Bool
has_serial ops = list_any is_serial ops

abbrev pub hertz_of : IntOp → List ℕ
hertz_of (Pwm w hz) = hz ∷ []
hertz_of (Set b) = []
hertz_of (Clr b) = []
hertz_of (Cpy b s) = []
hertz_of (Not b s) = []
hertz_of (Ifs s) = []
hertz_of (Ifc s) = []
hertz_of (Iflt w u) = []
hertz_of (Ifeq w u) = []
hertz_of (Ifee v a) = []
hertz_of Els = []
hertz_of Fi = []
hertz_of (Lit v n) = []
hertz_of (Mov v from) = []
hertz_of (Add v w u) = []
hertz_of (Sub v w u) = []
hertz_of (Mul v w u) = []
hertz_of (Div v w u) = []
hertz_of (Inc v) = []
hertz_of (Dec v) = []
hertz_of (Adc v k) = []
hertz_of (Rx v b) = []
hertz_of (Tx w s b) = []
hertz_of (Eebusy b) = []
hertz_of (Eerd v a) = []
hertz_of (Eewr w a) = []
hertz_of (Tab v w values) = []

-- the hertz of the operations that set the duty, in order
abbrev pub hertz_in : List IntOp → List ℕ
hertz_in ops = flat_map hertz_of ops

-- the hertz of the SET_PWMs, in order
abbrev pub hertz_wanted : List leaf.Leaf → List ℕ
hertz_wanted ls = flat_map (λ l. option_to_list (rate_of l.kind)) ls
