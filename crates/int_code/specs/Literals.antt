-- The numbers that stand in operations have 16 bits with a sign, and hertz 32 bits.
use Rattle.std.specs.Prelude.{◌≡◌, ℕ, true, nat_le, List, All}
pub use Rattle.ladder_meaning.specs.Numbers.{is_number, IsNumber}
use Rattle.int_code.specs.declared.op.NumSource.{NumSource}
use Rattle.int_code.specs.declared.op.NumSource.TheVariants.{V, N}
use Rattle.int_code.specs.declared.op.IntOp.{IntOp}
use Rattle.int_code.specs.declared.op.IntOp.TheVariants.{Set, Clr, Cpy, Not, Ifs, Ifc, Iflt, Ifeq, Ifee, Els, Fi, Lit, Mov, Add, Sub, Mul, Div, Inc, Dec, Adc, Pwm, Rx, Tx, Eebusy, Eerd, Eewr, Tab}

-- the largest number of hertz
abbrev pub most_hertz : ℕ
most_hertz = 4294967295

abbrev pub HoldsNumber : NumSource → Type 0
HoldsNumber (V k) = Unit {0}
HoldsNumber (N n) = IsNumber n

abbrev pub HoldsNumbers : IntOp → Type 0
HoldsNumbers (Iflt w u) = HoldsNumber w × HoldsNumber u
HoldsNumbers (Ifeq w u) = HoldsNumber w × HoldsNumber u
HoldsNumbers (Lit v n) = IsNumber n
HoldsNumbers (Add v w u) = HoldsNumber w × HoldsNumber u
HoldsNumbers (Sub v w u) = HoldsNumber w × HoldsNumber u
HoldsNumbers (Mul v w u) = HoldsNumber w × HoldsNumber u
HoldsNumbers (Div v w u) = HoldsNumber w × HoldsNumber u
HoldsNumbers (Pwm w hz) = HoldsNumber w × (nat_le hz most_hertz ≡ true)
HoldsNumbers (Tx w s b) = HoldsNumber w
HoldsNumbers (Eewr w a) = HoldsNumber w
HoldsNumbers (Tab v w values) = HoldsNumber w × All IsNumber values
HoldsNumbers (Set b) = Unit {0}
HoldsNumbers (Clr b) = Unit {0}
HoldsNumbers (Cpy b s) = Unit {0}
HoldsNumbers (Not b s) = Unit {0}
HoldsNumbers (Ifs s) = Unit {0}
HoldsNumbers (Ifc s) = Unit {0}
HoldsNumbers (Ifee v a) = Unit {0}
HoldsNumbers Els = Unit {0}
HoldsNumbers Fi = Unit {0}
HoldsNumbers (Mov v from) = Unit {0}
HoldsNumbers (Inc v) = Unit {0}
HoldsNumbers (Dec v) = Unit {0}
HoldsNumbers (Adc v k) = Unit {0}
HoldsNumbers (Rx v b) = Unit {0}
HoldsNumbers (Eebusy b) = Unit {0}
HoldsNumbers (Eerd v a) = Unit {0}

abbrev pub AllHoldNumbers : List IntOp → Type 0
AllHoldNumbers ops = All HoldsNumbers ops
