-- The lines of operations, as they stand in the interpretable text.
use Rattle.std.specs.Prelude.{ℕ, ◌==◌, List, [], ◌∷◌, ◌++◌, ℤ, length, codes, if◌then◌else◌}
use Rattle.std.specs.Fmt.{decimal, signed_decimal}
use Rattle.int_code.specs.declared.op.BitDest.{BitDest}
use Rattle.int_code.specs.declared.op.BitDest.TheVariants as dest
use Rattle.int_code.specs.declared.op.BitSource.{BitSource}
use Rattle.int_code.specs.declared.op.BitSource.TheVariants as source
use Rattle.int_code.specs.declared.op.NumSource.{NumSource}
use Rattle.int_code.specs.declared.op.NumSource.TheVariants.{V, N}
use Rattle.int_code.specs.declared.op.IntOp.{IntOp}
use Rattle.int_code.specs.declared.op.IntOp.TheVariants.{Set, Clr, Cpy, Not, Ifs, Ifc, Iflt, Ifeq, Ifee, Els, Fi, Lit, Mov, Add, Sub, Mul, Div, Inc, Dec, Adc, Pwm, Rx, Tx, Eebusy, Eerd, Eewr, Tab}

abbrev pub dest_text : BitDest → List ℕ
dest_text (dest.B k) = codes "b" ++ decimal k
dest_text (dest.Y k) = codes "y" ++ decimal k

abbrev pub source_text : BitSource → List ℕ
source_text (source.B k) = codes "b" ++ decimal k
source_text (source.X k) = codes "x" ++ decimal k
source_text (source.Y k) = codes "y" ++ decimal k

abbrev pub variable_text : ℕ → List ℕ
variable_text k = codes "v" ++ decimal k

abbrev pub number_text : NumSource → List ℕ
number_text (V k) = variable_text k
number_text (N n) = signed_decimal n

-- two and three words behind a first
abbrev pub two : List ℕ → List ℕ → List ℕ → List ℕ
two word a b = word ++ (a ++ (codes " " ++ b))

abbrev pub three : List ℕ → List ℕ → List ℕ → List ℕ → List ℕ
three word a b c = word ++ (a ++ (codes " " ++ (b ++ (codes " " ++ c))))

abbrev pub values_text : List ℤ → List ℕ
values_text [] = []
values_text (n ∷ ns) = codes " " ++ (signed_decimal n ++ values_text ns)

-- an operation without its line feed
abbrev pub op_words : IntOp → List ℕ
op_words (Set b) = codes "set " ++ dest_text b
op_words (Clr b) = codes "clr " ++ dest_text b
op_words (Cpy b s) = two (codes "cpy ") (dest_text b) (source_text s)
op_words (Not b s) = two (codes "not ") (dest_text b) (source_text s)
op_words (Ifs s) = codes "ifs " ++ source_text s
op_words (Ifc s) = codes "ifc " ++ source_text s
op_words (Iflt w u) = two (codes "iflt ") (number_text w) (number_text u)
op_words (Ifeq w u) = two (codes "ifeq ") (number_text w) (number_text u)
op_words (Ifee v a) = two (codes "ifee ") (variable_text v) (decimal a)
op_words Els = codes "els"
op_words Fi = codes "fi"
op_words (Lit v n) = two (codes "lit ") (variable_text v) (signed_decimal n)
op_words (Mov v from) = two (codes "mov ") (variable_text v) (variable_text from)
op_words (Add v w u) = three (codes "add ") (variable_text v) (number_text w) (number_text u)
op_words (Sub v w u) = three (codes "sub ") (variable_text v) (number_text w) (number_text u)
op_words (Mul v w u) = three (codes "mul ") (variable_text v) (number_text w) (number_text u)
op_words (Div v w u) = three (codes "div ") (variable_text v) (number_text w) (number_text u)
op_words (Inc v) = codes "inc " ++ variable_text v
op_words (Dec v) = codes "dec " ++ variable_text v
op_words (Adc v k) = two (codes "adc ") (variable_text v) (decimal k)
op_words (Pwm w hz) = two (codes "pwm ") (number_text w) (decimal hz)
op_words (Rx v b) = two (codes "rx ") (variable_text v) (dest_text b)
op_words (Tx w s b) = three (codes "tx ") (number_text w) (source_text s) (dest_text b)
op_words (Eebusy b) = codes "eebusy " ++ dest_text b
op_words (Eerd v a) = two (codes "eerd ") (variable_text v) (decimal a)
op_words (Eewr w a) = two (codes "eewr ") (number_text w) (decimal a)
op_words (Tab v w values) = three (codes "tab ") (variable_text v) (number_text w) (decimal (length values)) ++ values_text values

abbrev pub op_text : IntOp → List ℕ
op_text op = op_words op ++ codes "\n"

-- the bytes in front of the first space
abbrev pub first_word : List ℕ → List ℕ
first_word [] = []
first_word (c ∷ cs) = if c == 32 then [] else c ∷ first_word cs
