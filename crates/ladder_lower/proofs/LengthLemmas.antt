-- How long the lines of operations are.
use Rattle.std.proofs.Common.{◌≡◌, ℕ, suc, ◌+◌, ◌*◌, ◌<◌, ◌≤◌, ℤ, pos, negsuc, Bool, true, false, ◌&&◌, int_le, nat_le, List, [], ◌∷◌, ◌++◌, length, map, arith}
use Rattle.std.proofs.lemmas.Bool.{and_parts}
use Rattle.std.proofs.Common.{codes, decimal, refl, All, length-append, lit<}
use Rattle.std.proofs.lemmas.Bool.Decides.{nat_tests}
use Rattle.std.proofs.lemmas.Fmt.{length-decimal-le}
use Rattle.std.proofs.lemmas.Int.{ints}
use Rattle.std.proofs.lemmas.List.Elements.{All-head, All-tail}
use Rattle.std.specs.Fmt.{signed_decimal}
use Rattle.texts.specs.Lines.{joined}
use Rattle.int_code.specs.Text.{dest_text, source_text, variable_text, number_text, values_text, two, three, op_words}
use Rattle.int_code.specs.WellFormed.{Sizes, IsDest, IsSource, IsNumSource, IsInRange}
use Rattle.int_code.specs.declared.op.BitDest.{BitDest}
use Rattle.int_code.specs.declared.op.BitDest.TheVariants as dest
use Rattle.int_code.specs.declared.op.BitSource.{BitSource}
use Rattle.int_code.specs.declared.op.BitSource.TheVariants as source
use Rattle.int_code.specs.declared.op.IntOp.{IntOp}
use Rattle.int_code.specs.declared.op.IntOp.TheVariants.{Set, Clr, Cpy, Not, Ifs, Ifc, Iflt, Ifeq, Ifee, Els, Fi, Lit, Mov, Add, Sub, Mul, Div, Inc, Dec, Adc}
use Rattle.int_code.specs.declared.op.IntOp.TheVariants.{Pwm, Rx, Tx, Eebusy, Eerd, Eewr, Tab}
use Rattle.int_code.specs.declared.op.NumSource.{NumSource}
use Rattle.int_code.specs.declared.op.NumSource.TheVariants.{V, N}
use Rattle.int_code.specs.Literals.{most_hertz, IsNumber, HoldsNumber, HoldsNumbers, AllHoldNumbers}
use Rattle.ladder_lower.specs.Outcome.{tabs_in}

-- numbers of at most six digits
pub record AreShort (n : Sizes) : Type 0 where
  pub bits : n.bits ≤ 100000
  pub outputs : n.outputs ≤ 100000
  pub inputs : n.inputs ≤ 100000
  pub analogs : n.analogs ≤ 100000
  pub variables : n.variables ≤ 100000
  pub persistent : n.persistent ≤ 100000

six_digits : (k : ℕ) → k < 100000 → length (decimal k) ≤ 6
six_digits k lt = length-decimal-le 6 k (lit< tt) (omega arith) (omega arith)

within : (k most : ℕ) → nat_le k most ≡ true → k ≤ most
within k most h = grind (arith, nat_tests)

below_by : (k : ℕ) → int_le (negsuc 32767) (negsuc k) ≡ true → k ≤ 32767
below_by k h = grind (arith, ints, nat_tests)

below : (k : ℕ) → IsNumber (negsuc k) → k ≤ 32767
below k h = below_by k (and_parts (int_le (negsuc 32767) (negsuc k)) _ h).0

pub signed_short : (n : ℤ) → IsNumber n → length (signed_decimal n) ≤ 7
signed_short (pos k) h = let le = within k 32767 h in let d = six_digits k (omega (arith, le)) in omega (arith, d)
signed_short (negsuc k) h = let le = below k h in let d = six_digits (suc k) (omega (arith, le)) in omega (arith, d)

two_short : (word a b : List ℕ) (i j : ℕ) → length a ≤ i → length b ≤ j → length (two word a b) ≤ length word + (i + (1 + j))
two_short word a b i j f g = omega (arith, f, g, length-append word (a ++ (codes " " ++ b)), length-append a (codes " " ++ b))

three_short : (word a b c : List ℕ) (i j k : ℕ) → length a ≤ i → length b ≤ j → length c ≤ k
    → length (three word a b c) ≤ length word + (i + (1 + (j + (1 + k))))
three_short word a b c i j k f g h =
    omega (
      arith,
      f,
      g,
      h,
      length-append word (a ++ (codes " " ++ (b ++ (codes " " ++ c)))),
      length-append a (codes " " ++ (b ++ (codes " " ++ c))),
      length-append b (codes " " ++ c),
    )

module _ (n : Sizes) (s : AreShort n) where
  dest_short : (b : BitDest) → IsDest n b → length (dest_text b) ≤ 7
  dest_short (dest.B k) h = let b = s.bits in let d = six_digits k (omega arith) in omega arith
  dest_short (dest.Y k) h = let b = s.outputs in let d = six_digits k (omega arith) in omega arith

  source_short : (b : BitSource) → IsSource n b → length (source_text b) ≤ 7
  source_short (source.B k) h = let b = s.bits in let d = six_digits k (omega arith) in omega arith
  source_short (source.X k) h = let b = s.inputs in let d = six_digits k (omega arith) in omega arith
  source_short (source.Y k) h = let b = s.outputs in let d = six_digits k (omega arith) in omega arith

  variable_short : (k : ℕ) → k < n.variables → length (variable_text k) ≤ 7
  variable_short k h = let b = s.variables in let d = six_digits k (omega arith) in omega arith

  number_short : (w : NumSource) → IsNumSource n w → HoldsNumber w → length (number_text w) ≤ 7
  number_short (V k) h f = variable_short k h
  number_short (N z) h f = signed_short z f

  place_short : (k most : ℕ) → k < most → most ≤ 100000 → length (decimal k) ≤ 6
  place_short k most lt le = six_digits k (omega arith)

  values_short : (values : List ℤ) → All IsNumber values → length (values_text values) ≤ 8 * length values
  values_short [] h = omega arith
  values_short (z ∷ zs) h =
      let one = signed_short z (All-head IsNumber z zs h) in
      let more = values_short zs (All-tail IsNumber z zs h) in
      omega (arith, one, more, length-append (signed_decimal z) (values_text zs))

  computed_short : (word : List ℕ) (v : ℕ) (w u : NumSource) → length word ≤ 4 → (v < n.variables) × IsNumSource n w × IsNumSource n u
      → HoldsNumber w × HoldsNumber u → length (three word (variable_text v) (number_text w) (number_text u)) ≤ 40
  computed_short word v w u le h f =
      let t = three_short word (variable_text v) (number_text w) (number_text u) 7 7 7 (variable_short v h.0) (number_short w h.1 f.0)
      (number_short u h.2 f.1) in omega (arith, t, le)

  numbers_short : (word : List ℕ) (w u : NumSource) → length word ≤ 5 → IsNumSource n w × IsNumSource n u → HoldsNumber w × HoldsNumber u
      → length (two word (number_text w) (number_text u)) ≤ 40
  numbers_short word w u le h f =
      let t = two_short word (number_text w) (number_text u) 7 7 (number_short w h.0 f.0) (number_short u h.1 f.1) in omega (arith, t, le)

  table_short : (v : ℕ) (w : NumSource) (values : List ℤ) → IsInRange n (Tab v w values) → HoldsNumbers (Tab v w values)
      → length (op_words (Tab v w values)) ≤ 520
  table_short v w values h f =
      let c = six_digits (length values) (omega (arith, h.2)) in
      let t = three_short (codes "tab ") (variable_text v) (number_text w) (decimal (length values)) 7 7 6 (variable_short v h.0) (number_short w h.1 f.0) c in
      let d = values_short values f.1 in
      omega (arith, t, d, h.2, length-append (three (codes "tab ") (variable_text v) (number_text w) (decimal (length values))) (values_text values))

  op_short : (op : IntOp) → IsInRange n op → HoldsNumbers op → length (op_words op) ≤ 40 + 480 * tabs_in (op ∷ [])
  op_short (Set b) h f = let d = dest_short b h in omega (arith, d)
  op_short (Clr b) h f = let d = dest_short b h in omega (arith, d)
  op_short (Cpy b x) h f = let t = two_short (codes "cpy ") (dest_text b) (source_text x) 7 7 (dest_short b h.0) (source_short x h.1) in omega (arith, t)
  op_short (Not b x) h f = let t = two_short (codes "not ") (dest_text b) (source_text x) 7 7 (dest_short b h.0) (source_short x h.1) in omega (arith, t)
  op_short (Ifs x) h f = let d = source_short x h in omega (arith, d)
  op_short (Ifc x) h f = let d = source_short x h in omega (arith, d)
  op_short (Iflt w u) h f = let t = numbers_short (codes "iflt ") w u (omega arith) h f in omega (arith, t)
  op_short (Ifeq w u) h f = let t = numbers_short (codes "ifeq ") w u (omega arith) h f in omega (arith, t)
  op_short (Ifee v a) h f =
      let t = two_short (codes "ifee ") (variable_text v) (decimal a) 7 6 (variable_short v h.0) (place_short a n.persistent h.1 s.persistent) in
      omega (arith, t)
  op_short Els h f = omega arith
  op_short Fi h f = omega arith
  op_short (Lit v z) h f = let t = two_short (codes "lit ") (variable_text v) (signed_decimal z) 7 7 (variable_short v h) (signed_short z f) in omega (arith, t)
  op_short (Mov v from) h f =
      let t = two_short (codes "mov ") (variable_text v) (variable_text from) 7 7 (variable_short v h.0) (variable_short from h.1) in omega (arith, t)
  op_short (Add v w u) h f = let t = computed_short (codes "add ") v w u (omega arith) h f in omega (arith, t)
  op_short (Sub v w u) h f = let t = computed_short (codes "sub ") v w u (omega arith) h f in omega (arith, t)
  op_short (Mul v w u) h f = let t = computed_short (codes "mul ") v w u (omega arith) h f in omega (arith, t)
  op_short (Div v w u) h f = let t = computed_short (codes "div ") v w u (omega arith) h f in omega (arith, t)
  op_short (Inc v) h f = let d = variable_short v h in omega (arith, d)
  op_short (Dec v) h f = let d = variable_short v h in omega (arith, d)
  op_short (Adc v k) h f =
      let t = two_short (codes "adc ") (variable_text v) (decimal k) 7 6 (variable_short v h.0) (place_short k n.analogs h.1 s.analogs) in omega (arith, t)
  op_short (Pwm w hz) h f =
      let le = within hz most_hertz f.1 in
      let d = length-decimal-le 10 hz (lit< tt) (omega arith) (omega (arith, le)) in
      let t = two_short (codes "pwm ") (number_text w) (decimal hz) 7 10 (number_short w h f.0) d in omega (arith, t)
  op_short (Rx v b) h f = let t = two_short (codes "rx ") (variable_text v) (dest_text b) 7 7 (variable_short v h.0) (dest_short b h.1) in omega (arith, t)
  op_short (Tx w x b) h f =
      let t = three_short (codes "tx ") (number_text w) (source_text x) (dest_text b) 7 7 7 (number_short w h.0 f) (source_short x h.1) (dest_short b h.2) in
      omega (arith, t)
  op_short (Eebusy b) h f = let d = dest_short b h in omega (arith, d)
  op_short (Eerd v a) h f =
      let t = two_short (codes "eerd ") (variable_text v) (decimal a) 7 6 (variable_short v h.0) (place_short a n.persistent h.1 s.persistent) in
      omega (arith, t)
  op_short (Eewr w a) h f =
      let t = two_short (codes "eewr ") (number_text w) (decimal a) 7 6 (number_short w h.0 f) (place_short a n.persistent h.1 s.persistent) in omega (arith, t)
  op_short (Tab v w values) h f = let t = table_short v w values h f in omega (arith, t)

  pub ops_short : (ops : List IntOp) → All (IsInRange n) ops → AllHoldNumbers ops → length (joined (map op_words ops)) ≤ 41 * length ops + 480 * tabs_in ops
  ops_short [] h f = omega arith
  ops_short (op ∷ ops) h f =
      let one = op_short op (All-head (IsInRange n) op ops h) (All-head HoldsNumbers op ops f) in
      let more = ops_short ops (All-tail (IsInRange n) op ops h) (All-tail HoldsNumbers op ops f) in
      omega (arith, one, more, length-append (op_words op) (10 ∷ joined (map op_words ops)))
