-- The list of primitives of each operation.
use Rattle.std.specs.Prelude.{ℕ, zero, suc, Bool, true, false, List, [], ◌∷◌, ◌++◌, length, map, ℤ, pos, ◌+ℤ◌, neg_ℤ, int_lt, if◌then◌else◌, Option, Some, None, not}
use Rattle.std.specs.Ordering.{int_eq}
use Rattle.ladder_meaning.specs.Device.{low_byte, high_byte, word_of}
use Rattle.ladder_meaning.specs.Numbers.{computed, value_at}
use Rattle.ld_base.specs.Wrap.{wrap}
use Rattle.ladder_tree.specs.declared.element.MathHow.TheVariants as how
use Rattle.int_code.specs.Shapes.{shape_of}
use Rattle.int_code.specs.declared.op.BitDest as written
use Rattle.int_code.specs.declared.op.BitSource as read
use Rattle.int_code.specs.declared.op.IntOp.{IntOp}
use Rattle.int_code.specs.declared.op.IntOp.TheVariants.{Set, Clr, Cpy, Not, Ifs, Ifc, Iflt, Ifeq, Ifee, Els, Fi, Lit, Mov, Add, Sub, Mul, Div, Inc, Dec, Adc, Pwm, Rx, Tx, Eebusy, Eerd, Eewr, Tab}
use Rattle.int_code.specs.declared.op.NumSource.{NumSource}
use Rattle.int_code.specs.declared.op.NumSource.TheVariants.{V, N}
use Rattle.int_code.specs.declared.op.Shape.{Shape}
use Rattle.int_code.specs.declared.op.Shape.TheVariants.{Opens, Turns, Closes, Plain}
use Rattle.byte_code.specs.declared.prim.BytePrim.{BytePrim}
use Rattle.byte_code.specs.declared.prim.BytePrim.TheVariants.{Label, Jump, JumpWhere, Bit, Word, Compare, Table, Call}
use Rattle.byte_code.specs.declared.prim.Test.TheVariants as test
use Rattle.byte_code.specs.declared.prim.BitOp.TheVariants as bits
use Rattle.byte_code.specs.declared.prim.WordOp.TheVariants as words
use Rattle.byte_code.specs.declared.prim.CompareOp.TheVariants as compares
use Rattle.byte_code.specs.declared.prim.FlagKind.{FlagKind}
use Rattle.byte_code.specs.declared.prim.FlagKind.TheVariants as kind
use Rattle.byte_code.specs.declared.prim.WordSource.{WordSource}
use Rattle.byte_code.specs.declared.prim.WordSource.TheVariants as word
use Rattle.byte_code.specs.declared.prim.Paced.{Paced}
use Rattle.byte_routines.specs.declared.routines.TheConstants.{MULTIPLY, DIVIDE}
use Rattle.byte_lower.specs.Layout.{own_cells, word_cell, dest_of, source_of}
use Rattle.byte_lower.specs.declared.guard.Guard.{Guard}
use Rattle.byte_lower.specs.declared.layout.Layout.{Layout}

-- The operations that are lowered: all but what is done to devices.
abbrev pub is_built : IntOp → Bool
is_built (Set b) = true
is_built (Clr b) = true
is_built (Cpy b s) = true
is_built (Not b s) = true
is_built (Ifs s) = true
is_built (Ifc s) = true
is_built (Iflt w u) = true
is_built (Ifeq w u) = true
is_built Els = true
is_built Fi = true
is_built (Lit v n) = true
is_built (Mov v from) = true
is_built (Add v w u) = true
is_built (Sub v w u) = true
is_built (Inc v) = true
is_built (Dec v) = true
is_built (Ifee v a) = false
is_built (Mul v w u) = true
is_built (Div v w u) = true
is_built (Adc v k) = false
is_built (Pwm w hz) = false
is_built (Rx v b) = false
is_built (Tx w s b) = false
is_built (Eebusy b) = false
is_built (Eerd v a) = false
is_built (Eewr w a) = false
is_built (Tab v w values) = true

-- a primitive that is begun once at most in a cycle, and not in front of the first
abbrev pub paced : BytePrim → Paced
paced p = record { prim = p; boot = 0; turns = 1 }

-- The label that an operation names or moves on to, by its number. The first operation has number 5: label 0 is in front of the cycle poll, and those up to 5
-- are of the routines.
abbrev pub label_of : ℕ → ℕ
label_of k = suc k

-- a number that stands in an operation, as two bytes
abbrev pub number : ℤ → WordSource
number n = word.Number (low_byte n) (high_byte n)

-- a variable's word
abbrev pub word_in : Layout → ℕ → WordSource
word_in o v = word.Cells (word_cell o v)

abbrev pub move : Layout → ℕ → WordSource → BytePrim
move o v from = Word (words.Move (word_cell o v) from)

abbrev pub put : Layout → ℕ → WordSource → Paced
put o v from = paced (move o v from)

abbrev pub jump_where : FlagKind → Bool → ℕ → Paced
jump_where what is l = paced (JumpWhere (test.Flag what is) l)

abbrev pub compare_less : Layout → ℕ → WordSource → Paced
compare_less o a b = paced (Compare (compares.Less (word_cell o a) b))

abbrev pub compare_equal : Layout → ℕ → WordSource → Paced
compare_equal o a b = paced (Compare (compares.Equal (word_cell o a) b))

-- goes to the label where the first is not less than the second: n < v is not v < n + 1, and of two numbers it is known
abbrev pub unless_less : Layout → NumSource → NumSource → ℕ → List Paced
unless_less o (V a) (V b) l = compare_less o a (word_in o b) ∷ jump_where kind.Less false l ∷ []
unless_less o (V a) (N m) l = compare_less o a (number m) ∷ jump_where kind.Less false l ∷ []
unless_less o (N n) (V b) l =
    if int_lt n (pos 32767) then compare_less o b (number (n +ℤ pos 1)) ∷ jump_where kind.Less true l ∷ [] else paced (Jump l) ∷ []
unless_less o (N n) (N m) l = if int_lt n m then [] else paced (Jump l) ∷ []

-- goes to the label where the numbers are not equal
abbrev pub unless_equal : Layout → NumSource → NumSource → ℕ → List Paced
unless_equal o (V a) (V b) l = compare_equal o a (word_in o b) ∷ jump_where kind.Equal false l ∷ []
unless_equal o (V a) (N m) l = compare_equal o a (number m) ∷ jump_where kind.Equal false l ∷ []
unless_equal o (N n) (V b) l = compare_equal o b (number n) ∷ jump_where kind.Equal false l ∷ []
unless_equal o (N n) (N m) l = if int_eq n m then [] else paced (Jump l) ∷ []

abbrev pub added : Layout → ℕ → ℕ → WordSource → Paced
added o v a b = paced (Word (words.Add (word_cell o v) (word_cell o a) b))

abbrev pub sum : Layout → ℕ → NumSource → NumSource → Paced
sum o v (V a) (V b) = added o v a (word_in o b)
sum o v (V a) (N m) = added o v a (number m)
sum o v (N n) (V b) = added o v b (number n)
sum o v (N n) (N m) = put o v (number (computed how.Add n m))

abbrev pub taken_from : Layout → ℕ → WordSource → ℕ → Paced
taken_from o v a b = paced (Word (words.Subtract (word_cell o v) a (word_in o b)))

-- a number is taken away by the sum with its opposite
abbrev pub difference : Layout → ℕ → NumSource → NumSource → Paced
difference o v (V a) (V b) = taken_from o v (word_in o a) b
difference o v (V a) (N m) = added o v a (number (wrap (neg_ℤ m)))
difference o v (N n) (V b) = taken_from o v (number n) b
difference o v (N n) (N m) = put o v (number (computed how.Sub n m))

-- of two numbers, what is computed is known
abbrev pub are_known : NumSource → NumSource → Bool
are_known (N n) (N m) = true
are_known (N n) (V b) = false
are_known (V a) u = false

-- the word of a number
abbrev pub word_of_source : Layout → NumSource → WordSource
word_of_source o (V a) = word_in o a
word_of_source o (N n) = number n

-- moves the numbers to the words of a routine, calls it, and moves its result
abbrev pub called : Layout → ℕ → ℕ → ℕ → NumSource → NumSource → List Paced
called o label result v w u =
    paced (Word (words.Move (own_cells o.plan.target).left (word_of_source o w)))
    ∷ paced (Word (words.Move (own_cells o.plan.target).right (word_of_source o u)))
    ∷ paced (Call label) ∷ put o v (word.Cells result) ∷ []

abbrev pub product : Layout → ℕ → NumSource → NumSource → List Paced
product o v (N n) (N m) = put o v (number (computed how.Mul n m)) ∷ []
product o v (N n) (V b) = called o MULTIPLY (own_cells o.plan.target).outcome v (N n) (V b)
product o v (V a) u = called o MULTIPLY (own_cells o.plan.target).outcome v (V a) u

abbrev pub quotient : Layout → ℕ → NumSource → NumSource → List Paced
quotient o v (N n) (N m) = put o v (number (computed how.Div n m)) ∷ []
quotient o v (N n) (V b) = called o DIVIDE (own_cells o.plan.target).left v (N n) (V b)
quotient o v (V a) u = called o DIVIDE (own_cells o.plan.target).left v (V a) u

-- the operations that call the routine of products, and that of quotients
abbrev pub calls_product : IntOp → Bool
calls_product (Mul v w u) = not (are_known w u)
calls_product op = false

abbrev pub calls_quotient : IntOp → Bool
calls_quotient (Div v w u) = not (are_known w u)
calls_quotient op = false

abbrev pub put_bit : Layout → written.BitDest → Bool → Paced
put_bit o b x = paced (Bit (bits.Put (dest_of o b) x))

abbrev pub copy_bit : Layout → written.BitDest → read.BitSource → Bool → Paced
copy_bit o b s inverted = paced (Bit (bits.Copy (dest_of o b) (source_of o s) inverted))

abbrev pub jump_where_bit : Layout → read.BitSource → Bool → ℕ → Paced
jump_where_bit o s is l = paced (JumpWhere (test.Bit (source_of o s) is) l)

abbrev pub count_up : Layout → ℕ → Paced
count_up o v = paced (Word (words.Increment (word_cell o v)))

abbrev pub count_down : Layout → ℕ → Paced
count_down o v = paced (Word (words.Decrement (word_cell o v)))

-- a jump over the second branch to label l, and the label in front of that
abbrev pub turn : ℕ → ℕ → List Paced
turn l top = paced (Jump l) ∷ paced (Label top) ∷ []

-- the value at an index that is known, if there is one
abbrev pub put_known : Layout → ℕ → Option ℤ → List Paced
put_known o v None = []
put_known o v (Some n) = put o v (number n) ∷ []

abbrev pub compare_below : Layout → ℕ → ℕ → Paced
compare_below o a n = paced (Compare (compares.Below (word_cell o a) n))

-- the index goes to the word that a table reads
abbrev pub put_index : Layout → ℕ → Paced
put_index o w = paced (Word (words.Move (own_cells o.plan.target).outcome (word_in o w)))

abbrev pub take_value : List ℤ → ℕ → Paced
take_value values l = paced (Table (map word_of values) l)

-- a variable becomes the word in which a table leaves its value
abbrev pub put_taken : Layout → ℕ → Paced
put_taken o v = put o v (word.Cells (own_cells o.plan.target).left)

-- A variable becomes the value at the index, and stays where there is none. Of one value the index has to be 0, and of more it has to be below their
-- number; else a jump leads to the label behind.
abbrev pub look_up : Layout → ℕ → NumSource → List ℤ → ℕ → List Paced
look_up o v (N i) values l = put_known o v (value_at values i)
look_up o v (V w) [] l = []
look_up o v (V w) (n ∷ []) l = compare_equal o w (number (pos 0)) ∷ jump_where kind.Equal false l ∷ put o v (number n) ∷ paced (Label l) ∷ []
look_up o v (V w) (n ∷ m ∷ ns) l =
    compare_below o w (length (n ∷ m ∷ ns)) ∷ jump_where kind.Below false l ∷ put_index o w ∷ take_value (n ∷ m ∷ ns) l ∷ put_taken o v ∷ paced (Label l) ∷ []

-- The list of an operation that has the label l, where `top` is the label of the innermost open if. An if jumps to its label where its
-- first branch does not run; its els jumps over the second branch to a label of its own, and stands at the if's; its fi stands at the last.
abbrev pub list_of : Layout → IntOp → ℕ → ℕ → List Paced
list_of o (Set b) l top = put_bit o b true ∷ []
list_of o (Clr b) l top = put_bit o b false ∷ []
list_of o (Cpy b s) l top = copy_bit o b s false ∷ []
list_of o (Not b s) l top = copy_bit o b s true ∷ []
list_of o (Ifs s) l top = jump_where_bit o s false l ∷ []
list_of o (Ifc s) l top = jump_where_bit o s true l ∷ []
list_of o (Iflt w u) l top = unless_less o w u l
list_of o (Ifeq w u) l top = unless_equal o w u l
list_of o Els l top = turn l top
list_of o Fi l top = paced (Label top) ∷ []
list_of o (Lit v n) l top = put o v (number n) ∷ []
list_of o (Mov v from) l top = put o v (word_in o from) ∷ []
list_of o (Add v w u) l top = sum o v w u ∷ []
list_of o (Sub v w u) l top = difference o v w u ∷ []
list_of o (Mul v w u) l top = product o v w u
list_of o (Div v w u) l top = quotient o v w u
list_of o (Inc v) l top = count_up o v ∷ []
list_of o (Dec v) l top = count_down o v ∷ []
list_of o (Tab v w values) l top = look_up o v w values l
-- these are not built
list_of o (Ifee v a) l top = []
list_of o (Adc v n) l top = []
list_of o (Pwm w hz) l top = []
list_of o (Rx v b) l top = []
list_of o (Tx w s b) l top = []
list_of o (Eebusy b) l top = []
list_of o (Eerd v a) l top = []
list_of o (Eewr w a) l top = []

-- the label of the innermost open if
abbrev pub top_of : List ℕ → ℕ
top_of [] = 0
top_of (l ∷ labels) = l

-- the labels of the open ifs behind an operation of a shape
abbrev pub labels_behind : Shape → ℕ → List ℕ → List ℕ
labels_behind Opens k labels = label_of k ∷ labels
labels_behind Turns k [] = []
labels_behind Turns k (l ∷ labels) = label_of k ∷ labels
labels_behind Closes k [] = []
labels_behind Closes k (l ∷ labels) = labels
labels_behind Plain k labels = labels

-- an if on a bit whose block is one set or clr
abbrev pub guard_by : IntOp → IntOp → IntOp → Option Guard
guard_by (Ifs s) (Set b) Fi = Some (record { from = s; is = true; to = b; value = true })
guard_by (Ifs s) (Clr b) Fi = Some (record { from = s; is = true; to = b; value = false })
guard_by (Ifc s) (Set b) Fi = Some (record { from = s; is = false; to = b; value = true })
guard_by (Ifc s) (Clr b) Fi = Some (record { from = s; is = false; to = b; value = false })
guard_by x y z = None

-- the one in front of operations
abbrev pub guard_of : List IntOp → Option Guard
guard_of (x ∷ y ∷ z ∷ ops) = guard_by x y z
guard_of ops = None

abbrev pub put_where : Layout → Guard → Paced
put_where o g = paced (Bit (bits.PutIf (source_of o g.from) g.is (dest_of o g.to) g.value))

abbrev pub joined : Option Guard → (Guard → List Paced) → List Paced → List Paced
joined (Some g) one list = one g
joined None one list = list

-- The lists of operations from number k on, inside ifs with these labels, the innermost first; the first so many operations stand in an earlier list.
-- An if on a bit whose block is one set or clr is one primitive.
abbrev pub lists_of : Layout → ℕ → List IntOp → ℕ → List ℕ → List Paced
lists_of o passed [] k labels = []
lists_of o (suc passed) (op ∷ ops) k labels = lists_of o passed ops (suc k) labels
lists_of o zero (op ∷ ops) k labels =
    joined (guard_of (op ∷ ops)) (λ g. put_where o g ∷ lists_of o 2 ops (suc k) labels)
    (list_of o op (label_of k) (top_of labels) ++ lists_of o zero ops (suc k) (labels_behind (shape_of op) k labels))
