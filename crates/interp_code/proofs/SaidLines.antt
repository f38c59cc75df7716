-- What a line says is in form: its names are names, its cycle is one, and the numbers of its operation are in their ranges.
use Rattle.std.proofs.Common.{◌≡◌, ℕ, ◌≤◌, Bool, true, false, ◌&&◌, ◌==◌, if◌then◌else◌, nat_le, zero, suc, List, [], ◌∷◌, length, Option, None, Some, ℤ, pos, neg_ℤ, refl, codes, subst, arith, All}
use Rattle.std.proofs.lemmas.Bool.{and_parts}
use Rattle.std.proofs.lemmas.Bool.Decides.{nat_tests}
use Rattle.std.proofs.lemmas.Int.{ints}
use Rattle.std.proofs.lemmas.List.Elements.{All-nil, All-cons}
use Rattle.std.specs.Option.{option_map, option_and_then, option_or}
use Rattle.std.specs.List.{list_all}
use Rattle.std.specs.Str.{bytes_eq}
use Rattle.texts.specs.Lines.{pieces}
use Rattle.ladder_tree.specs.Names.{is_name_within}
use Rattle.texts.specs.Digits.{is_digit, value_behind, digits_to}
use Rattle.int_code.specs.declared.op.NumSource.{NumSource}
use Rattle.int_code.specs.declared.op.NumSource.TheVariants.{V, N}
use Rattle.int_code.specs.declared.op.IntOp.{IntOp}
use Rattle.int_code.specs.declared.op.IntOp.TheVariants.{Set, Clr, Cpy, Not, Ifs, Ifc, Iflt, Ifeq, Ifee, Els, Fi, Lit, Mov, Add, Sub, Mul, Div, Inc, Dec, Adc, Pwm, Rx, Tx, Eebusy, Eerd, Eewr, Tab}
use Rattle.int_code.specs.WellFormed.{most_values}
use Rattle.int_code.specs.Literals.{most_hertz, IsNumber, HoldsNumber, HoldsNumbers}
use Rattle.interp_code.specs.Line.{Line, Magic, Cycle, Input, Output, Analog, Variable, Relay, Persistent, BitCount, Code, Operation, End, most_count, name, index, number_to, integer, integers, dest_of, source_of, variable_of, number_of, all_three, with_two, with_three, counted, table_with, table_of, op_alone, op_with_one, device_op, variable_op, op_with_two, op_with_three, magic_of, op_of, head_alone, name_line, head_with_one, head_with_two, head_of, line_of}

abbrev pub IsName : List ℕ → Type 0
IsName n = is_name_within 66 n ≡ true

abbrev pub IsInForm : Line → Type 0
IsInForm (Cycle n) = n ≤ 999999999
IsInForm (Input n) = IsName n
IsInForm (Output n) = IsName n
IsInForm (Analog n) = IsName n
IsInForm (Variable n value) = IsName n
IsInForm (Relay n) = IsName n
IsInForm (Persistent n) = IsName n
IsInForm (Operation op) = HoldsNumbers op
IsInForm l = Unit {0}

-- what is there passes
abbrev pub Passes : {A : Type 0} → (A → Type 0) → Option A → Type 0
Passes P None = Unit {0}
Passes P (Some a) = P a

either : {A : Type 0} (P : A → Type 0) (b : Bool) (x y : Option A) → (b ≡ true → Passes P x) → Passes P y → Passes P (if b then x else y)
either P true x y h k = h refl
either P false x y h k = k

mapped : {A : Type 0} (P : A → Type 0) (f : A → Line) → ((a : A) → P a → IsInForm (f a)) → (o : Option A) → Passes P o → Passes IsInForm (option_map f o)
mapped P f h None k = tt
mapped P f h (Some a) k = h a k

name_passes : (word : List ℕ) → Passes IsName (name word)
name_passes word = either IsName (is_name_within 66 word) (Some word) None (λ h. h) tt

digits_pass : (most : ℕ) (ds : List ℕ) → Passes (λ n. n ≤ most) (digits_to most ds)
digits_pass most [] = tt
digits_pass most (c ∷ cs) =
    either (λ n. n ≤ most) (list_all is_digit (c ∷ cs) && nat_le (value_behind 0 (c ∷ cs)) most) (Some (value_behind 0 (c ∷ cs))) None (λ h. few h) tt
  where
    few : (list_all is_digit (c ∷ cs) && nat_le (value_behind 0 (c ∷ cs)) most) ≡ true → value_behind 0 (c ∷ cs) ≤ most
    few h = let fits = (and_parts (list_all is_digit (c ∷ cs)) (nat_le (value_behind 0 (c ∷ cs)) most) h).1 in grind (arith, nat_tests)

zero_passes : (most : ℕ) (o : Option ℕ) → Passes (λ n. n ≤ 0) o → Passes (λ n. n ≤ most) o
zero_passes most None h = tt
zero_passes most (Some n) h = omega (arith, h)

number_passes : (most : ℕ) (word : List ℕ) → Passes (λ n. n ≤ most) (number_to most word)
number_passes most [] = tt
number_passes most (c ∷ cs) =
    either (λ n. n ≤ most) (c == 45) (digits_to 0 cs) (digits_to most (c ∷ cs)) (λ h. zero_passes most (digits_to 0 cs) (digits_pass 0 cs))
    (digits_pass most (c ∷ cs))

any_passes : {A : Type 0} (o : Option A) → Passes (λ (a : A). Unit {0}) o
any_passes None = tt
any_passes (Some a) = tt

alone_passes : (word : List ℕ) → Passes IsInForm (head_alone word)
alone_passes word =
    either IsInForm (bytes_eq word (codes "code")) (Some Code) _ (λ h. tt) (either IsInForm (bytes_eq word (codes "end")) (Some End) None (λ h. tt) tt)

name_line_passes : (word a : List ℕ) → Passes IsInForm (name_line word a)
name_line_passes word a =
    either IsInForm (bytes_eq word (codes "input")) _ _ (λ h. mapped IsName Input (λ n k. k) (name a) (name_passes a))
    (either IsInForm (bytes_eq word (codes "output")) _ _ (λ h. mapped IsName Output (λ n k. k) (name a) (name_passes a))
    (either IsInForm (bytes_eq word (codes "analog")) _ _ (λ h. mapped IsName Analog (λ n k. k) (name a) (name_passes a))
    (either IsInForm (bytes_eq word (codes "relay")) _ _ (λ h. mapped IsName Relay (λ n k. k) (name a) (name_passes a))
    (either IsInForm (bytes_eq word (codes "persist")) _ None (λ h. mapped IsName Persistent (λ n k. k) (name a) (name_passes a)) tt))))

one_passes : (word a : List ℕ) → Passes IsInForm (head_with_one word a)
one_passes word a =
    either IsInForm (bytes_eq word (codes "LDint")) (magic_of a) _ (λ h. either IsInForm (bytes_eq a (codes "1")) (Some Magic) None (λ k. tt) tt)
    (either IsInForm (bytes_eq word (codes "cycle")) _ _ (λ h. mapped (λ n. n ≤ 999999999) Cycle (λ n k. k) (number_to 999999999 a) (number_passes 999999999 a))
    (either IsInForm (bytes_eq word (codes "bits")) _ _ (λ h. mapped (λ n. Unit {0}) BitCount (λ n k. tt) (number_to most_count a)
    (any_passes (number_to most_count a)))
    (name_line_passes word a)))

variable_passes : (n : Option (List ℕ)) (value : Option ℤ) → Passes IsName n → Passes IsInForm (with_two Variable n value)
variable_passes None value h = tt
variable_passes (Some n) None h = tt
variable_passes (Some n) (Some value) h = h

two_pass : (word a b : List ℕ) → Passes IsInForm (head_with_two word a b)
two_pass word a b = either IsInForm (bytes_eq word (codes "var")) _ None (λ h. variable_passes (name a) (integer b) (name_passes a)) tt

head_passes : (words : List (List ℕ)) → Passes IsInForm (head_of words)
head_passes [] = tt
head_passes (word ∷ []) = alone_passes word
head_passes (word ∷ (a ∷ [])) = one_passes word a
head_passes (word ∷ (a ∷ (b ∷ []))) = two_pass word a b
head_passes (word ∷ (a ∷ (b ∷ (c ∷ words)))) = tt

-- Operations.

carried : {A B : Type 0} (P : A → Type 0) (Q : B → Type 0) (f : A → B) → ((a : A) → P a → Q (f a)) → (o : Option A) → Passes P o → Passes Q (option_map f o)
carried P Q f h None k = tt
carried P Q f h (Some a) k = h a k

behind : {A B : Type 0} (P : A → Type 0) (Q : B → Type 0) (f : A → Option B) → ((a : A) → P a → Passes Q (f a)) → (o : Option A) → Passes P o
    → Passes Q (option_and_then f o)
behind P Q f h None k = tt
behind P Q f h (Some a) k = h a k

first_of : {A : Type 0} (P : A → Type 0) (a b : Option A) → Passes P a → Passes P b → Passes P (option_or a b)
first_of P None b h k = k
first_of P (Some x) b h k = h

plain : {A : Type 0} (f : A → IntOp) → ((x : A) → HoldsNumbers (f x)) → (o : Option A) → Passes HoldsNumbers (option_map f o)
plain f h None = tt
plain f h (Some x) = h x

two_hold : {A B : Type 0} (P : A → Type 0) (Q : B → Type 0) (f : A → B → IntOp) → ((x : A) (y : B) → P x → Q y → HoldsNumbers (f x y))
    → (a : Option A) (b : Option B) → Passes P a → Passes Q b → Passes HoldsNumbers (with_two f a b)
two_hold P Q f h None b j k = tt
two_hold P Q f h (Some x) None j k = tt
two_hold P Q f h (Some x) (Some y) j k = h x y j k

three_pass : {A B C : Type 0} (P : A → Type 0) (Q : B → Type 0) (R : C → Type 0) (a : Option A) (b : Option B) (c : Option C) → Passes P a → Passes Q b
    → Passes R c → Passes (λ p. P p.0 × Q p.1 × R p.2) (all_three a b c)
three_pass P Q R None b c i j k = tt
three_pass P Q R (Some x) None c i j k = tt
three_pass P Q R (Some x) (Some y) None i j k = tt
three_pass P Q R (Some x) (Some y) (Some z) i j k = (i, j, k)

three_hold : {A B C : Type 0} (P : A → Type 0) (Q : B → Type 0) (R : C → Type 0) (f : A → B → C → IntOp)
    → ((x : A) (y : B) (z : C) → P x → Q y → R z → HoldsNumbers (f x y z)) → (a : Option A) (b : Option B) (c : Option C)
    → Passes P a → Passes Q b → Passes R c → Passes HoldsNumbers (with_three f a b c)
three_hold P Q R f h a b c i j k =
    carried (λ p. P p.0 × Q p.1 × R p.2) HoldsNumbers (λ p. f p.0 p.1 p.2) (λ p q. h p.0 p.1 p.2 q.0 q.1 q.2) (all_three a b c) (three_pass P Q R a b c i j k)

-- nothing is said of the value
abbrev Any : {A : Type 0} → A → Type 0
Any a = Unit {0}

positive : (n : ℕ) → n ≤ 32767 → IsNumber (pos n)
positive n h = grind (arith, ints, nat_tests)

negative : (n : ℕ) → n ≤ 32768 → IsNumber (neg_ℤ (pos n))
negative zero h = refl
negative (suc n) h = grind (arith, ints, nat_tests)

integer_passes : (word : List ℕ) → Passes IsNumber (integer word)
integer_passes [] = tt
integer_passes (c ∷ cs) =
    either IsNumber (c == 45) _ _ (λ h. carried (λ n. n ≤ 32768) IsNumber (λ n. neg_ℤ (pos n)) negative (digits_to 32768 cs) (digits_pass 32768 cs))
    (carried (λ n. n ≤ 32767) IsNumber pos positive (digits_to 32767 (c ∷ cs)) (digits_pass 32767 (c ∷ cs)))

integers_pass : (words : List (List ℕ)) → Passes (All IsNumber) (integers words)
integers_pass [] = All-nil IsNumber
integers_pass (w ∷ ws) =
    behind IsNumber (All IsNumber) _
    (λ n h. carried (All IsNumber) (All IsNumber) (λ ns. n ∷ ns) (λ ns k. All-cons IsNumber n ns h k) (integers ws) (integers_pass ws)) (integer w)
    (integer_passes w)

source_passes : (word : List ℕ) → Passes HoldsNumber (number_of word)
source_passes [] = tt
source_passes (c ∷ cs) =
    either HoldsNumber (c == 118) _ _ (λ h. carried Any HoldsNumber V (λ k t. tt) (index cs) (any_passes (index cs)))
    (carried IsNumber HoldsNumber N (λ n k. k) (integer (c ∷ cs)) (integer_passes (c ∷ cs)))

hertz : (hz : ℕ) → hz ≤ most_count → nat_le hz most_hertz ≡ true
hertz hz h = grind (arith, nat_tests)

op_alone_holds : (word : List ℕ) → Passes HoldsNumbers (op_alone word)
op_alone_holds word =
    either HoldsNumbers (bytes_eq word (codes "els")) (Some Els) _ (λ h. tt) (either HoldsNumbers (bytes_eq word (codes "fi")) (Some Fi) None (λ h. tt) tt)

op_with_one_holds : (word a : List ℕ) → Passes HoldsNumbers (op_with_one word a)
op_with_one_holds word a =
    either HoldsNumbers (bytes_eq word (codes "set")) _ _ (λ h. plain Set (λ b. tt) (dest_of a))
    (either HoldsNumbers (bytes_eq word (codes "clr")) _ _ (λ h. plain Clr (λ b. tt) (dest_of a))
    (either HoldsNumbers (bytes_eq word (codes "eebusy")) _ _ (λ h. plain Eebusy (λ b. tt) (dest_of a))
    (either HoldsNumbers (bytes_eq word (codes "ifs")) _ _ (λ h. plain Ifs (λ s. tt) (source_of a))
    (either HoldsNumbers (bytes_eq word (codes "ifc")) _ _ (λ h. plain Ifc (λ s. tt) (source_of a))
    (either HoldsNumbers (bytes_eq word (codes "inc")) _ _ (λ h. plain Inc (λ v. tt) (variable_of a))
    (either HoldsNumbers (bytes_eq word (codes "dec")) _ None (λ h. plain Dec (λ v. tt) (variable_of a)) tt))))))

device_op_holds : (word a b : List ℕ) → Passes HoldsNumbers (device_op word a b)
device_op_holds word a b =
    either HoldsNumbers (bytes_eq word (codes "adc")) _ _
    (λ h. two_hold Any Any Adc (λ v k s t. tt) (variable_of a) (index b) (any_passes (variable_of a)) (any_passes (index b)))
    (either HoldsNumbers (bytes_eq word (codes "eerd")) _ _ (λ h. two_hold Any Any Eerd (λ v k s t. tt) (variable_of a) (index b) (any_passes (variable_of a))
    (any_passes (index b)))
    (either HoldsNumbers (bytes_eq word (codes "eewr")) _ _ (λ h. two_hold HoldsNumber Any Eewr (λ w k s t. s) (number_of a) (index b) (source_passes a)
    (any_passes (index b)))
    (either HoldsNumbers (bytes_eq word (codes "pwm")) _ _ (λ h. two_hold HoldsNumber (λ n. n ≤ most_count) Pwm (λ w hz s t. (s, hertz hz t)) (number_of a)
    (number_to most_count b) (source_passes a) (number_passes most_count b))
    (either HoldsNumbers (bytes_eq word (codes "rx")) _ None (λ h. two_hold Any Any Rx (λ v b s t. tt) (variable_of a) (dest_of b) (any_passes (variable_of a))
    (any_passes (dest_of b))) tt))))

variable_op_holds : (word a b : List ℕ) → Passes HoldsNumbers (variable_op word a b)
variable_op_holds word a b =
    either HoldsNumbers (bytes_eq word (codes "lit")) _ _
    (λ h. two_hold Any IsNumber Lit (λ v n s t. t) (variable_of a) (integer b) (any_passes (variable_of a)) (integer_passes b))
    (either HoldsNumbers (bytes_eq word (codes "mov")) _ _ (λ h. two_hold Any Any Mov (λ v from s t. tt) (variable_of a) (variable_of b)
    (any_passes (variable_of a)) (any_passes (variable_of b)))
    (either HoldsNumbers (bytes_eq word (codes "ifee")) _ _ (λ h. two_hold Any Any Ifee (λ v k s t. tt) (variable_of a) (index b) (any_passes (variable_of a))
    (any_passes (index b)))
    (device_op_holds word a b)))

op_with_two_holds : (word a b : List ℕ) → Passes HoldsNumbers (op_with_two word a b)
op_with_two_holds word a b =
    either HoldsNumbers (bytes_eq word (codes "cpy")) _ _
    (λ h. two_hold Any Any Cpy (λ b s j k. tt) (dest_of a) (source_of b) (any_passes (dest_of a)) (any_passes (source_of b)))
    (either HoldsNumbers (bytes_eq word (codes "not")) _ _ (λ h. two_hold Any Any Not (λ b s j k. tt) (dest_of a) (source_of b) (any_passes (dest_of a))
    (any_passes (source_of b)))
    (either HoldsNumbers (bytes_eq word (codes "iflt")) _ _ (λ h. two_hold HoldsNumber HoldsNumber Iflt (λ w u j k. (j, k)) (number_of a) (number_of b)
    (source_passes a) (source_passes b))
    (either HoldsNumbers (bytes_eq word (codes "ifeq")) _ _ (λ h. two_hold HoldsNumber HoldsNumber Ifeq (λ w u j k. (j, k)) (number_of a) (number_of b)
    (source_passes a) (source_passes b))
    (variable_op_holds word a b))))

computed_holds : (f : ℕ → NumSource → NumSource → IntOp) → ((v : ℕ) (w u : NumSource) → HoldsNumber w → HoldsNumber u → HoldsNumbers (f v w u))
    → (a b c : List ℕ) → Passes HoldsNumbers (with_three f (variable_of a) (number_of b) (number_of c))
computed_holds f h a b c =
    three_hold Any HoldsNumber HoldsNumber f (λ v w u t j k. h v w u j k) (variable_of a) (number_of b) (number_of c) (any_passes (variable_of a))
    (source_passes b) (source_passes c)

op_with_three_holds : (word a b c : List ℕ) → Passes HoldsNumbers (op_with_three word a b c)
op_with_three_holds word a b c =
    either HoldsNumbers (bytes_eq word (codes "add")) _ _ (λ h. computed_holds Add (λ v w u j k. (j, k)) a b c)
    (either HoldsNumbers (bytes_eq word (codes "sub")) _ _ (λ h. computed_holds Sub (λ v w u j k. (j, k)) a b c)
    (either HoldsNumbers (bytes_eq word (codes "mul")) _ _ (λ h. computed_holds Mul (λ v w u j k. (j, k)) a b c)
    (either HoldsNumbers (bytes_eq word (codes "div")) _ _ (λ h. computed_holds Div (λ v w u j k. (j, k)) a b c)
    (either HoldsNumbers (bytes_eq word (codes "tx")) _ None
    (λ h. three_hold HoldsNumber Any Any Tx (λ w s b i j k. i) (number_of a) (source_of b) (dest_of c) (source_passes a) (any_passes (source_of b))
    (any_passes (dest_of c)))
    tt))))

table_holds : (word a b count : List ℕ) (words : List (List ℕ)) → Passes HoldsNumbers (table_of word a b count words)
table_holds word a b count words = either HoldsNumbers (bytes_eq word (codes "tab")) _ None (λ h. table) tt
  where
    counted_pass : (n : ℕ) (values : List ℤ) → All IsNumber values → Passes (All IsNumber) (counted n values)
    counted_pass n values h = either (All IsNumber) (length values == n) (Some values) None (λ t. h) tt

    with_head : (head : ℕ × NumSource × ℕ) → HoldsNumber head.1 → Passes HoldsNumbers (table_with words head)
    with_head head h =
        carried (All IsNumber) HoldsNumbers (Tab head.0 head.1) (λ values k. (h, k)) (option_and_then (counted head.2) (integers words))
        (behind (All IsNumber) (All IsNumber) (counted head.2) (counted_pass head.2) (integers words) (integers_pass words))

    table : Passes HoldsNumbers (option_and_then (table_with words) (all_three (variable_of a) (number_of b) (number_to most_values count)))
    table =
        behind (λ p. Any p.0 × HoldsNumber p.1 × Any p.2) HoldsNumbers (table_with words) (λ p k. with_head p k.1)
        (all_three (variable_of a) (number_of b) (number_to most_values count))
        (three_pass Any HoldsNumber Any (variable_of a) (number_of b) (number_to most_values count) (any_passes (variable_of a)) (source_passes b)
        (any_passes (number_to most_values count)))

op_holds : (words : List (List ℕ)) → Passes HoldsNumbers (op_of words)
op_holds [] = tt
op_holds (word ∷ []) = op_alone_holds word
op_holds (word ∷ (a ∷ [])) = op_with_one_holds word a
op_holds (word ∷ (a ∷ (b ∷ []))) = op_with_two_holds word a b
op_holds (word ∷ (a ∷ (b ∷ (c ∷ [])))) =
    first_of HoldsNumbers (op_with_three word a b c) (table_of word a b c []) (op_with_three_holds word a b c) (table_holds word a b c [])
op_holds (word ∷ (a ∷ (b ∷ (c ∷ (d ∷ words))))) = table_holds word a b c (d ∷ words)

line_passes : (bytes : List ℕ) → Passes IsInForm (line_of bytes)
line_passes bytes = by (op_of (pieces 32 bytes)) (head_of (pieces 32 bytes)) (op_holds (pieces 32 bytes)) (head_passes (pieces 32 bytes))
  where
    by : (op : Option IntOp) (head : Option Line) → Passes HoldsNumbers op → Passes IsInForm head → Passes IsInForm (option_or (option_map Operation op) head)
    by None head h k = k
    by (Some op) head h k = h

pub in_form : (bytes : List ℕ) (l : Line) → line_of bytes ≡ Some l → IsInForm l
in_form bytes l said = let P : Option Line → Type 0 = Passes IsInForm in subst P said (line_passes bytes)
