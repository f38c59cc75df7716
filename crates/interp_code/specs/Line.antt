-- The lines of an interpretable text: what each says, by its words.
use Rattle.std.specs.Prelude.{ℕ, ◌-◌, ◌^◌, ◌==◌, List, [], ◌∷◌, length, ℤ, pos, neg_ℤ, Option, None, Some, codes, if◌then◌else◌}
use Rattle.std.specs.Option.{option_map, option_and_then, option_or}
use Rattle.std.specs.Str.{bytes_eq}
use Rattle.texts.specs.Lines.{pieces}
use Rattle.ladder_tree.specs.Names.{is_name_within}
use Rattle.texts.specs.Digits.{digits_to}
use Rattle.int_code.specs.declared.op.BitDest.{BitDest}
use Rattle.int_code.specs.declared.op.BitDest.TheVariants as dest
use Rattle.int_code.specs.declared.op.BitSource.{BitSource}
use Rattle.int_code.specs.declared.op.BitSource.TheVariants as source
use Rattle.int_code.specs.declared.op.NumSource.{NumSource}
use Rattle.int_code.specs.declared.op.NumSource.TheVariants.{V, N}
use Rattle.int_code.specs.declared.op.IntOp.{IntOp}
use Rattle.int_code.specs.declared.op.IntOp.TheVariants.{Set, Clr, Cpy, Not, Ifs, Ifc, Iflt, Ifeq, Ifee, Els, Fi, Lit, Mov, Add, Sub, Mul, Div, Inc, Dec, Adc, Pwm, Rx, Tx, Eebusy, Eerd, Eewr, Tab}
use Rattle.int_code.specs.WellFormed.{most_values}

-- what a line says
pub data Line : Type 0 where
  Magic : Line
  Cycle : ℕ → Line
  Input : List ℕ → Line
  Output : List ℕ → Line
  Analog : List ℕ → Line
  Variable : List ℕ → ℤ → Line
  Relay : List ℕ → Line
  Persistent : List ℕ → Line
  BitCount : ℕ → Line
  Code : Line
  Operation : IntOp → Line
  End : Line

-- A number may have - (45) in front. In a range that begins at 0 it is then 0.
abbrev pub number_to : ℕ → List ℕ → Option ℕ
number_to most [] = None
number_to most (c ∷ cs) = if c == 45 then digits_to 0 cs else digits_to most (c ∷ cs)

-- a number from -32768 to 32767
abbrev pub integer : List ℕ → Option ℤ
integer [] = None
integer (c ∷ cs) = if c == 45 then option_map (λ n. neg_ℤ (pos n)) (digits_to 32768 cs) else option_map pos (digits_to 32767 (c ∷ cs))

abbrev pub integers : List (List ℕ) → Option (List ℤ)
integers [] = Some []
integers (w ∷ ws) = option_and_then (λ n. option_map (λ ns. n ∷ ns) (integers ws)) (integer w)

-- numbers of bits and of list items are below 2 ^ 32
abbrev pub most_count : ℕ
most_count = 2 ^ 32 - 1

-- the K of bK, xK, yK or vK, and the number of a persistent variable or of an analog input
abbrev pub index : List ℕ → Option ℕ
index word = digits_to most_count word

-- a name has at most 66 bytes
abbrev pub name : List ℕ → Option (List ℕ)
name word = if is_name_within 66 word then Some word else None

-- a bit that is written: b is 98, y is 121
abbrev pub dest_of : List ℕ → Option BitDest
dest_of [] = None
dest_of (c ∷ cs) = if c == 98 then option_map dest.B (index cs) else (if c == 121 then option_map dest.Y (index cs) else None)

-- a bit that is read: x is 120
abbrev pub source_of : List ℕ → Option BitSource
source_of [] = None
source_of (c ∷ cs) =
    if c == 98 then option_map source.B (index cs)
    else (if c == 120 then option_map source.X (index cs)
    else (if c == 121 then option_map source.Y (index cs) else None))

-- a variable: v is 118
abbrev pub variable_of : List ℕ → Option ℕ
variable_of [] = None
variable_of (c ∷ cs) = if c == 118 then index cs else None

-- a number that is read: a variable, or the number itself
abbrev pub number_of : List ℕ → Option NumSource
number_of [] = None
number_of (c ∷ cs) = if c == 118 then option_map V (index cs) else option_map N (integer (c ∷ cs))

-- what two and three words say together
abbrev pub both : {A B : Type 0} → Option A → Option B → Option (A × B)
both a b = option_and_then (λ x. option_map (λ y. (x, y)) b) a

abbrev pub all_three : {A B C : Type 0} → Option A → Option B → Option C → Option (A × B × C)
all_three a b c = option_and_then (λ x. option_and_then (λ y. option_map (λ z. (x, y, z)) c) b) a

abbrev pub with_two : {A B C : Type 0} → (A → B → C) → Option A → Option B → Option C
with_two f a b = option_map (λ p. f p.0 p.1) (both a b)

abbrev pub with_three : {A B C D : Type 0} → (A → B → C → D) → Option A → Option B → Option C → Option D
with_three f a b c = option_map (λ p. f p.0 p.1 p.2) (all_three a b c)

-- the operations by how many words stand behind the first
abbrev pub op_alone : List ℕ → Option IntOp
op_alone word =
    if bytes_eq word (codes "els") then Some Els
    else (if bytes_eq word (codes "fi") then Some Fi else None)

abbrev pub source_or_variable_op : List ℕ → List ℕ → Option IntOp
source_or_variable_op word a =
    if bytes_eq word (codes "ifs") then option_map Ifs (source_of a)
    else (if bytes_eq word (codes "ifc") then option_map Ifc (source_of a)
    else (if bytes_eq word (codes "inc") then option_map Inc (variable_of a)
    else (if bytes_eq word (codes "dec") then option_map Dec (variable_of a) else None)))

abbrev pub op_with_one : List ℕ → List ℕ → Option IntOp
op_with_one word a =
    if bytes_eq word (codes "set") then option_map Set (dest_of a)
    else (if bytes_eq word (codes "clr") then option_map Clr (dest_of a)
    else (if bytes_eq word (codes "eebusy") then option_map Eebusy (dest_of a) else source_or_variable_op word a))

abbrev pub device_op : List ℕ → List ℕ → List ℕ → Option IntOp
device_op word a b =
    if bytes_eq word (codes "adc") then with_two Adc (variable_of a) (index b)
    else (if bytes_eq word (codes "eerd") then with_two Eerd (variable_of a) (index b)
    else (if bytes_eq word (codes "eewr") then with_two Eewr (number_of a) (index b)
    else (if bytes_eq word (codes "pwm") then with_two Pwm (number_of a) (number_to most_count b)
    else (if bytes_eq word (codes "rx") then with_two Rx (variable_of a) (dest_of b) else None))))

abbrev pub variable_op : List ℕ → List ℕ → List ℕ → Option IntOp
variable_op word a b =
    if bytes_eq word (codes "lit") then with_two Lit (variable_of a) (integer b)
    else (if bytes_eq word (codes "mov") then with_two Mov (variable_of a) (variable_of b)
    else (if bytes_eq word (codes "ifee") then with_two Ifee (variable_of a) (index b) else device_op word a b))

abbrev pub op_with_two : List ℕ → List ℕ → List ℕ → Option IntOp
op_with_two word a b =
    if bytes_eq word (codes "cpy") then with_two Cpy (dest_of a) (source_of b)
    else (if bytes_eq word (codes "not") then with_two Not (dest_of a) (source_of b)
    else (if bytes_eq word (codes "iflt") then with_two Iflt (number_of a) (number_of b)
    else (if bytes_eq word (codes "ifeq") then with_two Ifeq (number_of a) (number_of b) else variable_op word a b)))

abbrev pub op_with_three : List ℕ → List ℕ → List ℕ → List ℕ → Option IntOp
op_with_three word a b c =
    if bytes_eq word (codes "add") then with_three Add (variable_of a) (number_of b) (number_of c)
    else (if bytes_eq word (codes "sub") then with_three Sub (variable_of a) (number_of b) (number_of c)
    else (if bytes_eq word (codes "mul") then with_three Mul (variable_of a) (number_of b) (number_of c)
    else (if bytes_eq word (codes "div") then with_three Div (variable_of a) (number_of b) (number_of c)
    else (if bytes_eq word (codes "tx") then with_three Tx (number_of a) (source_of b) (dest_of c) else None))))

-- as many values as the count says
abbrev pub counted : ℕ → List ℤ → Option (List ℤ)
counted n values = if length values == n then Some values else None

-- a table behind its head, which has the count of its values
abbrev pub table_with : List (List ℕ) → ℕ × NumSource × ℕ → Option IntOp
table_with words head = option_map (Tab head.0 head.1) (option_and_then (counted head.2) (integers words))

-- a table, whose values follow their count
abbrev pub table_of : List ℕ → List ℕ → List ℕ → List ℕ → List (List ℕ) → Option IntOp
table_of word a b count words =
    if bytes_eq word (codes "tab") then option_and_then (table_with words) (all_three (variable_of a) (number_of b) (number_to most_values count)) else None

abbrev pub op_of : List (List ℕ) → Option IntOp
op_of [] = None
op_of (word ∷ []) = op_alone word
op_of (word ∷ (a ∷ [])) = op_with_one word a
op_of (word ∷ (a ∷ (b ∷ []))) = op_with_two word a b
op_of (word ∷ (a ∷ (b ∷ (c ∷ [])))) = option_or (op_with_three word a b c) (table_of word a b c [])
op_of (word ∷ (a ∷ (b ∷ (c ∷ (d ∷ words))))) = table_of word a b c (d ∷ words)

-- the number of the format
abbrev pub magic_of : List ℕ → Option Line
magic_of word = if bytes_eq word (codes "1") then Some Magic else None

abbrev pub head_alone : List ℕ → Option Line
head_alone word =
    if bytes_eq word (codes "code") then Some Code
    else (if bytes_eq word (codes "end") then Some End else None)

-- the lines of names without a value
abbrev pub name_line : List ℕ → List ℕ → Option Line
name_line word a =
    if bytes_eq word (codes "input") then option_map Input (name a)
    else (if bytes_eq word (codes "output") then option_map Output (name a)
    else (if bytes_eq word (codes "analog") then option_map Analog (name a)
    else (if bytes_eq word (codes "relay") then option_map Relay (name a)
    else (if bytes_eq word (codes "persist") then option_map Persistent (name a) else None))))

abbrev pub head_with_one : List ℕ → List ℕ → Option Line
head_with_one word a =
    if bytes_eq word (codes "LDint") then magic_of a
    else (if bytes_eq word (codes "cycle") then option_map Cycle (number_to 999999999 a)
    else (if bytes_eq word (codes "bits") then option_map BitCount (number_to most_count a) else name_line word a))

abbrev pub head_with_two : List ℕ → List ℕ → List ℕ → Option Line
head_with_two word a b = if bytes_eq word (codes "var") then with_two Variable (name a) (integer b) else None

-- the lines that are no operations
abbrev pub head_of : List (List ℕ) → Option Line
head_of (word ∷ []) = head_alone word
head_of (word ∷ (a ∷ [])) = head_with_one word a
head_of (word ∷ (a ∷ (b ∷ []))) = head_with_two word a b
head_of words = None

-- Words are separated by one space (32) each.
abbrev pub line_of : List ℕ → Option Line
line_of bytes = option_or (option_map Operation (op_of (pieces 32 bytes))) (head_of (pieces 32 bytes))
