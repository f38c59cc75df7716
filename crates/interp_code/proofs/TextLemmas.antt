-- How a text is put together from its lines.
use Rattle.std.proofs.Common.{◌≡◌, ℕ, ◌+◌, ◌<◌, List, [], ◌∷◌, ◌++◌, length, get_or, take, map, ℤ, pos, refl, sym, ap, ◌∙◌, append_assoc, arith, codes}
use Rattle.std.proofs.lemmas.List.{take_more, map-append, length-take-le}
use Rattle.std.specs.Fmt.{signed_decimal}
use Rattle.ladder_tree.specs.declared.names.Names.{Names}
use Rattle.int_code.specs.declared.op.IntProgram.{IntProgram}
use Rattle.int_code.specs.Text.{op_words}
use Rattle.texts.specs.Lines.{joined}
use Rattle.interp_code.specs.Line.{Line, Magic, Cycle, Input, Output, Analog, Variable, Relay, Persistent, BitCount, Code, Operation, End}
use Rattle.interp_code.specs.Text.{line_text, variables, interp_text}
use Rattle.interp_code.specs.Written.{name_lines}

pub joined-append : (a b : List (List ℕ)) → joined (a ++ b) ≡ joined a ++ joined b
joined-append [] b = refl
joined-append (l ∷ ls) b = ap (λ t. l ++ 10 ∷ t) (joined-append ls b) ∙ sym (append_assoc l (10 ∷ joined ls) (joined b))

-- one line more
pub joined_more : {A : Type 0} (f : A → List ℕ) (xs : List A) (i : ℕ) (d : A) → i < length xs
    → joined (map f (take (i + 1) xs)) ≡ joined (map f (take i xs)) ++ (f (get_or xs i d) ++ 10 ∷ [])
joined_more f xs i d h =
    ap (λ ys. joined (map f ys)) (take_more xs i d h)
    ∙ ap joined (map-append f (take i xs) (get_or xs i d ∷ []))
    ∙ joined-append (map f (take i xs)) (f (get_or xs i d) ∷ [])

pub variables_push : (ns : List (List ℕ)) (values : List ℤ) (n : List ℕ) (value : ℤ) → length values ≡ length ns
    → variables (ns ++ n ∷ []) (values ++ value ∷ []) ≡ variables ns values ++ Variable n value ∷ []
variables_push [] [] n value h = refl
variables_push [] (v ∷ vs) n value h = absurd (omega arith)
variables_push (m ∷ ms) [] n value h = absurd (omega arith)
variables_push (m ∷ ms) (v ∷ vs) n value h = ap (λ ls. Variable m v ∷ ls) (variables_push ms vs n value (omega arith))

-- one variable's line more
pub variables_more : (ns : List (List ℕ)) (values : List ℤ) (i : ℕ) (n : List ℕ) → length values ≡ length ns → i < length ns → n ≡ get_or ns i n
    → joined (map line_text (variables (take (i + 1) ns) (take (i + 1) values))) ≡ joined (map line_text (variables (take i ns) (take i values))) ++
    (codes "var " ++ (n ++ (codes " " ++ (signed_decimal (get_or values i (pos 0)) ++ 10 ∷ []))))
variables_more ns values i n same lt is =
    let long = length-take-le i ns (omega arith) in
    let long_values = length-take-le i values (omega arith) in
    let value = get_or values i (pos 0) in
    ap (λ ms. joined (map line_text (variables ms (take (i + 1) values)))) (take_more ns i n lt ∙ ap (λ m. take i ns ++ m ∷ []) (sym is))
    ∙ ap (λ vs. joined (map line_text (variables (take i ns ++ n ∷ []) vs))) (take_more values i (pos 0) (omega arith))
    ∙ ap (λ ls. joined (map line_text ls)) (variables_push (take i ns) (take i values) n value (omega (arith, long, long_values)))
    ∙ ap joined (map-append line_text (variables (take i ns) (take i values)) (Variable n value ∷ []))
    ∙ joined-append (map line_text (variables (take i ns) (take i values))) (line_text (Variable n value) ∷ [])
    ∙ ap (λ t. joined (map line_text (variables (take i ns) (take i values))) ++ (codes "var " ++ t))
    (append_assoc n (codes " " ++ signed_decimal value) (10 ∷ []))

map-twice : {A B C : Type 0} (f : B → C) (g : A → B) (xs : List A) → map f (map g xs) ≡ map (λ x. f (g x)) xs
map-twice f g [] = refl
map-twice f g (x ∷ xs) = ap (λ ys. f (g x) ∷ ys) (map-twice f g xs)

-- the text of two parts
parts : (a b : List Line) → joined (map line_text (a ++ b)) ≡ joined (map line_text a) ++ joined (map line_text b)
parts a b = ap joined (map-append line_text a b) ∙ joined-append (map line_text a) (map line_text b)

part : {A : Type 0} (f : A → Line) (xs : List A) (rest : List Line)
    → joined (map line_text (map f xs ++ rest)) ≡ joined (map (λ x. line_text (f x)) xs) ++ joined (map line_text rest)
part f xs rest = parts (map f xs) rest ∙ ap (λ ls. joined ls ++ joined (map line_text rest)) (map-twice line_text f xs)

-- the names as they are written
pub names_written : (names : Names) (starts : List ℤ)
    → joined (map (λ n. codes "input " ++ n) names.inputs)
    ++ (joined (map (λ n. codes "output " ++ n) names.outputs)
    ++ (joined (map (λ n. codes "analog " ++ n) names.analog)
    ++ (joined (map line_text (variables names.variables starts))
    ++ (joined (map (λ n. codes "relay " ++ n) names.relays)
    ++ joined (map (λ n. codes "persist " ++ n) names.persistent))))) ≡ joined (map line_text (name_lines names starts))
names_written names starts = sym (
    part Input names.inputs outputs
    ∙ ap (λ t. joined (map (λ n. codes "input " ++ n) names.inputs) ++ t) (part Output names.outputs analogs
    ∙ ap (λ t. joined (map (λ n. codes "output " ++ n) names.outputs) ++ t) (part Analog names.analog vars
    ∙ ap (λ t. joined (map (λ n. codes "analog " ++ n) names.analog) ++ t) (parts (variables names.variables starts) relays
    ∙ ap (λ t. joined (map line_text (variables names.variables starts)) ++ t) (part Relay names.relays (map Persistent names.persistent)
    ∙ ap (λ ls. joined (map (λ n. codes "relay " ++ n) names.relays) ++ joined ls) (map-twice line_text Persistent names.persistent))))))
  where
    relays : List Line
    relays = map Relay names.relays ++ map Persistent names.persistent

    vars : List Line
    vars = variables names.variables starts ++ relays

    analogs : List Line
    analogs = map Analog names.analog ++ vars

    outputs : List Line
    outputs = map Output names.outputs ++ analogs

-- the parts as they are written
pub groups_written : (cycle : ℕ) (names : Names) (program : IntProgram)
    → joined (map line_text (Magic ∷ (Cycle cycle ∷ [])))
    ++ (joined (map line_text (name_lines names program.starts))
    ++ (joined (map line_text (BitCount program.bits ∷ (Code ∷ [])))
    ++ (joined (map op_words program.ops) ++ codes "end\n"))) ≡ interp_text cycle names program
groups_written cycle names program = sym (
    ap (λ ls. joined (map line_text (Magic ∷ (Cycle cycle ∷ ls)))) in_parts
    ∙ parts (Magic ∷ (Cycle cycle ∷ [])) (name_lines names program.starts ++ sizes)
    ∙ ap (λ t. joined (map line_text (Magic ∷ (Cycle cycle ∷ []))) ++ t) (parts (name_lines names program.starts) sizes
    ∙ ap (λ t. joined (map line_text (name_lines names program.starts)) ++ t) (parts (BitCount program.bits ∷ (Code ∷ [])) ops
    ∙ ap (λ t. joined (map line_text (BitCount program.bits ∷ (Code ∷ []))) ++ t) (part Operation program.ops (End ∷ [])))))
  where
    ops : List Line
    ops = map Operation program.ops ++ End ∷ []

    sizes : List Line
    sizes = BitCount program.bits ∷ (Code ∷ ops)

    in_parts : map Input names.inputs ++ (map Output names.outputs ++ (map Analog names.analog ++ (variables names.variables program.starts ++
        (map Relay names.relays ++ (map Persistent names.persistent ++ sizes))))) ≡ name_lines names program.starts ++ sizes
    in_parts = simp append_assoc

-- the same with each kind of names by itself
pub parts_written : (cycle : ℕ) (names : Names) (program : IntProgram)
    → joined (map line_text (Magic ∷ (Cycle cycle ∷ [])))
    ++ (joined (map (λ n. codes "input " ++ n) names.inputs)
    ++ (joined (map (λ n. codes "output " ++ n) names.outputs)
    ++ (joined (map (λ n. codes "analog " ++ n) names.analog)
    ++ (joined (map line_text (variables names.variables program.starts))
    ++ (joined (map (λ n. codes "relay " ++ n) names.relays)
    ++ (joined (map (λ n. codes "persist " ++ n) names.persistent)
    ++ (joined (map line_text (BitCount program.bits ∷ (Code ∷ [])))
    ++ (joined (map op_words program.ops) ++ codes "end\n")))))))) ≡ interp_text cycle names program
parts_written cycle names program =
    let word : List ℕ → List (List ℕ) → List ℕ = λ w ns. joined (map (λ n. w ++ n) ns) in
    let rest : List ℕ = joined (map line_text (BitCount program.bits ∷ (Code ∷ []))) ++ (joined (map op_words program.ops) ++ codes "end\n") in
    ap (λ t. joined (map line_text (Magic ∷ (Cycle cycle ∷ []))) ++ t)
    (grouped (word (codes "input ") names.inputs) (word (codes "output ") names.outputs) (word (codes "analog ") names.analog)
    (joined (map line_text (variables names.variables program.starts))) (word (codes "relay ") names.relays) (word (codes "persist ") names.persistent) rest
    ∙ ap (λ t. t ++ rest) (names_written names program.starts))
    ∙ groups_written cycle names program
  where
    grouped : (a b c d e f rest : List ℕ) → a ++ (b ++ (c ++ (d ++ (e ++ (f ++ rest))))) ≡ (a ++ (b ++ (c ++ (d ++ (e ++ f))))) ++ rest
    grouped a b c d e f rest = simp append_assoc
