-- The lines of a program are read.
use Rattle.std.proofs.Common.{◌≡◌, ℕ, ◌+◌, ◌<◌, ◌≤◌, Bool, true, false, not, nat_le, nat_lt, List, [], ◌∷◌, ◌++◌, length, map, Option, Some, None, ℤ, refl, sym, ap, ◌∙◌, subst, append_assoc, arith, All, length-append}
use Rattle.std.proofs.lemmas.Bool.Decides.{nat_tests}
use Rattle.std.proofs.lemmas.Bool.{false≢true, and_parts}
use Rattle.std.proofs.lemmas.List.{append-nil}
use Rattle.std.proofs.lemmas.List.Elements.{All-head, All-tail}
use Rattle.std.specs.Option.{option_and_then}
use Rattle.std.specs.List.{list_any, list_all}
use Rattle.std.specs.Str.{bytes_eq}
use Rattle.texts.specs.Begins.{Begins}
use Rattle.ladder_tree.specs.declared.names.Names.{Names}
use Rattle.int_code.specs.declared.op.IntOp.{IntOp}
use Rattle.int_code.specs.declared.op.IntProgram.{IntProgram}
use Rattle.int_code.specs.declared.op.Shape.{Shape}
use Rattle.int_code.specs.declared.op.Shape.TheVariants.{Opens, Turns, Closes, Plain}
use Rattle.int_code.specs.Shapes.{shape_of}
use Rattle.int_code.specs.WellFormed.{Sizes, IsInRange, nests, nests_by, sizes_of}
use Rattle.interp_code.specs.declared.program.InterpProgram.{InterpProgram}
use Rattle.interp_code.specs.declared.reader.Stage.TheVariants as stage
use Rattle.interp_code.specs.Line.{Line, Input, Output, Analog, Relay, Persistent, BitCount, Code, Operation, End, line_of}
use Rattle.interp_code.specs.Text.{variables, spelled}
use Rattle.int_code.specs.declared.limits.TheConstants.{MOST_BITS, MOST_PERSISTENT}
use Rattle.interp_code.specs.Program.{differ_from, are_in, IsSound, Says}
use Rattle.interp_code.specs.Draft.{Draft, start, sizes_with, ifs_behind, step, step_line, read}
use Rattle.interp_code.proofs.BoolLemmas.{not_true}
use Rattle.interp_code.proofs.RangeTests.{range_decides}

-- lines as they were said
abbrev pub run : Draft → List Line → Option Draft
run d [] = Some d
run d (x ∷ xs) = option_and_then (λ e. run e xs) (step d x)

pub read_said : (d : Draft) (ls : List (List ℕ)) (xs : List Line) → map line_of ls ≡ map Some xs → read d ls ≡ run d xs
read_said d [] [] h = refl
read_said d [] (x ∷ xs) h = absurd cc
read_said d (l ∷ ls) [] h = absurd cc
read_said d (l ∷ ls) (x ∷ xs) h =
    let first : line_of l ≡ Some x = cc in
    let others : map line_of ls ≡ map Some xs = cc in
    rw first (goes (step d x) (λ e. read_said e ls xs others))
  where
    goes : (o : Option Draft) → ((e : Draft) → read e ls ≡ run e xs) → option_and_then (λ e. read e ls) o ≡ option_and_then (λ e. run e xs) o
    goes None more = refl
    goes (Some e) more = more e

pub read-append : (d : Draft) (a b : List (List ℕ)) → read d (a ++ b) ≡ option_and_then (λ e. read e b) (read d a)
read-append d [] b = refl
read-append d (l ∷ ls) b = goes (step_line d l) (λ e. read-append e ls b)
  where
    goes : (o : Option Draft) → ((e : Draft) → read e (ls ++ b) ≡ option_and_then (λ f. read f b) (read e ls))
        → option_and_then (λ e. read e (ls ++ b)) o ≡ option_and_then (λ f. read f b) (option_and_then (λ e. read e ls) o)
    goes None more = refl
    goes (Some e) more = more e

-- the operations behind one nest as the reader goes on
nests_behind : (s : Shape) (es : List Bool) (rest : List Bool → Bool) → nests_by s rest es ≡ true
    → (fs : List Bool) × (ifs_behind s es ≡ Some fs) × (rest fs ≡ true)
nests_behind Opens es rest h = (false ∷ es, refl, h)
nests_behind Turns [] rest h = absurd (false≢true h)
nests_behind Turns (true ∷ es) rest h = absurd (false≢true h)
nests_behind Turns (false ∷ es) rest h = (true ∷ es, refl, h)
nests_behind Closes [] rest h = absurd (false≢true h)
nests_behind Closes (e ∷ es) rest h = (es, refl, h)
nests_behind Plain es rest h = (es, refl, h)

abbrev lists : List (List ℕ) → List (List ℕ) → List (List ℕ) → List (List ℕ) → List (List ℕ) → List (List ℕ) → Names
lists is os ks vs rs ps = record { inputs = is; outputs = os; relays = rs; variables = vs; analog = ks; persistent = ps; memories = 0 }

abbrev named : ℕ → Names → List ℤ → Draft
named c ns starts = record { stage = stage.Named; cycle = c; names = ns; starts = starts; bits = 0; ops = []; ifs = [] }

abbrev kept : ℕ → Names → List ℤ → Draft
kept c ns starts = record { stage = stage.Kept; cycle = c; names = ns; starts = starts; bits = 0; ops = []; ifs = [] }

abbrev pub coded : ℕ → Names → List ℤ → ℕ → List IntOp → List Bool → Draft
coded c ns starts n ops es = record { stage = stage.Coded; cycle = c; names = ns; starts = starts; bits = n; ops = ops; ifs = es }

abbrev pub ended : ℕ → Names → List ℤ → ℕ → List IntOp → Draft
ended c ns starts n ops = record { stage = stage.Ended; cycle = c; names = ns; starts = starts; bits = n; ops = ops; ifs = [] }

-- Names of a kind: each is taken that is new, while there are fewer than the most, and that passes a test.
abbrev Takes-each : (List ℕ → Bool) → ℕ → (List (List ℕ) → Draft) → (List ℕ → Line) → Type 0
Takes-each ok most make f =
    (ns : List (List ℕ)) (n : List ℕ) → length ns < most → ok n ≡ true → list_any (bytes_eq n) ns ≡ false → step (make ns) (f n) ≡ Some (make (ns ++ n ∷ []))

run_list : (ok : List ℕ → Bool) (most : ℕ) (make : List (List ℕ) → Draft) (f : List ℕ → Line) → Takes-each ok most make f
    → (seen ns : List (List ℕ)) (rest : List Line) → length seen + length ns ≤ most → list_all ok ns ≡ true → differ_from seen ns ≡ true
    → run (make seen) (map f ns ++ rest) ≡ run (make (seen ++ ns)) rest
run_list ok most make f each seen [] rest few good h = ap (λ ns. run (make ns) rest) (sym (append-nil seen))
run_list ok most make f each seen (n ∷ ns) rest few good h =
    let new = not_true (list_any (bytes_eq n) seen) (and_parts (not (list_any (bytes_eq n) seen)) (differ_from (seen ++ n ∷ []) ns) h).0 in
    let others = (and_parts (not (list_any (bytes_eq n) seen)) (differ_from (seen ++ n ∷ []) ns) h).1 in
    let long = length-append seen (n ∷ []) in
    rw (each seen n (omega arith) (and_parts (ok n) (list_all ok ns) good).0 new)
    (run_list ok most make f each (seen ++ n ∷ []) ns rest (omega (arith, long)) (and_parts (ok n) (list_all ok ns) good).1 others
    ∙ ap (λ xs. run (make xs) rest) (append_assoc seen (n ∷ []) ns))

any_name : (ns : List (List ℕ)) → list_all (λ n. true) ns ≡ true
any_name [] = refl
any_name (n ∷ ns) = any_name ns

-- lists of names that have no limit
run_names : (make : List (List ℕ) → Draft) (f : List ℕ → Line)
    → ((ns : List (List ℕ)) (n : List ℕ) → list_any (bytes_eq n) ns ≡ false → step (make ns) (f n) ≡ Some (make (ns ++ n ∷ [])))
    → (ns : List (List ℕ)) (rest : List Line) → differ_from [] ns ≡ true → run (make []) (map f ns ++ rest) ≡ run (make ns) rest
run_names make f each ns rest h = run_list (λ n. true) (length ns) make f (λ ms m room ok new. each ms m new) [] ns rest (omega arith) (any_name ns) h

abbrev with_variables : Draft → List (List ℕ) → List ℤ → Draft
with_variables d vs starts = record d { stage = stage.Named; names = record d.names { variables = vs }; starts = starts }

pub run_variables : (d : Draft) (seen ns : List (List ℕ)) (values starts : List ℤ) (rest : List Line) → length starts ≡ length ns → differ_from seen ns ≡ true
    → run (with_variables d seen values) (variables ns starts ++ rest) ≡ run (with_variables d (seen ++ ns) (values ++ starts)) rest
run_variables d seen [] values [] rest same h = rw (append-nil, append-nil) refl
run_variables d seen [] values (v ∷ vs) rest same h = absurd (omega arith)
run_variables d seen (n ∷ ns) values [] rest same h = absurd (omega arith)
run_variables d seen (n ∷ ns) values (v ∷ vs) rest same h =
    let new = not_true (list_any (bytes_eq n) seen) (and_parts (not (list_any (bytes_eq n) seen)) (differ_from (seen ++ n ∷ []) ns) h).0 in
    let others = (and_parts (not (list_any (bytes_eq n) seen)) (differ_from (seen ++ n ∷ []) ns) h).1 in
    rw new (run_variables d (seen ++ n ∷ []) ns (values ++ v ∷ []) vs rest (omega arith) others
    ∙ ap (λ xs. run (with_variables d xs ((values ++ v ∷ []) ++ vs)) rest) (append_assoc seen (n ∷ []) ns)
    ∙ ap (λ ws. run (with_variables d (seen ++ (n ∷ ns)) ws) rest) (append_assoc values (v ∷ []) vs))

-- behind the variables come the names that are kept, or the number of bits
to_kept : (c : ℕ) (ns : Names) (starts : List ℤ) (rs ps : List (List ℕ)) (n : ℕ) (rest : List Line) → are_in ns.variables ns.analog ≡ true
    → run (named c ns starts) (map Relay rs ++ (map Persistent ps ++ (BitCount n ∷ rest))) ≡ run (kept c ns starts)
    (map Relay rs ++ (map Persistent ps ++ (BitCount n ∷ rest)))
to_kept c ns starts (r ∷ rs) ps n rest h = rw h refl
to_kept c ns starts [] (p ∷ ps) n rest h = rw h refl
to_kept c ns starts [] [] n rest h = rw h refl

run_ops : (c : ℕ) (ns : Names) (starts : List ℤ) (n : ℕ) (done : List IntOp) (es : List Bool) (ops : List IntOp) → All (IsInRange (sizes_with n ns)) ops
    → nests ops es ≡ true → run (coded c ns starts n done es) (map Operation ops ++ End ∷ []) ≡ Some (ended c ns starts n (done ++ ops))
run_ops c ns starts n done [] [] range h = ap (λ ops. Some (ended c ns starts n ops)) (sym (append-nil done))
run_ops c ns starts n done (e ∷ es) [] range h = absurd (false≢true h)
run_ops c ns starts n done es (op ∷ ops) range h =
    let behind = nests_behind (shape_of op) es (nests ops) h in
    let in_range = (range_decides (sizes_with n ns) op).1 (All-head (IsInRange (sizes_with n ns)) op ops range) in
    rw (in_range, behind.1)
    (run_ops c ns starts n (done ++ op ∷ []) behind.0 ops (All-tail (IsInRange (sizes_with n ns)) op ops range) behind.2
    ∙ ap (λ xs. Some (ended c ns starts n xs)) (append_assoc done (op ∷ []) ops))

-- where the names and the number of bits were read, the operations follow
run_bits : (c : ℕ) (ns : Names) (starts : List ℤ) (n : ℕ) (ops : List IntOp) → length ns.relays ≤ n → n ≤ MOST_BITS → All (IsInRange (sizes_with n ns)) ops
    → nests ops [] ≡ true
    → run (kept c ns starts) (BitCount n ∷ (Code ∷ (map Operation ops ++ End ∷ []))) ≡ Some (ended c ns starts n ops)
run_bits c ns starts n ops enough few range h = rw (has_relays, fits) (run_ops c ns starts n [] [] ops range h)
  where
    has_relays : nat_le (length ns.relays) n ≡ true
    has_relays = grind (arith, nat_tests)

    fits : nat_le n MOST_BITS ≡ true
    fits = grind (arith, nat_tests)

pub accepts : (cycle : ℕ) (names : Names) (program : IntProgram) → IsSound names program
    → run start (spelled cycle names program) ≡ Some (ended cycle (record names { memories = 0 }) program.starts program.bits program.ops)
accepts cycle names program sound =
    run_names (λ ns. named cycle (lists ns [] [] [] [] []) []) Input (λ ns n new. rw new refl) names.inputs outputs sound.inputs
    ∙ run_names (λ ns. named cycle (lists names.inputs ns [] [] [] []) []) Output (λ ns n new. rw new refl) names.outputs analogs sound.outputs
    ∙ run_names (λ ns. named cycle (lists names.inputs names.outputs ns [] [] []) []) Analog (λ ns n new. rw new refl) names.analog vars sound.analogs
    ∙ run_variables
    (named cycle (lists names.inputs names.outputs names.analog [] [] []) []) [] names.variables [] program.starts relays starts_count sound.variables
    ∙ to_kept cycle (lists names.inputs names.outputs names.analog names.variables [] []) program.starts names.relays names.persistent program.bits
    (Code ∷ ops) sound.analog_variables
    ∙ run_list (λ n. true) MOST_BITS (λ ns. kept cycle (lists names.inputs names.outputs names.analog names.variables ns []) program.starts) Relay each_relay
    [] names.relays persistent few_relays (any_name names.relays) sound.relays
    ∙ run_list (λ n. list_any (bytes_eq n) names.variables) MOST_PERSISTENT (λ ns. kept cycle (lists names.inputs names.outputs names.analog names.variables
    names.relays ns) program.starts) Persistent each_persistent [] names.persistent bits few_persistent sound.persistent_variables sound.persistent
    ∙ run_bits cycle (record names { memories = 0 }) program.starts program.bits program.ops sound.bit_count sound.few_bits range sound.well_formed.nests
  where
    ops : List Line
    ops = map Operation program.ops ++ End ∷ []

    bits : List Line
    bits = BitCount program.bits ∷ (Code ∷ ops)

    persistent : List Line
    persistent = map Persistent names.persistent ++ bits

    relays : List Line
    relays = map Relay names.relays ++ persistent

    vars : List Line
    vars = variables names.variables program.starts ++ relays

    analogs : List Line
    analogs = map Analog names.analog ++ vars

    outputs : List Line
    outputs = map Output names.outputs ++ analogs

    starts_count : length program.starts ≡ length names.variables
    starts_count = sound.well_formed.starts ∙ sound.variable_count

    few_relays : 0 + length names.relays ≤ MOST_BITS
    few_relays = omega (arith, sound.bit_count, sound.few_bits)

    few_persistent : 0 + length names.persistent ≤ MOST_PERSISTENT
    few_persistent = omega (arith, sound.few_persistent, sound.persistent_count)

    each_relay : (ns : List (List ℕ)) (n : List ℕ) → length ns < MOST_BITS → true ≡ true → list_any (bytes_eq n) ns ≡ false →
        step (kept cycle (lists names.inputs names.outputs names.analog names.variables ns []) program.starts) (Relay n) ≡ Some
        (kept cycle (lists names.inputs names.outputs names.analog names.variables (ns ++ n ∷ []) []) program.starts)
    each_relay ns n room ok new = let few : nat_lt (length ns) MOST_BITS ≡ true = grind (arith, nat_tests) in rw (few, new) refl

    each_persistent : (ns : List (List ℕ)) (n : List ℕ) → length ns < MOST_PERSISTENT → list_any (bytes_eq n) names.variables ≡ true →
        list_any (bytes_eq n) ns ≡ false → step (kept cycle (lists names.inputs names.outputs names.analog names.variables names.relays ns) program.starts)
        (Persistent n) ≡ Some (kept cycle (lists names.inputs names.outputs names.analog names.variables names.relays (ns ++ n ∷ [])) program.starts)
    each_persistent ns n room ok new = let few : nat_lt (length ns) MOST_PERSISTENT ≡ true = grind (arith, nat_tests) in rw (ok, few, new) refl

    same : sizes_of program ≡ sizes_with program.bits names
    same = rw (sound.output_count, sound.input_count, sound.analog_count, sound.variable_count, sound.persistent_count) refl

    range : All (IsInRange (sizes_with program.bits names)) program.ops
    range = let P : Sizes → Type 0 = λ n. All (IsInRange n) program.ops in subst P same sound.well_formed.range

pub says_ends : (ls : List (List ℕ)) (p : InterpProgram) → Says ls p
    → read start ls ≡ Some (ended p.cycle (record p.names { memories = 0 }) p.program.starts p.program.bits p.program.ops)
says_ends ls p says = read_said start ls (spelled p.cycle p.names p.program) says.spelled ∙ accepts p.cycle p.names p.program says.sound

-- no text goes on behind lines that are not read
pub dead : (ls : List (List ℕ)) → read start ls ≡ None → Begins (λ xs. (p : InterpProgram) × Says xs p) ls → ⊥
dead ls none begins =
    let whole = says_ends (ls ++ begins.0) begins.1.0 begins.1.1 in
    let parts = read-append start ls begins.0 in
    let nothing : option_and_then (λ e. read e begins.0) (read start ls) ≡ None = rw none refl in
    absurd cc
