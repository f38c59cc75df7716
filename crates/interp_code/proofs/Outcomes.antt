-- What the reading of lines says of a text.
use Rattle.std.proofs.Common.{◌≡◌, ◌⊎◌, ℕ, ◌+◌, ◌-◌, ◌<◌, ◌≤◌, Bool, true, false, if◌then◌else◌, nat_le, ◌==◌, List, [], ◌∷◌, ◌++◌, length, map, take, drop, Option, Some, None, ℤ, refl, sym, ap, ◌∙◌, subst, inl, inr, append_assoc, arith, length-append}
use Rattle.std.proofs.lemmas.List.{map-append, append-nil, take-append-drop, length-map, length-take}
use Rattle.std.proofs.Math.Seq.{take-append_seam}
use Rattle.std.proofs.lemmas.Bool.Decides.{nat_tests}
use Rattle.std.proofs.lemmas.Bool.{false≢true}
use Rattle.std.specs.Option.{option_and_then}
use Rattle.texts.specs.Lines.{onto, lines}
use Rattle.texts.specs.Limits.{judged, is_over}
use Rattle.texts.specs.declared.limits.TheConstants.{CODE_BYTES}
use Rattle.texts.specs.Begins.{Begins}
use Rattle.texts.proofs.LimitLemmas.{judged_all}
use Rattle.interp_code.specs.declared.program.InterpProgram.{InterpProgram}
use Rattle.interp_code.specs.declared.reader.Stage.{Stage}
use Rattle.interp_code.specs.declared.reader.Stage.TheVariants as stage
use Rattle.int_code.specs.declared.op.IntOp.{IntOp}
use Rattle.int_code.specs.declared.op.IntOp.TheVariants.{Fi}
use Rattle.int_code.specs.WellFormed.{nests}
use Rattle.interp_code.specs.Line.{Line, Magic, Cycle, Input, Output, Analog, Relay, Persistent, BitCount, Code, Operation, End, line_of}
use Rattle.interp_code.specs.Text.{variables, line_text}
use Rattle.int_code.specs.declared.limits.TheConstants.{MOST_OPERATIONS, MOST_BITS}
use Rattle.interp_code.specs.Program.{are_in, Says, IsProgram}
use Rattle.ladder_tree.specs.declared.names.Names.{Names}
use Rattle.ladder_tree.specs.Names.{is_name_within}
use Rattle.interp_code.specs.Refused.{operations_of, operations_in, IsBegun, IsRefusedAt}
use Rattle.texts.specs.Keys.{Takes}
use Rattle.interp_code.specs.Draft.{Draft, is_ended, start, step, step_line, read}
use Rattle.interp_code.specs.Held.{name_count, program_of}
use Rattle.interp_code.specs.Outcome.{IsStopped}
use Rattle.interp_code.proofs.ReadsBack.{magic_reads, cycle_reads, bits_reads, code_reads, fi_reads, end_reads}
use Rattle.interp_code.proofs.WholeText.{AllRead, AllRead-append, variables_read}
use Rattle.interp_code.proofs.SaidLines.{in_form}
use Rattle.interp_code.proofs.MissingLemmas.{missing, zeros, zeros_count, zeros_short, missing_differ, missing_pass, missing_complete}
use Rattle.interp_code.proofs.Reading.{run, read_said, read-append, run_variables, says_ends, dead, coded}
use Rattle.interp_code.proofs.Growing.{written, written_at, Good, GoodAt, GoodNames, good_start, Grown, Grows, grow}

pub took : {A : Type 0} (o : Option A) (b : Bool) (a : A) → Takes o b a → b ≡ true → o ≡ Some a
took o true a h is = h
took o false a h is = absurd cc

pub missed : {A : Type 0} (o : Option A) (b : Bool) (a : A) → Takes o b a → b ≡ false → o ≡ None
missed o false a h is = h
missed o true a h is = absurd cc

and_some : (o : Option Draft) → option_and_then (λ e. read e []) o ≡ o
and_some None = refl
and_some (Some e) = refl

pub read_push : (d : Draft) (passed : List (List ℕ)) (line : List ℕ) (o : Option Draft) → read start passed ≡ Some d → step_line d line ≡ o
    → read start (passed ++ line ∷ []) ≡ o
read_push d passed line o h k = read-append start passed (line ∷ []) ∙ rw h (and_some (step_line d line) ∙ k)

front : (ls passed rest : List (List ℕ)) (n : ℕ) → ls ≡ passed ++ rest → n ≡ length passed → take n ls ≡ passed
front ls passed rest n h e = rw (e, h) (take-append_seam passed rest)

stops : (ls passed rest : List (List ℕ)) (line : List ℕ) (n : ℕ) (d : Draft) → ls ≡ passed ++ (line ∷ rest) → n ≡ length passed → read start passed ≡ Some d
    → length d.ops ≤ MOST_OPERATIONS
    → (read start (passed ++ line ∷ []) ≡ None) ⊎ ((e : Draft) × (read start (passed ++ line ∷ []) ≡ Some e) × (MOST_OPERATIONS < length e.ops))
    → IsStopped ls (n + 1)
stops ls passed rest line n d parts count before few cause = record {
  some = omega arith;
  within = let size = ap length parts ∙ length-append passed (line ∷ rest) in omega (arith, size);
  last = d;
  before = ap (read start) (front ls passed (line ∷ rest) (n + 1 - 1) parts (omega arith)) ∙ before;
  few = few;
  cause = rw with_it cause;
}
  where
    with_it : take (n + 1) ls ≡ passed ++ line ∷ []
    with_it =
        let size = length-append passed (line ∷ []) in
        front ls (passed ++ line ∷ []) rest (n + 1) (parts ∙ sym (append_assoc passed (line ∷ []) rest)) (omega (arith, size))

pub stops_unread : (ls passed rest : List (List ℕ)) (line : List ℕ) (n : ℕ) (d : Draft) → ls ≡ passed ++ (line ∷ rest) → n ≡ length passed
    → read start passed ≡ Some d → length d.ops ≤ MOST_OPERATIONS → step_line d line ≡ None → IsStopped ls (n + 1)
stops_unread ls passed rest line n d parts count before few none =
    stops ls passed rest line n d parts count before few (inl (read_push d passed line None before none))

pub stops_past : (ls passed rest : List (List ℕ)) (line : List ℕ) (n : ℕ) (d e : Draft) → ls ≡ passed ++ (line ∷ rest) → n ≡ length passed
    → read start passed ≡ Some d → length d.ops ≤ MOST_OPERATIONS → step_line d line ≡ Some e → MOST_OPERATIONS < length e.ops → IsStopped ls (n + 1)
stops_past ls passed rest line n d e parts count before few read over =
    stops ls passed rest line n d parts count before few (inr (e, read_push d passed line (Some e) before read, over))

-- What was read, and how many of its lines are operations.

pub record GrownBy (d : Draft) (ls : List (List ℕ)) (e : Draft) : Type 0 where
  pub more : map Some (written e) ≡ map Some (written d) ++ map line_of ls
  pub count : length e.ops ≡ length d.ops + operations_in ls
  pub good : Good e

abbrev GrowsBy : Draft → List (List ℕ) → Option Draft → Type 0
GrowsBy d ls None = Unit {0}
GrowsBy d ls (Some e) = GrownBy d ls e

grown_on : (d : Draft) (l : List ℕ) (x : Line) (f : Draft) (ls : List (List ℕ)) (e : Draft) → line_of l ≡ Some x → Grown d x f → GrownBy f ls e
    → GrownBy d (l ∷ ls) e
grown_on d l x f ls e said g h = record {
  more = h.more ∙ ap (λ xs. xs ++ map line_of ls) (ap (map Some) g.more ∙ map-append Some (written d) (x ∷ []))
      ∙ append_assoc (map Some (written d)) (Some x ∷ []) (map line_of ls)
      ∙ ap (λ o. map Some (written d) ++ (o ∷ map line_of ls)) (sym said);
  count =
      let same : operations_of (line_of l) ≡ operations_of (Some x) = ap operations_of said in
      let first = g.count in
      let others = h.count in
      omega arith;
  good = h.good;
}

pub grows_by : (ls : List (List ℕ)) (d : Draft) → Good d → GrowsBy d ls (read d ls)
grows_by [] d g = record { more = sym (append-nil (map Some (written d))); count = omega arith; good = g }
grows_by (l ∷ ls) d g = by_line (line_of l) refl (λ f h. grows_by ls f h)
  where
    by_rest : (x : Line) (f : Draft) → line_of l ≡ Some x → Grown d x f → (q : Option Draft) → GrowsBy f ls q → GrowsBy d (l ∷ ls) q
    by_rest x f said h None more = tt
    by_rest x f said h (Some e) more = grown_on d l x f ls e said h more

    by_step : (x : Line) → line_of l ≡ Some x → (p : Option Draft) → Grows d x p → ((f : Draft) → Good f → GrowsBy f ls (read f ls))
        → GrowsBy d (l ∷ ls) (option_and_then (λ f. read f ls) p)
    by_step x said None h more = tt
    by_step x said (Some f) h more = by_rest x f said h (read f ls) (more f h.good)

    by_line : (o : Option Line) → line_of l ≡ o → ((f : Draft) → Good f → GrowsBy f ls (read f ls))
        → GrowsBy d (l ∷ ls) (option_and_then (λ f. read f ls) (option_and_then (step d) o))
    by_line None said more = tt
    by_line (Some x) said more = by_step x said (step d x) (grow d.stage d x (in_form l x said) g) more

pub grown_by : (ls : List (List ℕ)) (d e : Draft) → Good d → read d ls ≡ Some e → GrownBy d ls e
grown_by ls d e g h = let P : Option Draft → Type 0 = GrowsBy d ls in subst P h (grows_by ls d g)

-- How a text may go on.

fis : List Bool → List Line
fis [] = []
fis (e ∷ es) = Operation Fi ∷ fis es

abbrev ending_at : Stage → Draft → List Line
ending_at stage.Start d = Magic ∷ (Cycle 0 ∷ (BitCount 0 ∷ (Code ∷ (End ∷ []))))
ending_at stage.Headed d = Cycle 0 ∷ (BitCount 0 ∷ (Code ∷ (End ∷ [])))
ending_at stage.Named d =
    variables (missing d.names.variables d.names.analog) (zeros (missing d.names.variables d.names.analog)) ++
    (BitCount (length d.names.relays) ∷ (Code ∷ (End ∷ [])))
ending_at stage.Kept d = BitCount (length d.names.relays) ∷ (Code ∷ (End ∷ []))
ending_at stage.Sized d = Code ∷ (End ∷ [])
ending_at stage.Coded d = fis d.ifs ++ End ∷ []
ending_at stage.Ended d = []

fis_read : (es : List Bool) → AllRead (fis es)
unfolding fis
fis_read [] = tt
fis_read (e ∷ es) = (fi_reads, fis_read es)

sized_reads : (ns : List (List ℕ)) → length ns ≤ MOST_BITS → AllRead (BitCount (length ns) ∷ (Code ∷ (End ∷ [])))
sized_reads ns few = (bits_reads (length ns) (omega arith), (code_reads, (end_reads, tt)))

ending_reads : (s : Stage) (d : Draft) → GoodNames d.names d.starts → AllRead (ending_at s d)
ending_reads stage.Start d g = (magic_reads, (cycle_reads 0 (omega arith), (bits_reads 0 (omega arith), (code_reads, (end_reads, tt)))))
ending_reads stage.Headed d g = (cycle_reads 0 (omega arith), (bits_reads 0 (omega arith), (code_reads, (end_reads, tt))))
ending_reads stage.Named d g =
    let more = missing d.names.variables d.names.analog in
    AllRead-append (variables more (zeros more)) (BitCount (length d.names.relays) ∷ (Code ∷ (End ∷ [])))
    (variables_read more (zeros more) (missing_pass (is_name_within 66) d.names.variables d.names.analog g.analog_names) (zeros_short more))
    (sized_reads d.names.relays g.few_relays)
ending_reads stage.Kept d g = sized_reads d.names.relays g.few_relays
ending_reads stage.Sized d g = (code_reads, (end_reads, tt))
ending_reads stage.Coded d g = AllRead-append (fis d.ifs) (End ∷ []) (fis_read d.ifs) (end_reads, tt)
ending_reads stage.Ended d g = tt

abbrev Ends : Option Draft → Type 0
Ends o = (e : Draft) × (o ≡ Some e) × (e.stage ≡ stage.Ended)

at_coded : (c : ℕ) (ns : Names) (starts : List ℤ) (n : ℕ) (ops : List IntOp) (es : List Bool) → Ends (run (coded c ns starts n ops es) (fis es ++ End ∷ []))
unfolding fis
at_coded c ns starts n ops [] = (_, refl, refl)
at_coded c ns starts n ops (e ∷ es) = at_coded c ns starts n (ops ++ Fi ∷ []) es

at_start_of_ops : (d : Draft) → d.ifs ≡ [] → Ends (run (record d { stage = stage.Sized }) (Code ∷ (End ∷ [])))
at_start_of_ops d h = rw h (_, refl, refl)

-- the number of bits ends the names, be it behind variables or behind names that are kept
at_bits : (d : Draft) → length d.names.relays ≤ MOST_BITS → d.ifs ≡ []
    → Ends (run (record d { stage = stage.Kept }) (BitCount (length d.names.relays) ∷ (Code ∷ (End ∷ []))))
at_bits d few h = rw (enough, fits, h) (_, refl, refl)
  where
    enough : nat_le (length d.names.relays) (length d.names.relays) ≡ true
    enough = grind (arith, nat_tests)

    fits : nat_le (length d.names.relays) MOST_BITS ≡ true
    fits = grind (arith, nat_tests)

at_bits_named : (d : Draft) → are_in d.names.variables d.names.analog ≡ true → length d.names.relays ≤ MOST_BITS → d.ifs ≡ []
    → Ends (run (record d { stage = stage.Named }) (BitCount (length d.names.relays) ∷ (Code ∷ (End ∷ []))))
at_bits_named d all few h = rw all (at_bits d few h)

at_named : (d : Draft) → length d.names.relays ≤ MOST_BITS → d.ifs ≡ [] → Ends (run (record d { stage = stage.Named }) (ending_at stage.Named d))
at_named d few h =
    let more = missing d.names.variables d.names.analog in
    let vs = d.names.variables ++ more in
    let through = run_variables d d.names.variables more d.starts (zeros more) (BitCount (length d.names.relays) ∷ (Code ∷ (End ∷ []))) (zeros_count more)
    (missing_differ d.names.variables d.names.analog) in
    rw through (at_bits_named (record d { names = record d.names { variables = vs }; starts = d.starts ++ zeros more })
    (missing_complete d.names.variables d.names.analog) few h)

ending_ends : (s : Stage) (d : Draft) → Good (record d { stage = s }) → Ends (run (record d { stage = s }) (ending_at s d))
ending_ends stage.Start d g = rw (g.at.variables, g.at.analogs, g.at.relays, g.at.ifs) (_, refl, refl)
ending_ends stage.Headed d g = rw (g.at.variables, g.at.analogs, g.at.relays, g.at.ifs) (_, refl, refl)
ending_ends stage.Named d g = at_named d g.names.few_relays g.at.3
ending_ends stage.Kept d g = at_bits d g.names.few_relays g.at.2
ending_ends stage.Sized d g = at_start_of_ops d g.at.2
ending_ends stage.Coded d g = at_coded d.cycle d.names d.starts d.bits d.ops d.ifs
ending_ends stage.Ended d g = (_, refl, refl)

texts_say : (xs : List Line) → AllRead xs → map line_of (map line_text xs) ≡ map Some xs
texts_say [] h = refl
texts_say (x ∷ xs) h = ap (λ o. o ∷ map line_of (map line_text xs)) h.0.of ∙ ap (λ os. Some x ∷ os) (texts_say xs h.1)

-- a text goes on behind what was read
says_whole : (ls : List (List ℕ)) (e : Draft) → GrownBy start ls e → e.stage ≡ stage.Ended → Says ls (program_of e)
says_whole ls e g ended = record {
  spelled = sym g.more ∙ ap (λ s. map Some (written_at s e)) ended;
  sound = record {
    inputs = g.good.names.inputs;
    outputs = g.good.names.outputs;
    analogs = g.good.names.analogs;
    variables = g.good.names.variables;
    relays = g.good.names.relays;
    persistent = g.good.names.persistent;
    analog_variables = at.0.analog_variables;
    persistent_variables = g.good.names.persistent_variables;
    input_count = refl;
    output_count = refl;
    analog_count = refl;
    variable_count = refl;
    persistent_count = refl;
    few_persistent = g.good.names.few_persistent;
    bit_count = at.0.enough;
    few_bits = at.0.few;
    well_formed = record { nests = nesting; range = g.good.operations.range; kept = omega arith; starts = g.good.names.starts };
  };
  whole = refl;
}
  where
    at : GoodAt stage.Ended e
    at = let P : Stage → Type 0 = λ s. GoodAt s e in subst P ended g.good.at

    nesting : nests e.ops [] ≡ true
    nesting = ap (λ ops. nests ops []) (sym (append-nil e.ops)) ∙ g.good.operations.open_ifs [] ∙ ap (nests []) at.1

goes_on : (ls : List (List ℕ)) (d : Draft) → read start ls ≡ Some d → GrownBy start ls d → Begins (λ xs. (p : InterpProgram) × Says xs p) ls
goes_on ls d h g =
    let ends = ending_ends d.stage d g.good in
    let reads = ending_reads d.stage d g.good.names in
    let more = map line_text (ending_at d.stage d) in
    let whole : read start (ls ++ more) ≡ Some ends.0 =
    read-append start ls more ∙ ap (option_and_then (λ e. read e more)) h
    ∙ read_said d more (ending_at d.stage d) (texts_say (ending_at d.stage d) reads) ∙ ends.1 in
    (more, (program_of ends.0, says_whole (ls ++ more) ends.0 (grown_by (ls ++ more) start ends.0 good_start whole) ends.2))

-- the lines in front of lines that were read begin a text
pub front_begun : (a b : List (List ℕ)) (e : Draft) → read start (a ++ b) ≡ Some e → length e.ops ≤ MOST_OPERATIONS → IsBegun a
front_begun a b e h few = by (read start a) refl
  where
    at_front : (d : Draft) → read start a ≡ Some d → IsBegun a
    at_front d k =
        let left = grown_by a start d good_start k in
        let right = grown_by b d e left.good (sym (ap (option_and_then (λ f. read f b)) k) ∙ sym (read-append start a b) ∙ h) in
        let count = left.count in
        let others = right.count in
        record { goes_on = goes_on a d k left; few = omega arith }

    by : (o : Option Draft) → read start a ≡ o → IsBegun a
    by None k = absurd (let none : read start (a ++ b) ≡ None = read-append start a b ∙ rw k refl in let some = h in cc)
    by (Some d) k = at_front d k

pub begun : (ls : List (List ℕ)) (d : Draft) → read start ls ≡ Some d → length d.ops ≤ MOST_OPERATIONS → IsBegun ls
begun ls d h few = front_begun ls [] d (ap (read start) (append-nil ls) ∙ h) few

-- the line at which the reading stopped is refused
pub stopped_refused : (over : Bool) (ls : List (List ℕ)) (line : ℕ) → IsStopped ls line → IsRefusedAt over ls line
stopped_refused over ls line s = record {
  before = begun (take (line - 1) ls) s.last s.before s.few;
  cause = inl (s.some, s.within, λ b. by b s.cause);
}
  where
    by : IsBegun (take line ls) → (read start (take line ls) ≡ None) ⊎ ((e : Draft) × (read start (take line ls) ≡ Some e) × (MOST_OPERATIONS < length e.ops))
        → ⊥
    by b (inl none) = dead (take line ls) none b.goes_on
    by b (inr past) =
        let g = grown_by (take line ls) start past.0 good_start past.1 in
        let count = g.count in
        let few = b.few in
        let over = past.2 in
        omega arith

-- the last line of a text that is too long is refused, if none was before
pub long_refused : (ls : List (List ℕ)) (d : Draft) → 0 < length ls → read start ls ≡ Some d → length d.ops ≤ MOST_OPERATIONS → IsRefusedAt true ls (length ls)
long_refused ls d some h few = record {
  before = front_begun (take (length ls - 1) ls) (drop (length ls - 1) ls) d (ap (read start) (take-append-drop (length ls - 1) ls) ∙ h) few;
  cause = inr (inl (refl, some, refl));
}

not_ended : (d e : Draft) → Some d ≡ Some e → is_ended d.stage ≡ false → e.stage ≡ stage.Ended → ⊥
not_ended d e same h ended =
    let stages : d.stage ≡ e.stage = ap (λ f. f.stage) (let one : d ≡ e = cc in one) in
    let b : is_ended d.stage ≡ true = ap is_ended (stages ∙ ended) in
    cc

-- a text that ends before its `end` is refused behind its last line
pub short_refused : (ls : List (List ℕ)) (d : Draft) → read start ls ≡ Some d → length d.ops ≤ MOST_OPERATIONS → is_ended d.stage ≡ false
    → IsRefusedAt false ls (length ls + 1)
short_refused ls d h few open_end = record {
  before = ap_begun (begun ls d h few);
  cause = inr (inr (refl, refl, λ w. not_ended d _ (sym h ∙ says_ends ls w.0 w.1.says) open_end refl));
}
  where
    all : take (length ls) ls ≡ ls
    all = ap (take (length ls)) (sym (append-nil ls)) ∙ take-append_seam ls []

    ap_begun : IsBegun ls → IsBegun (take (length ls + 1 - 1) ls)
    ap_begun b =
        let size : length ls + 1 - 1 ≡ length ls = omega arith in
        rw (size, all) b

stage_ended : (s : Stage) → is_ended s ≡ true → s ≡ stage.Ended
stage_ended stage.Ended h = refl
stage_ended s h = absurd (false≢true h)

-- a text that ends with its `end` is a program's
pub whole_read : (ls : List (List ℕ)) (d : Draft) → read start ls ≡ Some d → length d.ops ≤ MOST_OPERATIONS → is_ended d.stage ≡ true
    → IsProgram ls (program_of d)
whole_read ls d h few end_read = record {
  says = says_whole ls d (grown_by ls start d good_start h) (stage_ended d.stage end_read);
  few = few;
}

length-variables : (ns : List (List ℕ)) (values : List ℤ) → length values ≡ length ns → length (variables ns values) ≡ length ns
length-variables [] values h = refl
length-variables (n ∷ ns) [] h = absurd (omega arith)
length-variables (n ∷ ns) (v ∷ vs) h = let rest = length-variables ns vs (omega arith) in omega arith

mapped : {A : Type 0} (f : A → Line) (xs : List A) (rest : List Line) → length (map f xs ++ rest) ≡ length xs + length rest
mapped f xs rest = length-append (map f xs) rest ∙ ap (λ k. k + length rest) (length-map xs f)

lengths : (d : Draft) → length d.starts ≡ length d.names.variables → length (written_at stage.Ended d) ≡ 5 + (name_count d.names + length d.ops)
lengths d same =
    let a = mapped Input d.names.inputs outputs in
    let b = mapped Output d.names.outputs analogs in
    let c = mapped Analog d.names.analog vars in
    let e = length-append (variables d.names.variables d.starts) relays in
    let f = length-variables d.names.variables d.starts same in
    let g = mapped Relay d.names.relays persistent in
    let h = mapped Persistent d.names.persistent bits in
    let i = mapped Operation d.ops (End ∷ []) in
    omega arith
  where
    bits : List Line
    bits = BitCount d.bits ∷ (Code ∷ (map Operation d.ops ++ End ∷ []))

    persistent : List Line
    persistent = map Persistent d.names.persistent ++ bits

    relays : List Line
    relays = map Relay d.names.relays ++ persistent

    vars : List Line
    vars = variables d.names.variables d.starts ++ relays

    analogs : List Line
    analogs = map Analog d.names.analog ++ vars

    outputs : List Line
    outputs = map Output d.names.outputs ++ analogs

-- how many lines a text has
pub whole_length : (ls : List (List ℕ)) (d : Draft) → read start ls ≡ Some d → is_ended d.stage ≡ true → length ls ≡ 5 + (name_count d.names + length d.ops)
whole_length ls d h end_read =
    let g = grown_by ls start d good_start h in
    let same : map line_of ls ≡ map Some (written_at stage.Ended d) = sym g.more ∙ ap (λ s. map Some (written_at s d)) (stage_ended d.stage end_read) in
    sym (length-map ls line_of) ∙ ap length same ∙ length-map (written_at stage.Ended d) Some ∙ lengths d g.good.names.starts

-- The text as it is judged.

lines_some : (text : List ℕ) → 0 < length text → 0 < length (lines text)
lines_some [] some = absurd (omega arith)
lines_some (b ∷ bs) some = by (b == 10)
  where
    front_some : (ls : List (List ℕ)) → 0 < length (onto b ls)
    front_some [] = omega arith
    front_some (l ∷ ls) = omega arith

    by : (t : Bool) → 0 < length (if t then [] ∷ lines bs else onto b (lines bs))
    by true = omega arith
    by false = front_some (lines bs)

judged_some : (text : List ℕ) → CODE_BYTES < length text → 0 < length (judged CODE_BYTES text)
judged_some text h = let size = length-take (CODE_BYTES + 1) text in omega (arith, size)

pub long_text : (text : List ℕ) (d : Draft) (n : ℕ) → CODE_BYTES < length text → read start (lines (judged CODE_BYTES text)) ≡ Some d
    → length d.ops ≤ MOST_OPERATIONS
    → n ≡ length (lines (judged CODE_BYTES text)) → IsRefusedAt (is_over CODE_BYTES text) (lines (judged CODE_BYTES text)) n
long_text text d n over h few e =
    let ls = lines (judged CODE_BYTES text) in
    rw (over_it, e) (long_refused ls d (lines_some (judged CODE_BYTES text) (judged_some text over)) h few)
  where
    over_it : is_over CODE_BYTES text ≡ true
    over_it = grind (arith, nat_tests)

pub short_text : (text : List ℕ) (d : Draft) (n : ℕ) → length text ≤ CODE_BYTES → read start (lines (judged CODE_BYTES text)) ≡ Some d
    → length d.ops ≤ MOST_OPERATIONS → is_ended d.stage ≡ false
    → n ≡ length (lines (judged CODE_BYTES text)) → IsRefusedAt (is_over CODE_BYTES text) (lines (judged CODE_BYTES text)) (n + 1)
short_text text d n within h few open_end e = rw (not_over, e) (short_refused (lines (judged CODE_BYTES text)) d h few open_end)
  where
    not_over : is_over CODE_BYTES text ≡ false
    not_over = grind (arith, nat_tests)

-- a text of which all lines were read is refused at its last, or behind it
pub behind_refused : (text : List ℕ) (d : Draft) (n line : ℕ) → read start (lines (judged CODE_BYTES text)) ≡ Some d → length d.ops ≤ MOST_OPERATIONS
    → n ≡ length (lines (judged CODE_BYTES text))
    → ((CODE_BYTES < length text) × (line ≡ n)) ⊎ ((length text ≤ CODE_BYTES) × (is_ended d.stage ≡ false) × (line ≡ n + 1))
    → IsRefusedAt (is_over CODE_BYTES text) (lines (judged CODE_BYTES text)) line
behind_refused text d n line h few e (inl long) = rw long.1 (long_text text d n long.0 h few e)
behind_refused text d n line h few e (inr early) = rw early.2 (short_text text d n early.0 h few early.1 e)

pub whole_text : (text : List ℕ) (d : Draft) → length text ≤ CODE_BYTES → read start (lines (judged CODE_BYTES text)) ≡ Some d → length d.ops ≤ MOST_OPERATIONS
    → is_ended d.stage ≡ true
    → IsProgram (lines text) (program_of d)
whole_text text d within h few end_read = whole_read (lines text) d (ap (λ t. read start (lines t)) (sym (judged_all CODE_BYTES text within)) ∙ h) few end_read
