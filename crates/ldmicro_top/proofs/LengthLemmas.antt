-- The text of a lowered project is far shorter than a text may be.
use Rattle.std.proofs.Common.{◌≡◌, ℕ, ◌+◌, ◌*◌, ◌≤◌, ℤ, Bool, true, false, not, ◌&&◌, nat_le, List, [], ◌∷◌, ◌++◌, length, map, refl, ap, arith, codes, decimal, All, length-append, lit<}
use Rattle.std.proofs.lemmas.Bool.{and_parts}
use Rattle.std.proofs.lemmas.Bool.Decides.{nat_tests}
use Rattle.std.proofs.lemmas.Fmt.{length-decimal-le}
use Rattle.std.proofs.lemmas.List.Elements.{All-nil, All-cons, All-head, All-tail}
use Rattle.std.specs.Fmt.{signed_decimal}
use Rattle.std.specs.List.{list_all}
use Rattle.texts.specs.Lines.{joined}
use Rattle.ladder_tree.specs.Leaves.{all_leaves}
use Rattle.ladder_tree.specs.declared.element.Leaf as leaf
use Rattle.ladder_tree.specs.declared.names.Names.{Names}
use Rattle.ladder_tree.specs.declared.project.Project.{Project}
use Rattle.ladder_tree.specs.Names.{is_name_byte, is_name_within}
use Rattle.texts.specs.Digits.{is_digit}
use Rattle.texts.specs.declared.limits.TheConstants.{CODE_BYTES}
use Rattle.int_code.specs.declared.op.IntProgram.{IntProgram}
use Rattle.int_code.specs.Text.{op_words}
use Rattle.int_code.specs.WellFormed.{sizes_of}
use Rattle.int_code.specs.Literals.{IsNumber, AllHoldNumbers}
use Rattle.ladder_meaning.specs.Cycle.{start_number}
use Rattle.ladder_lower.specs.Fit.{all_fit}
use Rattle.ladder_lower.specs.Outcome.{HasSizes, IsSmall, HasRoom}
use Rattle.ladder_lower.proofs.LengthLemmas.{AreShort, signed_short, ops_short}
use Rattle.ladder_lower.proofs.LiteralLemmas.{start_is_number}
use Rattle.interp_code.specs.Line.{Magic, Cycle, BitCount, Code}
use Rattle.interp_code.specs.Text.{variables, line_text, interp_text}
use Rattle.interp_code.specs.Program.{IsWritable}
use Rattle.interp_code.proofs.TextLemmas.{parts_written}
use Rattle.ldmicro_top.proofs.RoomLemmas.{Few}

last_of : (a b c : Bool) → a && (b && c) ≡ true → c ≡ true
last_of true true c h = h
last_of true false c h = cc
last_of false b c h = cc

within : (n : ℕ) → nat_le n 66 ≡ true → n ≤ 66
within n h = grind (arith, nat_tests)

name_short : (name : List ℕ) → is_name_within 66 name ≡ true → length name ≤ 66
name_short [] h = omega arith
name_short (b ∷ bs) h = within (length (b ∷ bs)) (last_of (not (is_digit b)) (list_all is_name_byte (b ∷ bs)) (nat_le (length (b ∷ bs)) 66) h)

names_short : (word : List ℕ) (names : List (List ℕ)) → length word ≤ 8 → list_all (is_name_within 66) names ≡ true
    → length (joined (map (λ n. word ++ n) names)) ≤ 75 * length names
names_short word [] w h = omega arith
names_short word (n ∷ ns) w h =
    let one = name_short n (and_parts (is_name_within 66 n) _ h).0 in
    let more = names_short word ns w (and_parts (is_name_within 66 n) _ h).1 in
    omega (arith, length-append word n, length-append (word ++ n) (10 ∷ joined (map (λ n. word ++ n) ns)))

-- a line more for each variable
variables_short : (names : List (List ℕ)) (starts : List ℤ) → list_all (is_name_within 66) names ≡ true → All IsNumber starts
    → length (joined (map line_text (variables names starts))) ≤ 80 * length names
variables_short [] starts h n = omega arith
variables_short (name ∷ names) [] h n = omega arith
variables_short (name ∷ names) (z ∷ zs) h n =
    let one = name_short name (and_parts (is_name_within 66 name) _ h).0 in
    let digits = signed_short z (All-head IsNumber z zs n) in
    let more = variables_short names zs (and_parts (is_name_within 66 name) _ h).1 (All-tail IsNumber z zs n) in
    let rest = joined (map line_text (variables names zs)) in
    omega (
      arith,
      one,
      digits,
      more,
      length-append (codes "var " ++ (name ++ (codes " " ++ signed_decimal z))) (10 ∷ rest),
      length-append (codes "var ") (name ++ (codes " " ++ signed_decimal z)),
      length-append name (codes " " ++ signed_decimal z),
      length-append (codes " ") (signed_decimal z),
    )

starts_numbers : (cycle : ℕ) (ls : List leaf.Leaf) (names : List (List ℕ)) → all_fit cycle ls ≡ true → All IsNumber (map (start_number cycle ls) names)
starts_numbers cycle ls [] h = All-nil IsNumber
starts_numbers cycle ls (n ∷ ns) h =
    All-cons IsNumber (start_number cycle ls n) (map (start_number cycle ls) ns) (start_is_number cycle ls n h) (starts_numbers cycle ls ns h)

head_short : (cycle : ℕ) → cycle ≤ 999999999 → length (joined (map line_text (Magic ∷ (Cycle cycle ∷ [])))) ≤ 100
head_short cycle le =
    let d = length-decimal-le 10 cycle (lit< tt) (omega arith) (omega arith) in
    omega (arith, length-append (codes "cycle " ++ decimal cycle) (10 ∷ []))

sizes_short : (bits : ℕ) → bits ≤ 100000 → length (joined (map line_text (BitCount bits ∷ (Code ∷ [])))) ≤ 100
sizes_short bits le =
    let d = length-decimal-le 10 bits (lit< tt) (omega arith) (omega arith) in
    omega (arith, length-append (codes "bits " ++ decimal bits) (10 ∷ (codes "code" ++ 10 ∷ [])))

module _ (a b c d e f g h i : List ℕ) where
  nine_parts : length (a ++ (b ++ (c ++ (d ++ (e ++ (f ++ (g ++ (h ++ i))))))))
      ≡ length a + (length b + (length c + (length d + (length e + (length f + (length g + (length h + length i)))))))
  nine_parts = omega (
    arith,
    length-append a (b ++ (c ++ (d ++ (e ++ (f ++ (g ++ (h ++ i))))))),
    length-append b (c ++ (d ++ (e ++ (f ++ (g ++ (h ++ i)))))),
    length-append c (d ++ (e ++ (f ++ (g ++ (h ++ i))))),
    length-append d (e ++ (f ++ (g ++ (h ++ i)))),
    length-append e (f ++ (g ++ (h ++ i))),
    length-append f (g ++ (h ++ i)),
    length-append g (h ++ i),
    length-append h i,
  )

pub text_short : (q : Project) (names : Names) (program : IntProgram) → IsWritable q.cycle names program → IsSmall names → Few names → HasRoom program
    → AllHoldNumbers program.ops → HasSizes names q program → all_fit q.cycle (all_leaves q.rungs) ≡ true
    → length (interp_text q.cycle names program) ≤ CODE_BYTES
text_short q names program w small few room numbers sizes fit =
    let s = w.sound in
    let short : AreShort (sizes_of program) = record {
      bits = s.few_bits;
      outputs = omega (arith, s.output_count, small.outputs);
      inputs = omega (arith, s.input_count, small.inputs);
      analogs = omega (arith, s.analog_count, small.analogs);
      variables = omega (arith, s.variable_count, few.variables);
      persistent = omega (arith, s.persistent_count, few.persistent);
    } in
    let starts : All IsNumber program.starts = rw sizes.starts (starts_numbers q.cycle (all_leaves q.rungs) names.variables fit) in
    let head = head_short q.cycle w.timed in
    let inputs = names_short (codes "input ") names.inputs (omega arith) w.inputs in
    let outputs = names_short (codes "output ") names.outputs (omega arith) w.outputs in
    let analogs = names_short (codes "analog ") names.analog (omega arith) w.analogs in
    let vars = variables_short names.variables program.starts w.variables starts in
    let relays = names_short (codes "relay ") names.relays (omega arith) w.relays in
    let persistent = names_short (codes "persist ") names.persistent (omega arith) w.persistent in
    let counts = sizes_short program.bits s.few_bits in
    let ops = ops_short (sizes_of program) short program.ops s.well_formed.range numbers in
    let whole = ap length (parts_written q.cycle names program) in
    omega (
      arith,
      head,
      inputs,
      outputs,
      analogs,
      vars,
      relays,
      persistent,
      counts,
      ops,
      whole,
      room.ops,
      room.tabs,
      small.inputs,
      small.outputs,
      small.analogs,
      small.kept,
      few.variables,
      few.persistent,
      nine_parts
          (joined (map line_text (Magic ∷ (Cycle q.cycle ∷ []))))
          (joined (map (λ n. codes "input " ++ n) names.inputs))
          (joined (map (λ n. codes "output " ++ n) names.outputs))
          (joined (map (λ n. codes "analog " ++ n) names.analog))
          (joined (map line_text (variables names.variables program.starts)))
          (joined (map (λ n. codes "relay " ++ n) names.relays))
          (joined (map (λ n. codes "persist " ++ n) names.persistent))
          (joined (map line_text (BitCount program.bits ∷ (Code ∷ []))))
          (joined (map op_words program.ops) ++ codes "end\n"),
      length-append (joined (map op_words program.ops)) (codes "end\n"),
    )
