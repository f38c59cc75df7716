-- The text of a program says the program.
use Rattle.std.proofs.Common.{◌≡◌, ℕ, true, List, [], ◌∷◌, ◌++◌, map, ℤ, Some, refl, ap, ◌∙◌, append_assoc, arith, All}
use Rattle.std.proofs.lemmas.Bool.{and_parts}
use Rattle.std.proofs.lemmas.List.Elements.{All-head, All-tail}
use Rattle.std.specs.List.{list_all}
use Rattle.texts.specs.Lines.{lines, joined}
use Rattle.texts.proofs.LineLemmas.{lines-line}
use Rattle.ladder_tree.specs.declared.names.Names.{Names}
use Rattle.ladder_tree.specs.Names.{is_name_within}
use Rattle.int_code.specs.declared.op.IntOp.{IntOp}
use Rattle.int_code.specs.declared.op.IntProgram.{IntProgram}
use Rattle.int_code.specs.WellFormed.{Sizes, IsInRange, sizes_of}
use Rattle.interp_code.specs.Line.{Line, Input, Output, Analog, Relay, Persistent, Operation, End, line_of}
use Rattle.int_code.specs.Literals.{IsNumber, HoldsNumbers}
use Rattle.interp_code.specs.Text.{variables, line_text, spelled, interp_text}
use Rattle.interp_code.specs.Program.{IsWritable, IsProgram, read_as}
use Rattle.interp_code.proofs.SpelledWords.{IsSmall, from_lacks}
use Rattle.interp_code.proofs.ReadsBack.{Reads, magic_reads, cycle_reads, input_reads, output_reads, analog_reads, variable_reads, relay_reads, persistent_reads, bits_reads, code_reads, op_reads, end_reads}

-- each of the lines reads back
abbrev pub AllRead : List Line → Type 0
AllRead [] = Unit {0}
AllRead (l ∷ ls) = Reads l × AllRead ls

pub AllRead-append : (a b : List Line) → AllRead a → AllRead b → AllRead (a ++ b)
AllRead-append [] b ha hb = hb
AllRead-append (l ∷ ls) b ha hb = (ha.0, AllRead-append ls b ha.1 hb)

names_read : (f : List ℕ → Line) → ((n : List ℕ) → is_name_within 66 n ≡ true → Reads (f n)) → (ns : List (List ℕ)) → list_all (is_name_within 66) ns ≡ true
    → AllRead (map f ns)
names_read f each [] h = tt
names_read f each (n ∷ ns) h = (
  each n (and_parts (is_name_within 66 n) (list_all (is_name_within 66) ns) h).0,
  names_read f each ns
      (and_parts (is_name_within 66 n) (list_all (is_name_within 66) ns) h).1,
)

pub variables_read : (ns : List (List ℕ)) (values : List ℤ) → list_all (is_name_within 66) ns ≡ true → All IsNumber values → AllRead (variables ns values)
variables_read [] values h short = tt
variables_read (n ∷ ns) [] h short = tt
variables_read (n ∷ ns) (v ∷ vs) h short = (
  variable_reads n v (and_parts (is_name_within 66 n) (list_all (is_name_within 66) ns) h).0 (All-head IsNumber v vs short),
  variables_read ns vs (and_parts (is_name_within 66 n) (list_all (is_name_within 66) ns) h).1 (All-tail IsNumber v vs short),
)

ops_read : (n : Sizes) → IsSmall n → (ops : List IntOp) → All (IsInRange n) ops → All HoldsNumbers ops → AllRead (map Operation ops)
ops_read n small [] h short = tt
ops_read n small (op ∷ ops) h short = (
  op_reads n small op (All-head (IsInRange n) op ops h) (All-head HoldsNumbers op ops short),
  ops_read n small ops
      (All-tail (IsInRange n) op ops h) (All-tail HoldsNumbers op ops short),
)

-- a program as the code holds it: its numbers are in the ranges of their types
pub record IsHeld (program : IntProgram) : Type 0 where
  pub sizes : IsSmall (sizes_of program)
  pub starts : All IsNumber program.starts

pub spelled_reads : (cycle : ℕ) (names : Names) (program : IntProgram) → IsWritable cycle names program → IsHeld program → AllRead (spelled cycle names program)
spelled_reads cycle names program w held = (
  magic_reads,
  (
    cycle_reads cycle w.timed,
    AllRead-append (map Input names.inputs) _ (names_read Input input_reads names.inputs w.inputs)
        (AllRead-append (map Output names.outputs) _ (names_read Output output_reads names.outputs w.outputs)
        (AllRead-append (map Analog names.analog) _ (names_read Analog analog_reads names.analog w.analogs)
        (AllRead-append (variables names.variables program.starts) _ (variables_read names.variables program.starts w.variables held.starts)
        (AllRead-append (map Relay names.relays) _ (names_read Relay relay_reads names.relays w.relays)
        (AllRead-append (map Persistent names.persistent) _ (names_read Persistent persistent_reads names.persistent w.persistent) (
          bits_reads program.bits (omega (arith, w.sound.few_bits)),
          (
            code_reads,
            AllRead-append (map Operation program.ops) (End ∷ []) (ops_read (sizes_of program) held.sizes program.ops w.sound.well_formed.range w.numbers)
                (end_reads, tt),
          ),
        )))))),
  ),
)

pub joined_reads : (ls : List Line) → AllRead ls → map line_of (lines (joined (map line_text ls))) ≡ map Some ls
joined_reads [] h = refl
joined_reads (l ∷ ls) h =
    ap (map line_of) (lines-line (line_text l) (joined (map line_text ls)) (from_lacks 10 (line_text l) h.0.clean))
    ∙ ap (λ o. o ∷ map line_of (lines (joined (map line_text ls)))) h.0.of
    ∙ ap (λ os. Some l ∷ os) (joined_reads ls h.1)

pub text_says : (cycle : ℕ) (names : Names) (program : IntProgram) → IsWritable cycle names program → IsHeld program
    → IsProgram (lines (interp_text cycle names program)) (read_as cycle names program)
text_says cycle names program w held = record {
  says = record {
    spelled = joined_reads (spelled cycle names program) (spelled_reads cycle names program w held);
    sound = record {
      inputs = w.sound.inputs;
      outputs = w.sound.outputs;
      analogs = w.sound.analogs;
      variables = w.sound.variables;
      relays = w.sound.relays;
      persistent = w.sound.persistent;
      analog_variables = w.sound.analog_variables;
      persistent_variables = w.sound.persistent_variables;
      input_count = w.sound.input_count;
      output_count = w.sound.output_count;
      analog_count = w.sound.analog_count;
      variable_count = w.sound.variable_count;
      persistent_count = w.sound.persistent_count;
      few_persistent = w.sound.few_persistent;
      bit_count = w.sound.bit_count;
      few_bits = w.sound.few_bits;
      well_formed = record {
        nests = w.sound.well_formed.nests;
        range = w.sound.well_formed.range;
        kept = omega arith;
        starts = w.sound.well_formed.starts;
      };
    };
    whole = refl;
  };
  few = w.few;
}

-- pieces written one behind the other
pub five : (t0 t1 t2 t3 t4 t5 a b c d e : List ℕ) → t1 ≡ t0 ++ a → t2 ≡ t1 ++ b → t3 ≡ t2 ++ c → t4 ≡ t3 ++ d → t5 ≡ t4 ++ e
    → t5 ≡ t0 ++ (a ++ (b ++ (c ++ (d ++ e))))
five t0 t1 t2 t3 t4 t5 a b c d e h1 h2 h3 h4 h5 = rw (h5, h4, h3, h2, h1) (simp append_assoc)

pub six : (t0 t1 t2 t3 t4 t5 t6 a b c d e f : List ℕ) → t1 ≡ t0 ++ a → t2 ≡ t1 ++ b → t3 ≡ t2 ++ c → t4 ≡ t3 ++ d → t5 ≡ t4 ++ e → t6 ≡ t5 ++ f
    → t6 ≡ t0 ++ (a ++ (b ++ (c ++ (d ++ (e ++ f)))))
six t0 t1 t2 t3 t4 t5 t6 a b c d e f h1 h2 h3 h4 h5 h6 = rw (h6, h5, h4, h3, h2, h1) (simp append_assoc)
