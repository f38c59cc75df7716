-- What a text says can be written.
use Rattle.std.proofs.Common.{◌≡◌, ℕ, true, List, [], ◌∷◌, ◌++◌, length, map, Some, ℤ, refl, ◌∙◌, arith, All}
use Rattle.std.proofs.lemmas.List.Elements.{All-nil, All-cons}
use Rattle.std.specs.List.{list_all}
use Rattle.ladder_tree.specs.Names.{is_name_within}
use Rattle.int_code.specs.declared.op.IntOp.{IntOp}
use Rattle.int_code.specs.Literals.{HoldsNumbers}
use Rattle.interp_code.specs.declared.program.InterpProgram.{InterpProgram}
use Rattle.interp_code.specs.Line.{Line, Input, Output, Analog, Relay, Persistent, BitCount, Code, Operation, End, line_of}
use Rattle.interp_code.specs.Text.{variables, spelled}
use Rattle.interp_code.specs.Program.{IsProgram, IsWritable}
use Rattle.interp_code.proofs.SaidLines.{IsName, IsInForm, in_form}

-- each line is in form
abbrev AllInForm : List Line → Type 0
AllInForm [] = Unit {0}
AllInForm (l ∷ ls) = IsInForm l × AllInForm ls

said_in_form : (ls : List (List ℕ)) (xs : List Line) → map line_of ls ≡ map Some xs → AllInForm xs
said_in_form [] [] h = tt
said_in_form [] (x ∷ xs) h = absurd cc
said_in_form (l ∷ ls) [] h = absurd cc
said_in_form (l ∷ ls) (x ∷ xs) h =
    let first : line_of l ≡ Some x = cc in
    let others : map line_of ls ≡ map Some xs = cc in
    (in_form l x first, said_in_form ls xs others)

behind : (a b : List Line) → AllInForm (a ++ b) → AllInForm b
behind [] b h = h
behind (l ∷ ls) b h = behind ls b h.1

-- the names in front of other lines
front_names : (f : List ℕ → Line) → ((n : List ℕ) → IsInForm (f n) → IsName n) → (ns : List (List ℕ)) (rest : List Line) → AllInForm (map f ns ++ rest)
    → list_all (is_name_within 66) ns ≡ true
front_names f each [] rest h = refl
front_names f each (n ∷ ns) rest h = rw (each n h.0) (front_names f each ns rest h.1)

front_variables : (ns : List (List ℕ)) (values : List ℤ) (rest : List Line) → length values ≡ length ns → AllInForm (variables ns values ++ rest)
    → list_all (is_name_within 66) ns ≡ true
front_variables [] values rest same h = refl
front_variables (n ∷ ns) [] rest same h = absurd (omega arith)
front_variables (n ∷ ns) (v ∷ vs) rest same h = rw h.0 (front_variables ns vs rest (omega arith) h.1)

front_ops : (ops : List IntOp) (rest : List Line) → AllInForm (map Operation ops ++ rest) → All HoldsNumbers ops
front_ops [] rest h = All-nil HoldsNumbers
front_ops (op ∷ ops) rest h = All-cons HoldsNumbers op ops h.0 (front_ops ops rest h.1)

pub writable : (ls : List (List ℕ)) (p : InterpProgram) → IsProgram ls p → IsWritable p.cycle p.names p.program
writable ls p h = record {
  sound = h.says.sound;
  inputs = front_names Input (λ n k. k) p.names.inputs outputs inputs_form;
  outputs = front_names Output (λ n k. k) p.names.outputs analogs outputs_form;
  analogs = front_names Analog (λ n k. k) p.names.analog vars analogs_form;
  variables = front_variables p.names.variables p.program.starts relays starts_count vars_form;
  relays = front_names Relay (λ n k. k) p.names.relays persistent relays_form;
  persistent = front_names Persistent (λ n k. k) p.names.persistent bits persistent_form;
  timed = forms.1.0;
  few = h.few;
  numbers = front_ops p.program.ops (End ∷ []) ops_form;
}
  where
    bits : List Line
    bits = BitCount p.program.bits ∷ (Code ∷ (map Operation p.program.ops ++ End ∷ []))

    persistent : List Line
    persistent = map Persistent p.names.persistent ++ bits

    relays : List Line
    relays = map Relay p.names.relays ++ persistent

    vars : List Line
    vars = variables p.names.variables p.program.starts ++ relays

    analogs : List Line
    analogs = map Analog p.names.analog ++ vars

    outputs : List Line
    outputs = map Output p.names.outputs ++ analogs

    forms : AllInForm (spelled p.cycle p.names p.program)
    forms = said_in_form ls (spelled p.cycle p.names p.program) h.says.spelled

    starts_count : length p.program.starts ≡ length p.names.variables
    starts_count = h.says.sound.well_formed.starts ∙ h.says.sound.variable_count

    inputs_form : AllInForm (map Input p.names.inputs ++ outputs)
    inputs_form = forms.1.1

    outputs_form : AllInForm outputs
    outputs_form = behind (map Input p.names.inputs) outputs inputs_form

    analogs_form : AllInForm analogs
    analogs_form = behind (map Output p.names.outputs) analogs outputs_form

    vars_form : AllInForm vars
    vars_form = behind (map Analog p.names.analog) vars analogs_form

    relays_form : AllInForm relays
    relays_form = behind (variables p.names.variables p.program.starts) relays vars_form

    persistent_form : AllInForm persistent
    persistent_form = behind (map Relay p.names.relays) persistent relays_form

    bits_form : AllInForm bits
    bits_form = behind (map Persistent p.names.persistent) bits persistent_form

    ops_form : AllInForm (map Operation p.program.ops ++ End ∷ [])
    ops_form = bits_form.1.1
