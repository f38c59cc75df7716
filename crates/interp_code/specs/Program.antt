-- The programs that texts say.
use Rattle.std.specs.Prelude.{◌≡◌, ℕ, ◌+◌, ◌≤◌, Bool, true, not, ◌&&◌, List, [], ◌∷◌, ◌++◌, length, map, Some}
use Rattle.std.specs.List.{list_any, list_all}
use Rattle.std.specs.Str.{bytes_eq}
use Rattle.ladder_tree.specs.declared.names.Names.{Names}
use Rattle.ladder_tree.specs.Names.{is_name_within}
use Rattle.int_code.specs.declared.limits.TheConstants.{MOST_OPERATIONS, MOST_BITS, MOST_PERSISTENT}
use Rattle.int_code.specs.declared.op.IntProgram.{IntProgram}
use Rattle.int_code.specs.WellFormed.{IsWellFormed}
use Rattle.int_code.specs.Literals.{AllHoldNumbers}
use Rattle.interp_code.specs.declared.program.InterpProgram.{InterpProgram}
use Rattle.interp_code.specs.Line.{line_of}
use Rattle.interp_code.specs.Text.{spelled}

-- no name is one of those seen, or stands twice
abbrev pub differ_from : List (List ℕ) → List (List ℕ) → Bool
differ_from seen [] = true
differ_from seen (n ∷ ns) = not (list_any (bytes_eq n) seen) && differ_from (seen ++ n ∷ []) ns

-- no name stands twice in the list
abbrev pub all_differ : List (List ℕ) → Bool
all_differ names = differ_from [] names

-- each of the names is in the list
abbrev pub are_in : List (List ℕ) → List (List ℕ) → Bool
are_in list names = list_all (λ n. list_any (bytes_eq n) list) names

-- names and a program that go together
pub record IsSound (names : Names) (program : IntProgram) : Type 0 where
  pub inputs : all_differ names.inputs ≡ true
  pub outputs : all_differ names.outputs ≡ true
  pub analogs : all_differ names.analog ≡ true
  pub variables : all_differ names.variables ≡ true
  pub relays : all_differ names.relays ≡ true
  pub persistent : all_differ names.persistent ≡ true
  -- analog and persistent names are variables
  pub analog_variables : are_in names.variables names.analog ≡ true
  pub persistent_variables : are_in names.variables names.persistent ≡ true
  pub input_count : program.inputs ≡ length names.inputs
  pub output_count : program.outputs ≡ length names.outputs
  pub analog_count : program.analogs ≡ length names.analog
  pub variable_count : program.variables ≡ length names.variables
  pub persistent_count : program.persistent ≡ length names.persistent
  pub few_persistent : program.persistent ≤ MOST_PERSISTENT
  -- the first bits are the relays
  pub bit_count : length names.relays ≤ program.bits
  pub few_bits : program.bits ≤ MOST_BITS
  pub well_formed : IsWellFormed program

-- What a text says of names and a program: memories are bits like others, and all bits count as kept.
abbrev pub read_as : ℕ → Names → IntProgram → InterpProgram
read_as cycle names program = record {
  cycle = cycle;
  names = record names { memories = 0 };
  program = record program { kept_bits = program.bits };
  -- in front of `code` stand its heading, the cycle, the names and the number of bits
  code_line =
      4 + (length names.inputs + (length names.outputs + (length names.analog + (length names.variables + (length names.relays + length names.persistent)))));
}

-- The lines say the program. That it has no more operations than it may is not in this.
pub record Says (lines : List (List ℕ)) (p : InterpProgram) : Type 0 where
  pub spelled : map line_of lines ≡ map Some (spelled p.cycle p.names p.program)
  pub sound : IsSound p.names p.program
  pub whole : p ≡ read_as p.cycle p.names p.program

-- the lines are the text of the program
pub record IsProgram (lines : List (List ℕ)) (p : InterpProgram) : Type 0 where
  pub says : Says lines p
  pub few : length p.program.ops ≤ MOST_OPERATIONS

-- names and a program that have a text
pub record IsWritable (cycle : ℕ) (names : Names) (program : IntProgram) : Type 0 where
  pub sound : IsSound names program
  pub inputs : list_all (is_name_within 66) names.inputs ≡ true
  pub outputs : list_all (is_name_within 66) names.outputs ≡ true
  pub analogs : list_all (is_name_within 66) names.analog ≡ true
  pub variables : list_all (is_name_within 66) names.variables ≡ true
  pub relays : list_all (is_name_within 66) names.relays ≡ true
  pub persistent : list_all (is_name_within 66) names.persistent ≡ true
  pub timed : cycle ≤ 999999999
  pub few : length program.ops ≤ MOST_OPERATIONS
  pub numbers : AllHoldNumbers program.ops
