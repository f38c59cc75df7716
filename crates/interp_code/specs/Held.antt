-- What the reader holds, as a draft.
use Rattle.std.specs.Prelude.{ℕ, ◌+◌, length, reverse}
use Rattle.texts.specs.Keys.{keys_of}
use Rattle.ladder_tree.specs.declared.names.Names.{Names}
use Rattle.int_code.specs.declared.op.IntProgram.{IntProgram}
use Rattle.interp_code.specs.declared.program.InterpProgram.{InterpProgram}
use Rattle.interp_code.specs.declared.reader.Reader.{Reader}
use Rattle.interp_code.specs.Program.{read_as}
use Rattle.interp_code.specs.Draft.{Draft}

abbrev pub draft : Reader → Draft
draft r = record {
  stage = r.stage;
  cycle = r.cycle;
  names = record {
    inputs = keys_of r.inputs;
    outputs = keys_of r.outputs;
    relays = keys_of r.relays;
    variables = keys_of r.variables;
    analog = keys_of r.analogs;
    persistent = keys_of r.persistent;
    memories = 0;
  };
  starts = r.starts;
  bits = r.bits;
  ops = r.ops;
  ifs = reverse r.ifs.items;
}

abbrev pub drafted_program : Draft → IntProgram
drafted_program d = record {
  ops = d.ops;
  inputs = length d.names.inputs;
  outputs = length d.names.outputs;
  analogs = length d.names.analog;
  variables = length d.names.variables;
  kept_bits = d.bits;
  bits = d.bits;
  persistent = length d.names.persistent;
  starts = d.starts;
}

abbrev pub program_of : Draft → InterpProgram
program_of d = read_as d.cycle d.names (drafted_program d)

abbrev pub name_count : Names → ℕ
name_count names =
    length names.inputs + (length names.outputs + (length names.analog + (length names.variables + (length names.relays + length names.persistent))))
