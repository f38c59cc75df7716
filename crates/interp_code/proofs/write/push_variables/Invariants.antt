use Rattle.std.proofs.Common.{◌≡◌, ◌++◌, take, map, All}
use Rattle.std.specs.String.{string_bytes}
use Rattle.texts.specs.Lines.{joined}
use Rattle.int_code.specs.Literals.{IsNumber}
use Rattle.interp_code.specs.Text.{variables, line_text}
use Rattle.interp_code.proofs.write.push_variables.Given as goal

abbrev pub invariant-loop-k : goal.invariant-loop-k
invariant-loop-k l = record {
  bytes : string_bytes l.text ≡ string_bytes l.fn.text ++ joined (map line_text (variables (take l.k l.names) (take l.k l.starts)));
  numbers : All IsNumber (take l.k l.starts);
}
