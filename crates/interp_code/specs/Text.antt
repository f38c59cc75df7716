-- The text of a program.
use Rattle.std.specs.Prelude.{ℕ, List, [], ◌∷◌, ◌++◌, ℤ, codes, map}
use Rattle.std.specs.Fmt.{decimal, signed_decimal}
use Rattle.ladder_tree.specs.declared.names.Names.{Names}
use Rattle.int_code.specs.declared.op.IntProgram.{IntProgram}
use Rattle.int_code.specs.Text.{op_words}
use Rattle.texts.specs.Lines.{joined}
use Rattle.interp_code.specs.Line.{Line, Magic, Cycle, Input, Output, Analog, Variable, Relay, Persistent, BitCount, Code, Operation, End}

-- the names of variables with their start values
abbrev pub variables : List (List ℕ) → List ℤ → List Line
variables [] starts = []
variables (name ∷ names) [] = []
variables (name ∷ names) (start ∷ starts) = Variable name start ∷ variables names starts

-- what the lines of a program's text say, in order
abbrev pub spelled : ℕ → Names → IntProgram → List Line
spelled cycle names program =
    Magic ∷ (Cycle cycle ∷ (map Input names.inputs ++ (map Output names.outputs ++ (map Analog names.analog
    ++ (variables names.variables program.starts ++ (map Relay names.relays ++ (map Persistent names.persistent
    ++ (BitCount program.bits ∷ (Code ∷ (map Operation program.ops ++ End ∷ []))))))))))

-- the line that is written, with numbers in decimal and no leading zero
abbrev pub line_text : Line → List ℕ
line_text Magic = codes "LDint 1"
line_text (Cycle n) = codes "cycle " ++ decimal n
line_text (Input name) = codes "input " ++ name
line_text (Output name) = codes "output " ++ name
line_text (Analog name) = codes "analog " ++ name
line_text (Variable name start) = codes "var " ++ (name ++ (codes " " ++ signed_decimal start))
line_text (Relay name) = codes "relay " ++ name
line_text (Persistent name) = codes "persist " ++ name
line_text (BitCount n) = codes "bits " ++ decimal n
line_text Code = codes "code"
line_text (Operation op) = op_words op
line_text End = codes "end"

abbrev pub interp_text : ℕ → Names → IntProgram → List ℕ
interp_text cycle names program = joined (map line_text (spelled cycle names program))
