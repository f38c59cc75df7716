-- What lines and words say, as the code holds them.
use Rattle.std.specs.Prelude.{ℕ, List, [], Option, None, Some}
use Rattle.std.specs.Borrow.{Bor}
use Rattle.texts.specs.Lines.{pieces}
use Rattle.interp_code.specs.declared.line.Line.{Line as Held}
use Rattle.interp_code.specs.declared.line.Line.TheVariants as held
use Rattle.interp_code.specs.Line.{Line, Magic, Cycle, Input, Output, Analog, Variable, Relay, Persistent, BitCount, Code, Operation, End}

abbrev pub said : Held → Line
said held.Magic = Magic
said (held.Cycle n) = Cycle n
said (held.Input n) = Input n.now
said (held.Output n) = Output n.now
said (held.Analog n) = Analog n.now
said (held.Variable n start) = Variable n.now start
said (held.Relay n) = Relay n.now
said (held.Persistent n) = Persistent n.now
said (held.BitCount n) = BitCount n
said held.Code = Code
said (held.Operation op) = Operation op
said held.End = End

-- the words of a text, where there is one
abbrev pub words_of : Option (Bor (List ℕ)) → List (List ℕ)
words_of None = []
words_of (Some text) = pieces 32 text.now
