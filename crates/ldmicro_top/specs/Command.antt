-- What the words of the command line ask for.
use Rattle.std.specs.Prelude.{ℕ, List, [], ◌∷◌, codes, if◌then◌else◌}
use Rattle.std.specs.Str.{bytes_eq}
use Rattle.ldmicro_top.specs.declared.words.Request.{Request}
use Rattle.ldmicro_top.specs.declared.words.Request.TheVariants as request

-- to compile a source to a destination, to simulate a source over a trace, to run a file of a source's code over a trace, or nothing that is built
pub data Command : Type 0 where
  Compile : (source dest : List ℕ) → Command
  Simulate : (source trace : List ℕ) → Command
  Replay : (source file trace : List ℕ) → Command
  Other : Command

abbrev pub command_of : List (List ℕ) → Command
command_of (word ∷ source ∷ second ∷ []) =
    if bytes_eq word (codes "/c") then Compile source second
    else (if bytes_eq word (codes "/s") then Simulate source second else Other)
command_of (word ∷ source ∷ file ∷ trace ∷ []) = if bytes_eq word (codes "/r") then Replay source file trace else Other
command_of words = Other

-- the same, as the code holds it
abbrev pub asked : Request → Command
asked (request.Compile source dest) = Compile source.now dest.now
asked (request.Simulate source trace) = Simulate source.now trace.now
asked (request.Replay source file trace) = Replay source.now file.now trace.now
asked request.Other = Other
