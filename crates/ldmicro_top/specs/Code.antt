-- The interpretable texts that say a program, and those that are refused.
use Rattle.std.specs.Prelude.{ℕ, ◌≤◌, List, length}
use Rattle.texts.specs.Lines.{lines}
use Rattle.texts.specs.Limits as limits
use Rattle.texts.specs.declared.limits.TheConstants.{CODE_BYTES}
use Rattle.interp_code.specs.Program.{IsProgram}
use Rattle.interp_code.specs.Refused as interp
use Rattle.interp_code.specs.declared.program.InterpProgram.{InterpProgram}

-- a text that says a program
abbrev pub IsCode : List ℕ → InterpProgram → Type 0
IsCode text program = IsProgram (lines text) program × (length text ≤ CODE_BYTES)

abbrev pub IsCodeRefusedAt : List ℕ → ℕ → Type 0
IsCodeRefusedAt text line = interp.IsRefusedAt (limits.is_over CODE_BYTES text) (lines (limits.judged CODE_BYTES text)) line
