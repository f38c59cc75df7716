-- The line at which a text that is no program's is refused.
use Rattle.std.specs.Prelude.{◌≡◌, ◌⊎◌, ℕ, ◌+◌, ◌-◌, ◌<◌, ◌≤◌, Bool, true, false, List, [], ◌∷◌, length, take, Option, Some}
use Rattle.texts.specs.Begins.{Begins}
use Rattle.int_code.specs.declared.limits.TheConstants.{MOST_OPERATIONS}
use Rattle.interp_code.specs.declared.program.InterpProgram.{InterpProgram}
use Rattle.interp_code.specs.Line.{Line, Operation, line_of}
use Rattle.interp_code.specs.Program.{Says, IsProgram}

-- 1 for an operation's line
abbrev pub operations_of : Option Line → ℕ
operations_of (Some (Operation op)) = 1
operations_of other = 0

-- how many of the lines are operations
abbrev pub operations_in : List (List ℕ) → ℕ
operations_in [] = 0
operations_in (l ∷ ls) = operations_of (line_of l) + operations_in ls

-- Some text goes on behind these lines, and they have no more operations than a program may have.
pub record IsBegun (lines : List (List ℕ)) : Type 0 where
  pub goes_on : Begins (λ ls. (p : InterpProgram) × Says ls p) lines
  pub few : operations_in lines ≤ MOST_OPERATIONS

-- Lines are counted from 1. Over says that the text is longer than it may be: its last line here then holds the first byte past that.
pub record IsRefusedAt (over : Bool) (lines : List (List ℕ)) (line : ℕ) : Type 0 where
  -- the lines before it begin a text
  pub before : IsBegun (take (line - 1) lines)
  -- with it no text goes on, or it passes a limit, or the text ends before `end`
  pub cause : ((0 < line) × (line ≤ length lines) × (IsBegun (take line lines) → ⊥))
      ⊎ (((over ≡ true) × (0 < line) × (line ≡ length lines))
      ⊎ ((over ≡ false) × (line ≡ length lines + 1) × (((p : InterpProgram) × IsProgram lines p) → ⊥)))
