-- Why a text is not read.
use Rattle.std.specs.Prelude.{ℕ, List}
use Rattle.texts.specs.Lines.{lines}
use Rattle.texts.specs.Limits.{judged, is_over}
use Rattle.texts.specs.declared.limits.TheConstants.{CODE_BYTES}
use Rattle.interp_code.specs.declared.read.InterpError.{InterpError}
use Rattle.interp_code.specs.declared.read.InterpError.TheVariants.{Fault, Memory}
use Rattle.interp_code.specs.Refused.{IsRefusedAt}

-- a fault names the line at which the text is refused, and memory may be refused at any time
abbrev pub IsCaused : List ℕ → InterpError → Type 0
IsCaused text (Fault f) = IsRefusedAt (is_over CODE_BYTES text) (lines (judged CODE_BYTES text)) f.line
IsCaused text (Memory e) = Unit {0}
