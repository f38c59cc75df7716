-- What a text is read as: an image, or the first line with a fault.
use Rattle.std.specs.Prelude.{◌≡◌, ℕ, ◌+◌, ◌==◌, ◌&&◌, Bool, if◌then◌else◌, List, [], ◌∷◌, length, Option, Some, None, Result, Ok, Err, ⊤}
use Rattle.chip_tables.specs.declared.target.Target.{Target}
use Rattle.texts.specs.Lines.{lines}
use Rattle.texts.specs.Limits.{judged, is_over}
use Rattle.texts.specs.declared.limits.TheConstants.{FILE_BYTES}
use Rattle.intel_hex.specs.declared.image.Image.{Image}
use Rattle.intel_hex.specs.declared.fault.HexCause.{HexCause}
use Rattle.intel_hex.specs.declared.fault.HexCause.TheVariants.{BadRecord, NoEnd}
use Rattle.intel_hex.specs.declared.fault.HexFault.{HexFault}
use Rattle.intel_hex.specs.declared.fault.HexError.{HexError}
use Rattle.intel_hex.specs.declared.fault.HexError.TheVariants as error
use Rattle.intel_hex.specs.declared.said.Said.{Said}
use Rattle.intel_hex.specs.declared.said.Said.TheVariants.{Broken}
use Rattle.intel_hex.specs.Said.{said_of}
use Rattle.intel_hex.specs.Given.{is_ended, given, fault_of}
use Rattle.intel_hex.specs.Kept.{image_of}

-- What the lines say. The last line of a text that is too long holds the first byte past the limit, and is no record.
abbrev pub sayings : Bool → List (List ℕ) → List Said
sayings long [] = []
sayings long (line ∷ more) = (if long && (length more == 0) then Broken BadRecord else said_of line) ∷ sayings long more

-- the fault of the line, or else what comes behind it
abbrev pub or_fault : ℕ → Option HexCause → Result Image HexFault → Result Image HexFault
or_fault line (Some cause) later = Err (record { line = line; cause = cause })
or_fault line None later = later

-- the verdict on lines behind others, which have no fault; of those the last is first
abbrev pub verdict : Target → List Said → List Said → Result Image HexFault
verdict t before [] = if is_ended before then Ok (image_of t (given before)) else Err (record { line = length before + 1; cause = NoEnd })
verdict t before (said ∷ more) = or_fault (length before + 1) (fault_of t before said) (verdict t (said ∷ before) more)

abbrev pub hex_verdict : Target → List ℕ → Result Image HexFault
hex_verdict t text = verdict t [] (sayings (is_over FILE_BYTES text) (lines (judged FILE_BYTES text)))

-- why an error comes, where the text's verdict is this: want of memory may always be
abbrev pub IsCause : Result Image HexFault → HexError → Type 0
IsCause found (error.Fault fault) = found ≡ Err fault
IsCause found (error.Memory e) = ⊤
