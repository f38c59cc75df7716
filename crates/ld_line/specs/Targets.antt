-- What targets are called in the MICRO line of a project text.
use Rattle.std.specs.Prelude.{ℕ, List, [], ◌∷◌, Option, None, codes}
use Rattle.std.specs.List.{find}
use Rattle.std.specs.Option.{option_or}
use Rattle.std.specs.Str.{bytes_eq}
use Rattle.chip_tables.specs.declared.target.Target.{Target}
use Rattle.chip_tables.specs.declared.target.Target.TheVariants.{F628, F877, Mega16, Interp, AnsiC}
use Rattle.ld_line.specs.declared.target.TheConstants.{TARGETS}

-- the word that chooses the target
abbrev pub target_word : Target → List ℕ
target_word F628 = codes "PIC16F628"
target_word F877 = codes "PIC16F877"
target_word Mega16 = codes "ATmega16"
target_word Interp = codes "Interpretable"
target_word AnsiC = codes "ANSI"

-- the whole text, as it is printed
abbrev pub target_text : Target → List ℕ
target_text F628 = codes "Microchip PIC16F628 18-PDIP or 18-SOIC"
target_text F877 = codes "Microchip PIC16F877 40-PDIP"
target_text Mega16 = codes "Atmel AVR ATmega16 40-PDIP"
target_text Interp = codes "Interpretable Byte Code"
target_text AnsiC = codes "ANSI C Code"

-- the target that a word chooses
abbrev pub target_of : List ℕ → Option Target
target_of word = find (λ target. bytes_eq (target_word target) word) TARGETS

-- the target of the first word that chooses one
abbrev pub first_target : List (List ℕ) → Option Target
first_target [] = None
first_target (w ∷ ws) = option_or (target_of w) (first_target ws)
