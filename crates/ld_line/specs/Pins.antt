-- What the lines of a pin list say.
use Rattle.std.specs.Prelude.{ℕ, List, [], ◌∷◌, codes, if◌then◌else◌}
use Rattle.std.specs.Str.{bytes_eq}
use Rattle.ld_line.specs.Said.{said_map, both}
use Rattle.ld_line.specs.Numbers.{natural_in, most_pin}
use Rattle.ld_line.specs.Operands.{name}
use Rattle.ld_line.specs.declared.said.Said.{Said}
use Rattle.ld_line.specs.declared.said.Said.TheVariants.{Bad, Is}
use Rattle.ld_line.specs.declared.pins.PinsLine.{PinsLine}
use Rattle.ld_line.specs.declared.pins.PinsLine.TheVariants.{Pin, End}

abbrev pub pin_line : List ℕ → List ℕ → Said PinsLine
pin_line n pin = said_map (λ p. Pin (record { name = p.0; pin = p.1 })) (both (name n) (natural_in 0 most_pin pin))

-- name at number, or END: the tokens of a line of a pin list
abbrev pub pin_of_line : List (List ℕ) → Said PinsLine
pin_of_line (token ∷ []) = if bytes_eq token (codes "END") then Is End else Bad
pin_of_line (n ∷ word ∷ pin ∷ []) =
    if bytes_eq word (codes "at") then pin_line n pin else Bad
pin_of_line _ = Bad
