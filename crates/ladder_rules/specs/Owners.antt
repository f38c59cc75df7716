-- The look for a pin that two names have: a table tells for each of the pins that texts give whose it is, by the number of its pin line. A
-- greater pin is looked up among all elements.
use Rattle.std.specs.Prelude.{ℕ, ◌+◌, nat_eq, nat_lt, Bool, false, not, if◌then◌else◌, List, [], ◌∷◌, set, slice_index_or, Option, Some, None}
use Rattle.std.specs.Bool.{then_some}
use Rattle.std.specs.Option.{option_map}
use Rattle.std.specs.Str.{bytes_eq}
use Rattle.ladder_tree.specs.Leaves.{all_leaves}
use Rattle.ladder_tree.specs.declared.element.Leaf as element
use Rattle.ladder_tree.specs.declared.project.PinLine.{PinLine}
use Rattle.ladder_tree.specs.declared.project.Project.{Project}
use Rattle.ladder_rules.specs.Pins.{pinned, name_at, owner, are_two}
use Rattle.ladder_rules.specs.declared.limits.TheConstants.{TABLE_PINS}
use Rattle.ladder_rules.specs.declared.owners.Clash.{Clash}
use Rattle.ladder_rules.specs.declared.owners.Owners.{Owners}
use Rattle.ladder_rules.specs.declared.owners.PinSought.{PinSought}

-- the number and the pin of the first line with a name, of lines behind k others
abbrev pub line_from : ℕ → List PinLine → List ℕ → Option (ℕ × ℕ)
line_from k [] name = None
line_from k (l ∷ ls) name = if bytes_eq l.name name then Some (k + 1, l.pin) else line_from (k + 1) ls name

abbrev pub line_of : List PinLine → List ℕ → Option (ℕ × ℕ)
line_of pins name = line_from 0 pins name

-- at an element with the pin: whether its name is another
abbrev pub is_another : PinSought → element.Leaf → Option Bool
is_another v l = option_map (λ name. not (bytes_eq v.name.now name)) (name_at v.pins.now v.pin l.kind)

-- whether the first name with the pin is another
abbrev pub is_anothers : Project → ℕ → List ℕ → Bool
is_anothers p pin name = are_two (Some name) (owner p.pins pin (all_leaves p.rungs))

abbrev pub clash : ℕ → ℕ → Clash
clash line pin = record { line = line; pin = pin }

-- whether a pin of the table is another's, and whose each pin is from then on; nobody's has the number 0
abbrev pub claimed : List ℕ → ℕ → ℕ → Bool × List ℕ
claimed owners pin number =
    if nat_eq (slice_index_or owners pin 0) 0 then (false, set owners pin number)
    else (not (nat_eq (slice_index_or owners pin 0) number), owners)

abbrev pub tried_line : Project → List ℕ → List ℕ → Option (ℕ × ℕ) → Option ℕ × List ℕ
tried_line p owners name None = (None, owners)
tried_line p owners name (Some (number, pin)) =
    if nat_eq pin 0 then (None, owners)
    else if nat_lt pin TABLE_PINS then (then_some (claimed owners pin number).0 pin, (claimed owners pin number).1)
    else (then_some (is_anothers p pin name) pin, owners)

-- the pin of a name, where it is another's
abbrev pub tried : Project → List ℕ → Option (List ℕ) → Option ℕ × List ℕ
tried p owners None = (None, owners)
tried p owners (Some name) = tried_line p owners name (line_of p.pins name)

-- what the table is behind an element, and the clash there
abbrev pub claims : Owners → element.Leaf → Option Clash × Owners
claims v l =
    let t : Option ℕ × List ℕ = tried v.project.now v.owners (pinned l.kind) in
    (option_map (clash l.line) t.0, record v { owners = t.1 })
