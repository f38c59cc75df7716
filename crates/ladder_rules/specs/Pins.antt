-- The pins of a chip that a project's names have.
use Rattle.std.specs.Prelude.{ℕ, nat_eq, Bool, true, false, not, ◌&&◌, ◌||◌, if◌then◌else◌, List, [], ◌∷◌, Option, Some, None, is_some, is_none}
use Rattle.std.specs.Bool.{then_some}
use Rattle.std.specs.List.{find}
use Rattle.std.specs.Option.{option_and_then, option_or}
use Rattle.std.specs.Str.{bytes_eq}
use Rattle.chip_tables.specs.Pins.{port_bit_at, channel_at, rx_at, tx_at, pwm_at}
use Rattle.chip_tables.specs.declared.target.Target.{Target}
use Rattle.chip_tables.specs.declared.target.Target.TheVariants.{F628, F877, Mega16, Interp, AnsiC}
use Rattle.ladder_tree.specs.Leaves.{all_leaves}
use Rattle.ladder_tree.specs.Names.{is_input, is_output}
use Rattle.ladder_tree.specs.Peripherals.{uses_adc, any_uart, any_pwm}
use Rattle.ladder_tree.specs.declared.element.Leaf as element
use Rattle.ladder_tree.specs.declared.element.LeafKind.{LeafKind}
use Rattle.ladder_tree.specs.declared.element.LeafKind.TheVariants.{Contacts, Coil, Osr, Osf, Short, Open, MasterRelay, Placeholder, Comment, Timer, Counter, Reset, Move, Math, Compare, Shift, Table, ReadAdc, SetPwm, Recv, Send, Persist, Linear, Formatted}
use Rattle.ladder_tree.specs.declared.fault.ProjectFault.{ProjectFault}
use Rattle.ladder_tree.specs.declared.fault.ProjectFault.TheVariants as fault
use Rattle.ladder_tree.specs.declared.project.PinLine.{PinLine}
use Rattle.ladder_tree.specs.declared.project.Project.{Project}
use Rattle.ladder_rules.specs.Places.{Spot}

abbrev pub is_chip : Target → Bool
is_chip F628 = true
is_chip F877 = true
is_chip Mega16 = true
is_chip Interp = false
is_chip AnsiC = false

-- the name for which an element needs a pin: of an input, of an output, or an analog name
abbrev pub pinned : LeafKind → Option (List ℕ)
pinned (Contacts name neg) = then_some (is_input name || is_output name) name
pinned (Coil name mode) = then_some (is_input name || is_output name) name
pinned Osr = None
pinned Osf = None
pinned Short = None
pinned Open = None
pinned MasterRelay = None
pinned Placeholder = None
pinned (Comment text) = None
pinned (Timer how name delay) = None
pinned (Counter how name max) = None
pinned (Reset name) = None
pinned (Move dest src) = None
pinned (Math how dest a b) = None
pinned (Compare how a b) = None
pinned (Shift name places) = None
pinned (Table dest index as_text values) = None
pinned (ReadAdc name) = Some name
pinned (SetPwm name hz) = None
pinned (Recv name) = None
pinned (Send name) = None
pinned (Persist name) = None
pinned (Linear dest index points) = None
pinned (Formatted name text) = None

-- pin 0 is no pin
abbrev pub some_pin : Option PinLine → Option ℕ
some_pin None = None
some_pin (Some l) = if nat_eq l.pin 0 then None else Some l.pin

-- the pin of a name, by the first pin line with the name
abbrev pub pin_of : List PinLine → List ℕ → Option ℕ
pin_of pins name = some_pin (find (λ l. bytes_eq l.name name) pins)

-- the pin of the name for which an element needs one
abbrev pub pin_at : List PinLine → LeafKind → Option ℕ
pin_at pins k = option_and_then (pin_of pins) (pinned k)

-- whether the name for which an element needs a pin has none
abbrev pub is_unassigned : List PinLine → LeafKind → Bool
is_unassigned pins k = is_some (pinned k) && is_none (pin_at pins k)

-- whether a pin of the chip is one for the element: an analog input for an analog name, an I/O pin for a bit
abbrev pub serves : Target → LeafKind → ℕ → Bool
serves t k pin = if uses_adc k then is_some (channel_at t pin) else is_some (port_bit_at t pin)

abbrev pub is_pin : ℕ → Option ℕ → Bool
is_pin pin None = false
is_pin pin (Some other) = nat_eq pin other

-- whether a pin belongs to a device that elements use
abbrev pub is_taken : Target → List element.Leaf → ℕ → Bool
is_taken t ls pin = ((is_pin pin (rx_at t) || is_pin pin (tx_at t)) && any_uart ls) || (is_pin pin (pwm_at t) && any_pwm ls)

-- the pin of an element, where it is none for the element
abbrev pub wrong_pin : Project → LeafKind → Option ℕ
wrong_pin p k = option_and_then (λ pin. then_some (not (serves p.target k pin)) pin) (pin_at p.pins k)

-- the pin of an element, where it belongs to a device that is used
abbrev pub taken_pin : Project → LeafKind → Option ℕ
taken_pin p k = option_and_then (λ pin. then_some (is_taken p.target (all_leaves p.rungs) pin) pin) (pin_at p.pins k)

-- the name of an element, where it has the pin
abbrev pub name_at : List PinLine → ℕ → LeafKind → Option (List ℕ)
name_at pins pin k = if is_pin pin (pin_at pins k) then pinned k else None

-- the first name with the pin
abbrev pub owner : List PinLine → ℕ → List element.Leaf → Option (List ℕ)
owner pins pin [] = None
owner pins pin (l ∷ ls) = option_or (name_at pins pin l.kind) (owner pins pin ls)

abbrev pub are_two : Option (List ℕ) → Option (List ℕ) → Bool
are_two None other = false
are_two (Some name) None = false
are_two (Some name) (Some other) = not (bytes_eq name other)

-- The fault of an element whose pin an earlier name has. The first such element is where its name first appears.
abbrev pub twice : Project → Spot → Option ProjectFault
twice p s =
    option_and_then
    (λ pin. then_some (are_two (pinned s.leaf.kind) (owner p.pins pin s.before)) (fault.PinTwice s.leaf.line pin))
    (pin_at p.pins s.leaf.kind)
