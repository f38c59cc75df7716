-- The rules for single elements.
use Rattle.std.specs.Prelude.{ℕ, ◌/◌, nat_eq, nat_lt, Bool, true, false, not, ◌&&◌, ◌||◌, if◌then◌else◌, List, [], ◌∷◌, Option, Some, None}
use Rattle.std.specs.Bool.{then_some}
use Rattle.std.specs.List.{find}
use Rattle.std.specs.Option.{option_map, option_map_or, option_and_then, option_or}
use Rattle.std.specs.Str.{bytes_eq}
use Rattle.ladder_tree.specs.Leaves.{all_leaves}
use Rattle.ladder_tree.specs.Names.{begins_with, has_kind}
use Rattle.ladder_tree.specs.Peripherals.{rate_of}
use Rattle.ladder_tree.specs.declared.element.CounterHow.{CounterHow}
use Rattle.ladder_tree.specs.declared.element.CounterHow.TheVariants.{Ctu, Ctd, Ctc}
use Rattle.ladder_tree.specs.declared.element.Leaf as element
use Rattle.ladder_tree.specs.declared.element.LeafKind.{LeafKind}
use Rattle.ladder_tree.specs.declared.element.LeafKind.TheVariants.{Contacts, Coil, Osr, Osf, Short, Open, MasterRelay, Placeholder, Comment, Timer, Counter, Reset, Move, Math, Compare, Shift, Table, ReadAdc, SetPwm, Recv, Send, Persist, Linear, Formatted}
use Rattle.ladder_tree.specs.declared.fault.ProjectFault.{ProjectFault}
use Rattle.ladder_tree.specs.declared.fault.ProjectFault.TheVariants as fault
use Rattle.ladder_tree.specs.declared.project.Project.{Project}
use Rattle.ladder_rules.specs.ChipRules.{chip_fault}
use Rattle.ladder_rules.specs.Timing.{timing_of}
use Rattle.ladder_rules.specs.Pins.{is_chip}
use Rattle.ladder_rules.specs.Places.{Spot}
use Rattle.ladder_rules.specs.declared.limits.TheConstants.{LONGEST_PERIOD}
use Rattle.ladder_rules.specs.declared.rule.ElementRule.{ElementRule}
use Rattle.ladder_rules.specs.declared.rule.ElementRule.TheVariants.{NotRightmost, WrongKind, TimerTwice, TimerShort, TimerLong, PwmTwoRates, OnChip}

abbrev pub is_round : CounterHow → Bool
is_round Ctu = false
is_round Ctd = false
is_round Ctc = true

-- the elements that must stand at the right end
abbrev pub ends_rung : LeafKind → Bool
ends_rung (Contacts name neg) = false
ends_rung (Coil name mode) = true
ends_rung Osr = false
ends_rung Osf = false
ends_rung Short = false
ends_rung Open = false
ends_rung MasterRelay = true
ends_rung Placeholder = false
ends_rung (Comment text) = false
ends_rung (Timer how name delay) = false
ends_rung (Counter how name max) = is_round how
ends_rung (Reset name) = true
ends_rung (Move dest src) = true
ends_rung (Math how dest a b) = true
ends_rung (Compare how a b) = false
ends_rung (Shift name places) = true
ends_rung (Table dest index as_text values) = true
ends_rung (ReadAdc name) = false
ends_rung (SetPwm name hz) = false
ends_rung (Recv name) = false
ends_rung (Send name) = false
ends_rung (Persist name) = true
ends_rung (Linear dest index points) = false
ends_rung (Formatted name text) = false

-- 84 is T
abbrev pub is_timer : List ℕ → Bool
is_timer name = begins_with 84 name

-- 67 is C
abbrev pub is_counter : List ℕ → Bool
is_counter name = begins_with 67 name

-- 65 is A
abbrev pub is_analog : List ℕ → Bool
is_analog name = begins_with 65 name

-- whether an element's name begins with a letter of its kind; a placeholder is of no kind
abbrev pub is_of_kind : LeafKind → Bool
is_of_kind (Contacts name neg) = has_kind (Contacts name neg)
is_of_kind (Coil name mode) = has_kind (Coil name mode)
is_of_kind Osr = true
is_of_kind Osf = true
is_of_kind Short = true
is_of_kind Open = true
is_of_kind MasterRelay = true
is_of_kind Placeholder = false
is_of_kind (Comment text) = true
is_of_kind (Timer how name delay) = is_timer name
is_of_kind (Counter how name max) = is_counter name
is_of_kind (Reset name) = is_timer name || is_counter name
is_of_kind (Move dest src) = true
is_of_kind (Math how dest a b) = true
is_of_kind (Compare how a b) = true
is_of_kind (Shift name places) = true
is_of_kind (Table dest index as_text values) = true
is_of_kind (ReadAdc name) = is_analog name
is_of_kind (SetPwm name hz) = true
is_of_kind (Recv name) = true
is_of_kind (Send name) = true
is_of_kind (Persist name) = true
is_of_kind (Linear dest index points) = true
is_of_kind (Formatted name text) = true

abbrev pub is_timer_of : List ℕ → LeafKind → Bool
is_timer_of name k = option_map_or (λ t. bytes_eq name t.name) (timing_of k) false

-- the first timer with a name
abbrev pub first_timer : List ℕ → List element.Leaf → Option element.Leaf
first_timer name ls = find (λ l. is_timer_of name l.kind) ls

-- the earlier timer with an element's name, where the element is a timer
abbrev pub earlier_timer : LeafKind → List element.Leaf → Option element.Leaf
earlier_timer k before = option_and_then (λ t. first_timer t.name before) (timing_of k)

-- how many cycles a timer's delay has, both in microseconds
abbrev pub period : ℕ → ℕ → ℕ
period cycle delay = delay / cycle

abbrev pub is_short : ℕ → LeafKind → Bool
is_short cycle k = option_map_or (λ t. not (nat_eq cycle 0) && nat_eq (period cycle t.delay) 0) (timing_of k) false

abbrev pub is_long : ℕ → LeafKind → Bool
is_long cycle k = option_map_or (λ t. not (nat_eq cycle 0) && nat_lt LONGEST_PERIOD (period cycle t.delay)) (timing_of k) false

-- the hertz of the first SET_PWM
abbrev pub first_rate : List element.Leaf → Option ℕ
first_rate [] = None
first_rate (l ∷ ls) = option_or (rate_of l.kind) (first_rate ls)

-- whether both are rates, and not the same
abbrev pub are_apart : Option ℕ → Option ℕ → Bool
are_apart None other = false
are_apart (Some hz) None = false
are_apart (Some hz) (Some other) = not (nat_eq hz other)

-- The fault of an element in its place, where it breaks the rule.
abbrev pub fault_of : ElementRule → Project → Spot → Option ProjectFault
fault_of NotRightmost p s = then_some (ends_rung s.leaf.kind && not s.at_right_end) (fault.NotRightmost s.leaf.line)
fault_of WrongKind p s = then_some (not (is_of_kind s.leaf.kind)) (fault.WrongKind s.leaf.line)
fault_of TimerTwice p s = option_map (λ l. fault.TimerTwice s.leaf.line l.line) (earlier_timer s.leaf.kind s.before)
fault_of TimerShort p s = then_some (is_short p.cycle s.leaf.kind) (fault.TimerShort s.leaf.line)
fault_of TimerLong p s = then_some (is_long p.cycle s.leaf.kind) (fault.TimerLong s.leaf.line)
fault_of PwmTwoRates p s = then_some (are_apart (rate_of s.leaf.kind) (first_rate (all_leaves p.rungs))) (fault.PwmTwoRates s.leaf.line)
fault_of (OnChip r) p s = if is_chip p.target then chip_fault r p s.leaf else None
