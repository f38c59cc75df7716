-- The verdict on a project: which rule it breaks, and where.
use Rattle.std.specs.Prelude.{nat_eq, ◌&&◌, ◌||◌, if◌then◌else◌, List, [], ◌∷◌, Option, None}
use Rattle.std.specs.Bool.{then_some}
use Rattle.std.specs.Option.{option_or, is_none}
use Rattle.chip_tables.specs.Settings.{timer_of}
use Rattle.ladder_tree.specs.declared.fault.ProjectFault.{ProjectFault}
use Rattle.ladder_tree.specs.declared.fault.ProjectFault.TheVariants as fault
use Rattle.ladder_tree.specs.declared.project.Project.{Project}
use Rattle.ladder_rules.specs.Pins.{is_chip, twice}
use Rattle.ladder_rules.specs.Places.{Spot, spots}
use Rattle.ladder_rules.specs.Rules.{fault_of}
use Rattle.ladder_rules.specs.declared.chip_rule.ChipRule.TheVariants.{NoAdc, NoPwm, PinUnassigned, NoSuchPin, PinTaken, BaudRange, PwmRange}
use Rattle.ladder_rules.specs.declared.rule.ElementRule.{ElementRule}
use Rattle.ladder_rules.specs.declared.rule.ElementRule.TheVariants.{NotRightmost, WrongKind, TimerTwice, TimerShort, TimerLong, PwmTwoRates, OnChip}

abbrev pub first_fault : (Spot → Option ProjectFault) → List Spot → Option ProjectFault
first_fault broken [] = None
first_fault broken (s ∷ ss) = option_or (broken s) (first_fault broken ss)

-- the fault of the first element in file order that breaks the rule
abbrev pub offence : Project → ElementRule → Option ProjectFault
offence p r = first_fault (fault_of r p) (spots p.rungs)

-- on a chip, the fault of the first element in file order whose pin an earlier name has
abbrev pub pin_twice : Project → Option ProjectFault
pin_twice p = if is_chip p.target then first_fault (twice p) (spots p.rungs) else None

-- There is a cycle time, and a chip's timer can make it. It belongs to no line.
abbrev pub cycle_range : Project → Option ProjectFault
cycle_range p = then_some (nat_eq p.cycle 0 || (is_chip p.target && is_none (timer_of p.target p.cycle p.crystal))) (fault.CycleRange 0)

abbrev pub first_of : List (Option ProjectFault) → Option ProjectFault
first_of [] = None
first_of (x ∷ xs) = option_or x (first_of xs)

-- The rules are tried in the order of their faults' numbers over the whole project, and the first that is broken is the
-- refusal.
abbrev pub rule : Project → Option ProjectFault
rule p = first_of (
    offence p NotRightmost
    ∷ offence p WrongKind
    ∷ offence p TimerTwice
    ∷ offence p TimerShort
    ∷ offence p TimerLong
    ∷ offence p (OnChip NoAdc)
    ∷ offence p (OnChip NoPwm)
    ∷ offence p PwmTwoRates
    ∷ offence p (OnChip PinUnassigned)
    ∷ pin_twice p
    ∷ offence p (OnChip NoSuchPin)
    ∷ offence p (OnChip PinTaken)
    ∷ cycle_range p
    ∷ offence p (OnChip BaudRange)
    ∷ offence p (OnChip PwmRange)
    ∷ [])
