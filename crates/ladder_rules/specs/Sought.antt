-- What the visitor that looks for a timer does at an element, and the one that counts off-delay timers.
use Rattle.std.specs.Prelude.{ℕ, ◌+◌, ◌-◌, ◌^◌, min, nat_eq, Bool, if◌then◌else◌, List, [], ◌∷◌, Option, Some, None}
use Rattle.std.specs.Bool.{then_some}
use Rattle.std.specs.Option.{option_or}
use Rattle.ladder_tree.specs.declared.element.Leaf as element
use Rattle.ladder_rules.specs.Needs.{is_tof}
use Rattle.ladder_rules.specs.Rules.{is_timer_of}
use Rattle.ladder_rules.specs.declared.search.TimerSought.{TimerSought}
use Rattle.ladder_rules.specs.declared.survey.TofsCounted.{TofsCounted}

-- it stops with nothing behind so many elements, and with the line of a timer with the name
abbrev pub seeks_timer : TimerSought → element.Leaf → Option (Option ℕ) × TimerSought
seeks_timer v l =
    if nat_eq v.left 0 then (Some None, v)
    else (then_some (is_timer_of v.name.now l.kind) (Some l.line), record v { left = v.left - 1 })

-- it counts off-delay timers, as far as 32 bits count
abbrev pub counts_tofs : TofsCounted → element.Leaf → Option (Unit {0}) × TofsCounted
counts_tofs v l = (None, record v { count = if is_tof l.kind then min (v.count + 1) (2 ^ 32 - 1) else v.count })
