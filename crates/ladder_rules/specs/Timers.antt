-- The quick look at the names of timers. It is no part of the rules: where it finds no name twice, there is none.
use Rattle.std.specs.Prelude.{ℕ, ◌+◌, ◌-◌, ◌*◌, ◌%◌, ◌^◌, min, Bool, true, false, not, ◌&&◌, cond, List, [], ◌∷◌, take, set, slice_index_or, Option, is_some}
use Rattle.std.specs.Bool.{then_some}
use Rattle.std.specs.Option.{option_map_or}
use Rattle.ladder_tree.specs.Leaves.{all_leaves}
use Rattle.ladder_tree.specs.declared.element.Leaf as element
use Rattle.ladder_tree.specs.declared.element.LeafKind.{LeafKind}
use Rattle.ladder_rules.specs.Timing.{timing_of}
use Rattle.ladder_rules.specs.Rules.{first_timer}
use Rattle.ladder_rules.specs.declared.limits.TheConstants.{MARKS, MARK_FACTOR}
use Rattle.ladder_rules.specs.declared.timers.TimersMet.{TimersMet}

abbrev pub mark_from : ℕ → List ℕ → ℕ
mark_from mark [] = mark
mark_from mark (b ∷ bs) = mark_from ((mark * MARK_FACTOR + b) % MARKS) bs

-- a name's mark
abbrev pub mark_of : List ℕ → ℕ
mark_of name = mark_from 0 name

-- Whether no earlier timer has a timer's name, with the marks as they are then. A mark that is not set says so.
abbrev pub admitted_name : List element.Leaf → ℕ → List Bool → List ℕ → Bool × List Bool
admitted_name all k marks name =
    cond (slice_index_or marks (mark_of name) false && is_some (first_timer name (take k all))) (false, marks) (true, set marks (mark_of name) true)

-- the same of an element; what is no timer is admitted
abbrev pub admitted : List element.Leaf → ℕ → List Bool → LeafKind → Bool × List Bool
admitted all k marks kind = option_map_or (λ t. admitted_name all k marks t.name) (timing_of kind) (true, marks)

abbrev pub admission : TimersMet → element.Leaf → Bool × List Bool
admission v l = admitted (all_leaves v.rungs.now) v.passed v.marks l.kind

-- it stops at an element that is not admitted
abbrev pub looks : TimersMet → element.Leaf → Option (Unit {0}) × TimersMet
looks v l = (then_some (not (admission v l).0) tt, record v { passed = min (v.passed + 1) (2 ^ 32 - 1); marks = (admission v l).1 })
