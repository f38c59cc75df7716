use Rattle.std.proofs.Common.{◌≡◌, ◌+◌, ◌-◌, not}
use Rattle.std.specs.List.{range_with_len, list_any}
use Rattle.intel_hex.specs.Areas.{is_in_area}
use Rattle.intel_hex.proofs.loaded.is_outside.Given as goal

abbrev pub invariant-loop-address : goal.invariant-loop-address
invariant-loop-address l =
    list_any (λ a. not (is_in_area l.target a)) (range_with_len l.address (l.first + l.count - l.address))
    ≡ list_any (λ a. not (is_in_area l.target a)) (range_with_len l.first l.count)
