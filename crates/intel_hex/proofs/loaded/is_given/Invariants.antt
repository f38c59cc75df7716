use Rattle.std.proofs.Common.{◌≡◌, ◌+◌, ◌-◌, is_some}
use Rattle.std.specs.List.{range_with_len, list_any}
use Rattle.intel_hex.specs.Loaded.{held}
use Rattle.intel_hex.proofs.loaded.is_given.Given as goal

abbrev pub invariant-loop-address : goal.invariant-loop-address
invariant-loop-address l =
    list_any (λ a. is_some (held l.bytes a)) (range_with_len l.address (l.first + l.count - l.address))
    ≡ list_any (λ a. is_some (held l.bytes a)) (range_with_len l.first l.count)
