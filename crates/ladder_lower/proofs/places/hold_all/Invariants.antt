use Rattle.std.proofs.Common.{◌≡◌, map, take}
use Rattle.ladder_lower.proofs.places.hold_all.Given as goal

abbrev pub invariant-loop-name : goal.invariant-loop-name
invariant-loop-name l = map (λ k. k.now) l.set.keys ≡ take l.name-index l.names
