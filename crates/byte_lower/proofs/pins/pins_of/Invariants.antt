use Rattle.std.proofs.Common.{◌≡◌, ◌<◌, Some, map, take}
use Rattle.std.specs.Prelude.{All}
use Rattle.ladder_rules.specs.Assigned.{name_bit}
use Rattle.byte_lower.proofs.pins.pins_of.Given as goal

abbrev pub invariant-loop-place : goal.invariant-loop-place
invariant-loop-place l = record {
  pins : map Some l.pins ≡ map (name_bit l.project) (take l.place l.names);
  ports : All (λ b. (b.port < 5) × (b.bit < 8)) l.pins;
}
