use Rattle.std.specs.Prelude.{◌≡◌, length}
use Rattle.mem_plan.specs.Shown.{ShowsLevels}
use Rattle.mem_plan.proofs.pins.levels_of.Given as goal

abbrev pub invariant-loop-place : goal.invariant-loop-place
invariant-loop-place l = record {
  size : length l.levels ≡ 5;
  shown : ShowsLevels l.project l.names l.inputs l.place l.levels;
}
