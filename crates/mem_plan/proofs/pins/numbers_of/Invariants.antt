use Rattle.std.specs.Prelude.{◌≡◌, ◌≤◌, length, All}
use Rattle.mem_plan.specs.Shown.{ShowsNumbers}
use Rattle.ladder_tree.specs.declared.limits.TheConstants.{ANALOG_NUMBER}
use Rattle.mem_plan.proofs.pins.numbers_of.Given as goal

abbrev pub invariant-loop-place : goal.invariant-loop-place
invariant-loop-place l = record {
  size : length l.adc ≡ 8;
  shown : ShowsNumbers l.project l.names l.numbers l.place l.adc;
  converted : All (λ n. n ≤ ANALOG_NUMBER) l.adc;
}
