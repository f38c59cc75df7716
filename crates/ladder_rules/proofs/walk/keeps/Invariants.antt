use Rattle.std.proofs.Common.{◌≡◌, ◌+◌, ◌^◌, ◌<◌, drop, length}
use Rattle.ladder_tree.specs.Leaves.{all_leaves}
use Rattle.ladder_rules.specs.Places.{all_placed}
use Rattle.ladder_rules.specs.Rules.{fault_of}
use Rattle.ladder_rules.specs.Walk.{walk}
use Rattle.ladder_rules.proofs.walk.keeps.Given as goal

abbrev pub invariant-loop-rung : goal.invariant-loop-rung
invariant-loop-rung l =
    let left = all_placed (drop l.rung-index l.rung-items) in
    record {
      few : l.passed + length left < 2 ^ 32;
      walk : walk (fault_of l.rule l.ladder.project.now) (all_leaves l.ladder.project.now.rungs) l.passed left ≡ walk (fault_of l.rule l.ladder.project.now)
          (all_leaves l.ladder.project.now.rungs) 0 (all_placed l.ladder.project.now.rungs);
    }
