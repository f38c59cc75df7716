use Rattle.std.proofs.Common.{◌≡◌, ◌+◌, ◌^◌, ◌<◌, drop, length}
use Rattle.ladder_tree.specs.Leaves.{all_leaves}
use Rattle.ladder_rules.specs.Places.{placed_series, placed_parallel}
use Rattle.ladder_rules.specs.Rules.{fault_of}
use Rattle.ladder_rules.specs.Walk.{walk}
use Rattle.ladder_rules.proofs.walk.+walk.Given as goal

abbrev pub invariant-walk_series-loop-i : goal.invariant-walk_series-loop-i
invariant-walk_series-loop-i l =
    let left = placed_series (drop l.i l.nodes) l.at_right_end in
    record {
      few : l.k + length left < 2 ^ 32;
      walk : walk (fault_of l.rule l.ladder.project.now) (all_leaves l.ladder.project.now.rungs) l.k left ≡ walk (fault_of l.rule l.ladder.project.now)
          (all_leaves l.ladder.project.now.rungs) l.passed (placed_series l.nodes l.at_right_end);
    }

abbrev pub invariant-walk_parallel-loop-branch : goal.invariant-walk_parallel-loop-branch
invariant-walk_parallel-loop-branch l =
    let left = placed_parallel (drop l.branch-index l.branches) l.at_right_end in
    record {
      few : l.k + length left < 2 ^ 32;
      walk : walk (fault_of l.rule l.ladder.project.now) (all_leaves l.ladder.project.now.rungs) l.k left ≡ walk (fault_of l.rule l.ladder.project.now)
          (all_leaves l.ladder.project.now.rungs) l.passed (placed_parallel l.branches l.at_right_end);
    }
