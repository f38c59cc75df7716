use Rattle.std.proofs.Common.{◌≡◌, ◌+◌, Bool, ◌&&◌, nat_eq, drop, length, Ok}
use Rattle.std.proofs.lemmas.Result.{err_from_is_err_and}
use Rattle.ladder_tree.specs.Leaves.{all_leaves}
use Rattle.ladder_rules.specs.Places.{placed, placed_series, placed_parallel}
use Rattle.ladder_rules.specs.Rules.{fault_of}
use Rattle.ladder_rules.proofs.FrontLemmas.{and_so, and_not, series_front, parallel_front}
use Rattle.ladder_rules.proofs.WalkLemmas.{walk_step, room_step}
use Rattle.ladder_rules.proofs.walk.+walk.Goals as goal
use Rattle.ladder_rules.proofs.walk.+walk.Goals.{walk_series-then-at_right_end, walk_series-else-at_right_end}

pub walk_parallel-returns-in_err-k : goal.walk_parallel-returns-in_err-k
walk_parallel-returns-in_err-k t c =
    let p = err_from_is_err_and c.from_residual.result c.from_residual.ensures.1 in
    let ns = c.args.branches.now in let i = c.loop-branch.branch-index in let n = c.branch-item.result in let end = c.args.at_right_end in
    rw (p.1, p.2) (walk_step (fault_of c.args.rule c.args.ladder.now.project.now) (all_leaves c.args.ladder.now.project.now.rungs) c.loop-branch.k
    (placed n end) (placed_parallel (drop (i + 1) ns) end) (placed_parallel (drop i ns) end) _ _ (parallel_front ns i n end c.loop-branch-test.true
    c.branch-item.is) c.in_err-k.ensures c.loop-branch.invariant.walk)

pub walk_parallel-loop-branch-preserved : goal.walk_parallel-loop-branch-preserved
walk_parallel-loop-branch-preserved t c =
    let ns = c.args.branches.now in let i = c.loop-branch.branch-index in let n = c.branch-item.result in let end = c.args.at_right_end in
    let front = parallel_front ns i n end c.loop-branch-test.true c.branch-item.is in
    record {
      few = room_step (fault_of c.args.rule c.args.ladder.now.project.now) (all_leaves c.args.ladder.now.project.now.rungs) c.loop-branch.k c.in_ok-k.k
          (placed n end) (placed_parallel (drop (i + 1) ns) end) (placed_parallel (drop i ns) end) front c.in_ok-k.ensures c.loop-branch.invariant.few;
      walk = walk_step (fault_of c.args.rule c.args.ladder.now.project.now) (all_leaves c.args.ladder.now.project.now.rungs) c.loop-branch.k (placed n end)
          (placed_parallel (drop (i + 1) ns) end) (placed_parallel (drop i ns) end) (Ok c.in_ok-k.k) _ front c.in_ok-k.ensures c.loop-branch.invariant.walk;
    }

pub walk_series-returns-in_err-k : goal.walk_series-returns-in_err-k
walk_series-returns-in_err-k t c =
    let p = err_from_is_err_and c.from_residual.result c.from_residual.ensures.1 in
    let ns = c.args.nodes.now in let i = c.loop-i.i in let n = c.index-nodes-i.result in let end = c.args.at_right_end in
    let ends : Bool = end && nat_eq (i + 1) (length ns) in
    let same : c.if-at_right_end.walk_node ≡ ends = elim c.if-at_right_end.branch [
      | walk_series-then-at_right_end w ↦ and_so end _ _ w.if-at_right_end.true
          w.walk_node-is
      | walk_series-else-at_right_end w ↦ and_not end _ _ w.if-at_right_end.false w.walk_node-is
    ] in
    rw (p.1, p.2) (walk_step (fault_of c.args.rule c.args.ladder.now.project.now) (all_leaves c.args.ladder.now.project.now.rungs) c.loop-i.k (placed n ends)
    (placed_series (drop (i + 1) ns) end) (placed_series (drop i ns) end) _ _ (series_front ns i n end c.loop-i-test.true c.index-nodes-i.is)
    (rw same at c.in_err-k.ensures) c.loop-i.invariant.walk)

pub walk_series-loop-i-preserved : goal.walk_series-loop-i-preserved
walk_series-loop-i-preserved t c =
    let ns = c.args.nodes.now in let i = c.loop-i.i in let n = c.index-nodes-i.result in let end = c.args.at_right_end in
    let ends : Bool = end && nat_eq (i + 1) (length ns) in
    let same : c.if-at_right_end.walk_node ≡ ends = elim c.if-at_right_end.branch [
      | walk_series-then-at_right_end w ↦ and_so end _ _ w.if-at_right_end.true
          w.walk_node-is
      | walk_series-else-at_right_end w ↦ and_not end _ _ w.if-at_right_end.false w.walk_node-is
    ] in
    let front = series_front ns i n end c.loop-i-test.true c.index-nodes-i.is in
    record {
      few = room_step (fault_of c.args.rule c.args.ladder.now.project.now) (all_leaves c.args.ladder.now.project.now.rungs) c.loop-i.k c.in_ok-k.k
          (placed n ends) (placed_series (drop (i + 1) ns) end) (placed_series (drop i ns) end) front (rw same at c.in_ok-k.ensures) c.loop-i.invariant.few;
      walk = walk_step (fault_of c.args.rule c.args.ladder.now.project.now) (all_leaves c.args.ladder.now.project.now.rungs) c.loop-i.k (placed n ends)
          (placed_series (drop (i + 1) ns) end) (placed_series (drop i ns) end) (Ok c.in_ok-k.k) _ front (rw same at c.in_ok-k.ensures) c.loop-i.invariant.walk;
    }
