use Rattle.std.proofs.Common.{◌≡◌, ◌+◌, ◌≤◌, ◌++◌, drop}
use Rattle.ladder_lower.specs.NodeCode.{nodes_piece, others_of}
use Rattle.ladder_lower.proofs.node.+emit.Given as goal

abbrev pub invariant-emit_series-loop-node : goal.invariant-emit_series-loop-node
invariant-emit_series-loop-node l =
    let left = drop l.node-index l.nodes in
    record {
      code : l.ops ++ (nodes_piece l.layout left).code l.depth l.k ≡ l.fn.ops ++ (nodes_piece l.layout l.nodes).code l.depth l.memory;
      count : l.k + (nodes_piece l.layout left).memories ≡ l.memory + (nodes_piece l.layout l.nodes).memories;
    }

abbrev pub invariant-emit_others-loop-i : goal.invariant-emit_others-loop-i
invariant-emit_others-loop-i l =
    let left = drop l.i l.branches in
    record {
      within : 1 ≤ l.i;
      code : l.ops ++ (others_of l.layout left).code l.depth l.k ≡ l.fn.ops ++ (others_of l.layout (drop 1 l.branches)).code l.depth l.memory;
      count : l.k + (others_of l.layout left).memories ≡ l.memory + (others_of l.layout (drop 1 l.branches)).memories;
    }
