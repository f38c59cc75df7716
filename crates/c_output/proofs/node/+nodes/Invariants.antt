use Rattle.std.proofs.Common.{◌≡◌, ◌+◌, ◌++◌, drop}
use Rattle.c_output.specs.Laid.{terms_of}
use Rattle.c_output.specs.Node.{series_of, branches_of}
use Rattle.c_output.proofs.node.+nodes.Given as goal

abbrev pub invariant-push_series-loop-node : goal.invariant-push_series-loop-node
invariant-push_series-loop-node l =
    let left = series_of (terms_of l.layout) (drop l.node-index l.nodes) in
    let all = series_of (terms_of l.layout) l.nodes in
    record {
      text : l.text.items ++ left.text l.depth l.k ≡ l.fn.text.items ++ all.text l.depth l.memory;
      count : l.k + left.memories ≡ l.memory + all.memories;
    }

abbrev pub invariant-push_branches-loop-node : goal.invariant-push_branches-loop-node
invariant-push_branches-loop-node l =
    let left = branches_of (terms_of l.layout) (drop l.node-index l.nodes) in
    let all = branches_of (terms_of l.layout) l.nodes in
    record {
      text : l.text.items ++ left.text l.depth l.k ≡ l.fn.text.items ++ all.text l.depth l.memory;
      count : l.k + left.memories ≡ l.memory + all.memories;
    }
