use Rattle.std.proofs.Common.{◌≡◌, ◌+◌, ◌++◌, drop}
use Rattle.ladder_lower.specs.NodeCode.{rungs_code, memories_of}
use Rattle.ladder_lower.proofs.program.emit_rungs.Given as goal

abbrev pub invariant-loop-rung : goal.invariant-loop-rung
invariant-loop-rung l =
    let left = drop l.rung-index l.rungs in
    record {
      code : l.ops ++ rungs_code l.layout left l.k ≡ l.fn.ops ++ rungs_code l.layout l.rungs 0;
      count : l.k + memories_of l.layout left ≡ memories_of l.layout l.rungs;
    }
