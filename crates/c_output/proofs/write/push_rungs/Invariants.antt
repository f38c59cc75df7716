use Rattle.std.proofs.Common.{◌≡◌, ◌+◌, ◌++◌, drop}
use Rattle.c_output.specs.Laid.{terms_of}
use Rattle.c_output.specs.Node.{rungs_text, memories_of}
use Rattle.c_output.proofs.write.push_rungs.Given as goal

abbrev pub invariant-loop-rung : goal.invariant-loop-rung
invariant-loop-rung l =
    let left = drop l.rung-index l.rungs in
    record {
      text : l.text.items ++ rungs_text (terms_of l.layout) left l.k ≡ l.fn.text.items ++ rungs_text (terms_of l.layout) l.rungs 0;
      count : l.k + memories_of (terms_of l.layout) left ≡ memories_of (terms_of l.layout) l.rungs;
    }
