use Rattle.std.proofs.Common.{◌≡◌, ◌++◌}
use Rattle.ladder_tree.specs.Names.{numbered_names}
use Rattle.ladder_tree.proofs.names.push_numbered.Given as goal

abbrev pub invariant-loop-place : goal.invariant-loop-place
invariant-loop-place l = l.names ≡ l.fn.names ++ numbered_names l.name l.place
