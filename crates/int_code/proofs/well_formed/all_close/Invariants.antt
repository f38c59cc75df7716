use Rattle.std.proofs.Common.{◌≡◌, drop}
use Rattle.int_code.specs.Closes.{all_close}
use Rattle.int_code.proofs.well_formed.all_close.Given as goal

abbrev pub invariant-loop-k : goal.invariant-loop-k
invariant-loop-k l = all_close (drop l.k l.ops) ≡ all_close l.ops
