use Rattle.std.proofs.Common.{◌≡◌, ◌++◌, take, map}
use Rattle.interp_code.proofs.read.copy_names.Given as goal

abbrev pub invariant-loop-name : goal.invariant-loop-name
invariant-loop-name l = l.list ≡ l.fn.list ++ map (λ k. k.now) (take l.name-index l.name-items)
