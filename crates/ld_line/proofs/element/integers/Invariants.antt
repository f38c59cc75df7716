use Rattle.std.proofs.Common.{◌≡◌, map, drop}
use Rattle.ld_line.specs.Elements.{integers}
use Rattle.ld_line.proofs.ElementLemmas.{after}
use Rattle.ld_line.proofs.element.integers.Given as goal

abbrev pub invariant-loop-token : goal.invariant-loop-token
invariant-loop-token l = after l.is_outside l.values (integers (map (λ t. t.now) (drop l.token-index l.tokens))) ≡ integers (map (λ t. t.now) l.tokens)
