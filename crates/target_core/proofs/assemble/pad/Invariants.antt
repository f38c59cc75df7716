use Rattle.std.proofs.Common.{◌≡◌, ◌-◌, length, suc}
use Rattle.target_core.specs.Image.{padded}
use Rattle.target_core.proofs.assemble.pad.Given as goal

abbrev pub invariant-loop-labels : goal.invariant-loop-labels
invariant-loop-labels l = padded l.labels (suc l.place) ≡ padded l.initial.labels (suc l.place)

abbrev pub decreases-loop-labels : goal.decreases-loop-labels
decreases-loop-labels l = suc l.place - length l.labels
