use Rattle.std.proofs.Common.{◌≡◌, ℕ, ◌<◌, []}
use Rattle.std.specs.Prelude.{slice_index_or}
use Rattle.ldmicro_top.proofs.sources.same_list.Given as goal

abbrev pub invariant-loop-place : goal.invariant-loop-place
invariant-loop-place l = (k : ℕ) → k < l.place → slice_index_or l.a k [] ≡ slice_index_or l.b k []
