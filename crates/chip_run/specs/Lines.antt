-- The lines of a run.
use Rattle.std.specs.Prelude.{ℕ, List, map}
use Rattle.ladder_tree.specs.declared.names.Names.{Names}
use Rattle.ladder_tree.specs.declared.project.Project.{Project}
use Rattle.ladder_trace.specs.Simulated.{lines_from}
use Rattle.chip_meaning.specs.Chip.{View}
use Rattle.chip_run.specs.Replay.{Replayed}
use Rattle.chip_run.specs.Shown.{shown_of}

-- a line for each cycle that is done, behind so many cycles
abbrev pub lines_of : {M : Type 0} → Project → Names → (M → View) → ℕ → Replayed M → List ℕ
lines_of p n view passed r = lines_from n passed (map (λ d. shown_of p n (view d.state) d.sent) r.cycles)
