-- The world outside.
use Rattle.std.specs.Prelude.{ℕ, List}
use Rattle.ld_base.specs.Bytes.{Held}
use Rattle.ld_base.specs.Counts.{Counts}
use Rattle.ld_base.specs.declared.files.Files as files
use Rattle.ld_base.specs.declared.files.Out as out

-- the files and the output at a moment: how often they failed, what the names hold, and what was written out
pub record World : Type 0 where
  pub counts : Counts
  pub held : Held
  pub faults : ℕ
  pub written : List ℕ

-- as the files and the output tell it
abbrev pub world : {F O : Type 0} → files.Ghosts F → out.Ghosts O → F → O → World
world F O files out = record { counts = F.counts files; held = F.held files; faults = O.fault_count out; written = O.written out }
