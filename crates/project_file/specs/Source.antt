-- What reading a project from a file answers.
use Rattle.std.specs.Prelude.{◌≡◌, ◌≤◌, Result, Ok, Err, IsErrOf, ⊤}
use Rattle.ld_base.specs.Counts.{Counts, Rose}
use Rattle.ld_base.specs.declared.files.FileFault.{FileFault}
use Rattle.ld_base.specs.declared.files.FileFault.TheVariants as file
use Rattle.ld_base.specs.declared.files.OpenFault.{OpenFault}
use Rattle.ld_base.specs.declared.files.OpenFault.TheVariants as opening
use Rattle.ladder_tree.specs.declared.fault.ProjectFault.{ProjectFault}
use Rattle.ld_text.specs.declared.fault.TextError.{TextError}
use Rattle.ld_text.specs.declared.fault.TextError.TheVariants as error
use Rattle.project_file.specs.declared.fault.SourceFault.{SourceFault}
use Rattle.project_file.specs.declared.fault.SourceFault.TheVariants as source

-- no count falls, a failure has raised that of reads and an absent name that of absences, and nothing was written
pub record SourceCounts {T : Type 0} (old new : Counts) (result : Result T SourceFault) : Type 0 where
  pub reads : old.reads ≤ new.reads
  pub absences : old.absences ≤ new.absences
  pub writes : new.writes ≡ old.writes
  pub failed : IsErrOf result source.Failed → Rose old.reads new.reads
  pub absent : IsErrOf result source.Absent → Rose old.absences new.absences × (new.reads ≡ old.reads)

-- what holds of the fault of a text that is refused
abbrev pub IfRefused : {T : Type 0} → Result T SourceFault → (ProjectFault → Type 0) → Type 0
IfRefused (Err (source.Refused fault)) P = P fault
IfRefused (Err source.Absent) P = ⊤
IfRefused (Err source.Failed) P = ⊤
IfRefused (Err (source.Memory e)) P = ⊤
IfRefused (Ok value) P = ⊤

abbrev pub unopened : OpenFault → SourceFault
unopened opening.Absent = source.Absent
unopened opening.Failed = source.Failed
unopened (opening.Memory e) = source.Memory e

abbrev pub unread : FileFault → SourceFault
unread file.Failed = source.Failed
unread (file.Memory e) = source.Memory e

abbrev pub judged_so : TextError → SourceFault
judged_so (error.Refused fault) = source.Refused fault
judged_so (error.Memory e) = source.Memory e
