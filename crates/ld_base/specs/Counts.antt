-- Counts of faults, which never fall.
use Rattle.std.specs.Prelude.{◌≡◌, ℕ, ◌+◌, ◌-◌, ◌^◌, ◌≤◌, min, Result, IsErrOf}
use Rattle.ld_base.specs.declared.files.FileFault.{FileFault}
use Rattle.ld_base.specs.declared.files.FileFault.TheVariants as file
use Rattle.ld_base.specs.declared.files.OpenFault.{OpenFault}
use Rattle.ld_base.specs.declared.files.OpenFault.TheVariants as opening

-- one more, but never over the greatest u64
abbrev pub one_more : ℕ → ℕ
one_more n = min (n + 1) (2 ^ 64 - 1)

-- it is greater now, or stands at the greatest u64
abbrev pub Rose : ℕ → ℕ → Type 0
Rose before now = one_more before ≤ now

-- how often opening or reading failed, a name was absent, and writing failed
pub record Counts : Type 0 where
  pub reads : ℕ
  pub absences : ℕ
  pub writes : ℕ

pub record OpenCounts {T : Type 0} (old new : Counts) (result : Result T OpenFault) : Type 0 where
  pub reads : old.reads ≤ new.reads
  pub absences : old.absences ≤ new.absences
  pub writes : new.writes ≡ old.writes
  pub failed : IsErrOf result opening.Failed → Rose old.reads new.reads
  pub absent : IsErrOf result opening.Absent → Rose old.absences new.absences × (new.reads ≡ old.reads)

pub record ReadCounts {T : Type 0} (old new : Counts) (result : Result T FileFault) : Type 0 where
  pub reads : old.reads ≤ new.reads
  pub absences : new.absences ≡ old.absences
  pub writes : new.writes ≡ old.writes
  pub failed : IsErrOf result file.Failed → Rose old.reads new.reads

pub record WriteCounts {T : Type 0} (old new : Counts) (result : Result T FileFault) : Type 0 where
  pub reads : new.reads ≡ old.reads
  pub absences : new.absences ≡ old.absences
  pub writes : old.writes ≤ new.writes
  pub failed : IsErrOf result file.Failed → Rose old.writes new.writes

-- an answer Failed, or Absent, makes its own count one more, and each other answer leaves all three
abbrev pub read_failed : Counts → Counts
read_failed c = record c { reads = one_more c.reads }

abbrev pub absent : Counts → Counts
absent c = record c { absences = one_more c.absences }

abbrev pub write_failed : Counts → Counts
write_failed c = record c { writes = one_more c.writes }

-- the same for an output's one count
pub record OutCount {T : Type 0} (old new : ℕ) (result : Result T FileFault) : Type 0 where
  pub later : old ≤ new
  pub failed : IsErrOf result file.Failed → Rose old new
