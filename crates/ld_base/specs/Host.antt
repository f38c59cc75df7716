-- The files and the standard output of the system: what is open, and the counts of faults.
use Rattle.std.specs.Prelude.{ℕ, Bool, is_some}
use Rattle.ld_base.specs.declared.host.HostFiles.{HostFiles}
use Rattle.ld_base.specs.declared.host.HostOut.{HostOut}
use Rattle.ld_base.specs.Counts.{Counts}

abbrev pub is_host_open : {Runtime File Dir : Type 0} → HostFiles Runtime File Dir → Bool
is_host_open files = is_some files.source

abbrev pub is_host_writing : {Runtime File Dir : Type 0} → HostFiles Runtime File Dir → Bool
is_host_writing files = is_some files.target

abbrev pub host_counts : {Runtime File Dir : Type 0} → HostFiles Runtime File Dir → Counts
host_counts files = record { reads = files.reads; absences = files.absences; writes = files.writes }

abbrev pub host_faults : {Runtime : Type 0} → HostOut Runtime → ℕ
host_faults out = out.faults
