-- What the steps of a run leave.
use Rattle.std.specs.Prelude.{◌≡◌, ◌⊎◌, ℕ, ◌≤◌, Bool, true, false, List, ◌++◌}
use Rattle.ld_base.specs.Counts.{Counts, Rose}
use Rattle.ld_base.specs.Bytes.{Held, SameHeld, HoldsThen}
use Rattle.ld_base.specs.declared.files.FileFault.{FileFault}
use Rattle.ld_base.specs.declared.files.FileFault.TheVariants as file
use Rattle.ld_base.specs.declared.files.OpenFault.{OpenFault}
use Rattle.ld_base.specs.declared.files.OpenFault.TheVariants as opening
use Rattle.project_file.specs.declared.fault.SourceFault.{SourceFault}
use Rattle.project_file.specs.declared.fault.SourceFault.TheVariants as source
use Rattle.ldmicro_top.specs.declared.status.Status.{Status}
use Rattle.ldmicro_top.specs.declared.status.Status.TheVariants.{Ok, Refused, ReadFault, WriteFault, NoMemory}
use Rattle.ladder_trace.specs.Trace.{IsTraceOf}
use Rattle.trace_run.specs.Run.{IsProgramOf, sim_lines}
use Rattle.avr_file.specs.Run as avr
use Rattle.ldmicro_top.specs.declared.traced.TraceRun.{TraceRun}
use Rattle.ldmicro_top.specs.declared.traced.FileRun.{FileRun}
use Rattle.ldmicro_top.specs.declared.traced.FileRun.TheVariants.{Interp, Avr}
use Rattle.ldmicro_top.specs.Replays.{status_of_run}
use Rattle.ldmicro_top.specs.Expected.{is_fault, is_end}
use Rattle.ldmicro_top.specs.Ran.{IsFrontOf}

-- the line of the wanted status was written, or a front of it and the status says why
pub record Told (shown : Bool) (faults faults' : ℕ) (written written' line : List ℕ) (wanted status : Status) : Type 0 where
  pub cases : ((status ≡ wanted) × (shown ≡ true → written' ≡ written ++ line)) ⊎ (((status ≡ WriteFault) × Rose faults faults') ⊎ (status ≡ NoMemory))
  pub later : faults ≤ faults'
  pub part : shown ≡ true → (front : List ℕ) × (written' ≡ written ++ front) × IsFrontOf front line

-- a step that only reads: no count falls, and the names hold what they held
pub record OnlyReads (told : Bool) (old new : Counts) (held held' : Held) : Type 0 where
  pub reads : old.reads ≤ new.reads
  pub absences : old.absences ≤ new.absences
  pub writes : new.writes ≡ old.writes
  pub same : told ≡ true → SameHeld held held'

-- why a step ends the run: memory was wanting, a read failed, a name holds nothing, or what it holds has this answer
pub record Declined (told : Bool) (Answers : Status → Type 0) (old new : Counts) (status : Status) : Type 0 where
  pub why : (status ≡ NoMemory) ⊎ (((status ≡ ReadFault) × (Rose old.reads new.reads ⊎ (Rose old.absences new.absences × (told ≡ true → Answers ReadFault))))
      ⊎ ((is_fault status ≡ false) × (is_end status ≡ false) × (told ≡ true → Answers status)))

-- a run over a trace that can begin
pub record IsReady (r : TraceRun) : Type 0 where
  pub program : IsProgramOf r.legal.names r.sim.program
  pub given : IsTraceOf r.legal.names r.trace

-- the lines that a run over a trace writes
abbrev pub lines_of_run : TraceRun → List ℕ
lines_of_run r = sim_lines r.duty r.legal.names r.sim r.trace

-- the lines that the run of a file writes, and how it ends
abbrev pub lines_of_file : FileRun → List ℕ
lines_of_file (Interp r) = lines_of_run r
lines_of_file (Avr r) = avr.lines_of_run r

abbrev pub end_of_file : FileRun → Status
end_of_file (Interp r) = Ok
end_of_file (Avr r) = status_of_run (avr.end_of_run r)

-- one that can begin
abbrev pub IsFileReady : FileRun → Type 0
IsFileReady (Interp r) = IsReady r
IsFileReady (Avr r) = avr.CanRun r

-- why bytes were not written
pub record Unwritten (told : Bool) (dest code : List ℕ) (old new : ℕ) (held held' : Held) (status : Status) : Type 0 where
  pub why : ((status ≡ WriteFault) × Rose old new) ⊎ (status ≡ NoMemory)
  pub part : told ≡ true → SameHeld held held' ⊎ ((front : List ℕ) × IsFrontOf front code × HoldsThen held held' dest front)

-- the status of a file that could not be read
abbrev pub unread : OpenFault → Status
unread (opening.Memory e) = NoMemory
unread _ = ReadFault

-- the status of a source that gives no project
abbrev pub status_of_source : SourceFault → Status
status_of_source source.Absent = ReadFault
status_of_source source.Failed = ReadFault
status_of_source (source.Memory e) = NoMemory
status_of_source (source.Refused fault) = Refused fault

abbrev pub status_of : FileFault → Status
status_of file.Failed = WriteFault
status_of (file.Memory e) = NoMemory
