-- What a run answers and leaves.
use Rattle.std.specs.Prelude.{◌≡◌, ◌⊎◌, ℕ, ◌≤◌, Bool, true, false, List, [], ◌++◌, Some, None}
use Rattle.ld_base.specs.Counts.{Rose}
use Rattle.ld_base.specs.Bytes.{Held, SameHeld, HoldsThen}
use Rattle.ladder_tree.specs.declared.project.Project.{Project}
use Rattle.ladder_tree.specs.Names.{names_of}
use Rattle.ladder_rules.specs.Needs.{cycle_cap, boot_cap}
use Rattle.ladder_trace.specs.Simulated.{simulated}
use Rattle.ladder_trace.specs.declared.trace.Trace.{Trace}
use Rattle.ldmicro_top.specs.Replays.{Replays}
use Rattle.ldmicro_top.specs.Sources.{HoldsProject, HoldsTrace}
use Rattle.ldmicro_top.specs.declared.status.Status.{Status}
use Rattle.ldmicro_top.specs.declared.status.Status.TheVariants.{Ok, ReadFault, WriteFault, NoMemory}
use Rattle.ldmicro_top.specs.Carries.{Carries}
use Rattle.ldmicro_top.specs.Command.{Command, Compile, Simulate, Replay, Other}
use Rattle.ldmicro_top.specs.Expected.{Expected, is_fault, is_cut, is_end}
use Rattle.ldmicro_top.specs.Report.{Reports}
use Rattle.ldmicro_top.specs.StatusLine.{line_of}
use Rattle.ldmicro_top.specs.Verdict.{code_fault}
use Rattle.ldmicro_top.specs.World.{World}

abbrev pub IsFrontOf : List ℕ → List ℕ → Type 0
IsFrontOf front text = (rest : List ℕ) × (text ≡ front ++ rest)

-- these bytes carry the project, and this is their report
pub record IsEmitted (project : Project) (code printed : List ℕ) : Type 0 where
  -- the most cycles that pass in a cycle of the ladder, and before the first: of a chip instruction cycles, and of the interpreter operations
  pub cycles : ℕ
  pub boot : ℕ
  pub carries : Carries project code cycles boot
  -- the chip has room for what the project may need
  pub room : code_fault project ≡ None
  pub cycles_few : cycles ≤ cycle_cap project
  pub boot_few : boot ≤ boot_cap project
  pub report : Reports project code cycles boot printed

-- the source's project and bytes that carry it, and their report
pub record IsCompiled (name : List ℕ) (held : Held) (code printed : List ℕ) : Type 0 where
  pub project : Project
  pub source : HoldsProject held name project
  pub emitted : IsEmitted project code printed

-- a line for each cycle of the trace, as the source's ladder means it
pub record IsSimulated (name trace : List ℕ) (held : Held) (printed : List ℕ) : Type 0 where
  pub project : Project
  pub source : HoldsProject held name project
  pub steps : Trace
  pub given : HoldsTrace held trace (names_of project.rungs) steps
  pub lines : printed ≡ simulated project steps

-- a line for each finished cycle of the trace, as the project's target runs the file, and how the run ends
pub record ReplaysHeld (held : Held) (file trace : List ℕ) (p : Project) (printed : List ℕ) (ending : Status) : Type 0 where
  pub code : List ℕ
  pub read : held file ≡ Some code
  pub steps : Trace
  pub given : HoldsTrace held trace (names_of p.rungs) steps
  pub runs : Replays p code steps printed ending

-- that of the source's project
pub record IsReplayed (name file trace : List ℕ) (held : Held) (printed : List ℕ) (ending : Status) : Type 0 where
  pub project : Project
  pub source : HoldsProject held name project
  pub runs : ReplaysHeld held file trace project printed ending

-- what a command writes to its destination, where it has one, what it prints, and how it ends
abbrev pub Makes : Command → Held → List ℕ → List ℕ → Status → Type 0
Makes (Compile source dest) held code printed ending = IsCompiled source held code printed × (ending ≡ Ok)
Makes (Simulate source trace) held code printed ending = IsSimulated source trace held printed × (ending ≡ Ok)
Makes (Replay source file trace) held code printed ending = IsReplayed source file trace held printed ending
Makes Other held code printed ending = ⊥

-- the destination holds these bytes, and each other name what it held
abbrev pub DestHolds : Command → Held → Held → List ℕ → Type 0
DestHolds (Compile source dest) old new bytes = HoldsThen old new dest bytes
DestHolds _ old new bytes = SameHeld old new

-- the words are those of a command that reads files
abbrev pub ReadsFiles : Command → Type 0
ReadsFiles Other = ⊥
ReadsFiles _ = Unit {0}

-- and of one that writes a file
abbrev pub WritesFile : Command → Type 0
WritesFile (Compile source dest) = Unit {0}
WritesFile _ = ⊥

-- a text that is printed where nothing fails: an answer's line, or what is made and then the line of the end, which is empty for Ok
abbrev pub Prints : Command → Held → List ℕ → Type 0
Prints command held text =
    ((answer : Status) × Expected command held answer × (is_end answer ≡ false) × (text ≡ line_of answer))
    ⊎ ((ending : Status) × Expected command held ending × (code : List ℕ) × (printed : List ℕ) × Makes command held code printed ending
    × (text ≡ printed ++ line_of ending))

-- a read failed, or a name was absent where that is expected
abbrev pub ReadCause : Bool → Command → World → World → Type 0
ReadCause told command old new = ReadsFiles command
    × (Rose old.counts.reads new.counts.reads ⊎ (Rose old.counts.absences new.counts.absences × (told ≡ true → Expected command old.held ReadFault)))

-- writing out failed, or writing to the destination where Ok is expected
abbrev pub WriteCause : Bool → Command → World → World → Type 0
WriteCause told command old new = Rose old.faults new.faults
    ⊎ (Rose old.counts.writes new.counts.writes × WritesFile command × (told ≡ true → Expected command old.held Ok))

-- What was asked for was made: the destination holds bytes that carry the source's project and their report was written out, or the lines
-- of a run were. The line of the end stands behind them.
abbrev pub IsDone : Bool → Command → World → World → Status → Type 0
IsDone shown command old new ending = (code : List ℕ) × (printed : List ℕ) × Makes command old.held code printed ending
    × DestHolds command old.held new.held code × (shown ≡ true → new.written ≡ old.written ++ (printed ++ line_of ending))

-- a front of a text that is printed, or of the line of a read fault where a read failed
abbrev pub IsFrontPrinted : Command → World → World → List ℕ → Type 0
IsFrontPrinted command old new front = (front ≡ [])
    ⊎ (((text : List ℕ) × Prints command old.held text × IsFrontOf front text)
    ⊎ (Rose old.counts.reads new.counts.reads × IsFrontOf front (line_of ReadFault)))

-- the names hold what they held, or the destination a front of bytes to which the source may be compiled
abbrev pub IsFrontHeld : Command → World → World → Type 0
IsFrontHeld command old new = SameHeld old.held new.held
    ⊎ (Expected command old.held Ok × (code : List ℕ) × (printed : List ℕ) × Makes command old.held code printed Ok
    × (front : List ℕ) × IsFrontOf front code × DestHolds command old.held new.held front)

-- Told says whether the files tell what they hold, and shown whether the output tells what was written.
pub record Ran (told shown : Bool) (command : Command) (old new : World) (status : Status) : Type 0 where
  -- an answer that is no fault is the expected one
  pub answer : told ≡ true → is_fault status ≡ false → Expected command old.held status
  -- a fault has its cause
  pub read_fault : status ≡ ReadFault → ReadCause told command old new
  pub write_fault : status ≡ WriteFault → WriteCause told command old new
  -- after Ok, and after each other end, what was asked for is made
  pub done : told ≡ true → is_end status ≡ true → IsDone shown command old new status
  -- after any other answer but those that cut, the answer's line was written out, and each name holds what it held
  pub text : shown ≡ true → is_cut status ≡ false → is_end status ≡ false → new.written ≡ old.written ++ line_of status
  pub same : told ≡ true → is_cut status ≡ false → is_end status ≡ false → SameHeld old.held new.held
  -- after a write fault or want of memory fronts were written, out and to the destination
  pub cut_text : told ≡ true → shown ≡ true → is_cut status ≡ true →
      (front : List ℕ) × (new.written ≡ old.written ++ front) × IsFrontPrinted command old new front
  pub cut_files : told ≡ true → is_cut status ≡ true → IsFrontHeld command old new
  -- no count falls
  pub reads : old.counts.reads ≤ new.counts.reads
  pub absences : old.counts.absences ≤ new.counts.absences
  pub writes : old.counts.writes ≤ new.counts.writes
  pub faults : old.faults ≤ new.faults

-- where nothing failed, the answer is the expected one, or memory was wanting
abbrev pub IsComplete : Bool → Command → World → World → Status → Type 0
IsComplete told command old new status = told ≡ true → (Rose old.counts.reads new.counts.reads → ⊥) → (Rose old.counts.writes new.counts.writes → ⊥)
    → (Rose old.faults new.faults → ⊥) → Expected command old.held status ⊎ (status ≡ NoMemory)
