-- When a run of a file shows what the ladder does.
use Rattle.std.specs.Prelude.{◌≡◌, ℕ, ◌*◌, ◌<◌, ◌≤◌, true, List, length, None}
use Rattle.chip_tables.specs.Memory.{eeprom_size}
use Rattle.chip_tables.specs.declared.target.Target.TheVariants.{Mega16}
use Rattle.ladder_tree.specs.Leaves.{all_leaves}
use Rattle.ladder_tree.specs.Names.{names_of}
use Rattle.ladder_tree.specs.declared.project.Project.{Project}
use Rattle.ladder_lower.specs.Fit.{all_fit}
use Rattle.ladder_rules.specs.Verdict.{rule}
use Rattle.ladder_trace.specs.Trace.{IsTraceOf}
use Rattle.ladder_trace.specs.declared.trace.Trace.{Trace}
use Rattle.ladder_trace.specs.Simulated.{simulated}
use Rattle.chip_run.specs.declared.end.RunEnd.{RunEnd}
use Rattle.chip_run.specs.declared.end.RunEnd.TheVariants as run
use Rattle.chip_run.specs.declared.end.TheConstants.{CYCLES_MOST}
use Rattle.intel_hex.specs.declared.image.Image.{Image}
use Rattle.avr_file.specs.Carries.{CarriesHex}
use Rattle.avr_file.specs.Replays.{ReplaysImage}

-- a project for the ATmega16 that keeps the rules, whose numbers have 16 bits, and whose persistent variables have room
pub record IsForAvr (p : Project) : Type 0 where
  pub target : p.target ≡ Mega16
  pub kept : rule p ≡ None
  pub fit : all_fit p.cycle (all_leaves p.rungs) ≡ true
  pub room : 2 * length (names_of p.rungs).persistent ≤ eeprom_size p.target

-- An image runs over a trace in one way at most.
abbrev pub RunsOnce : Type 0
RunsOnce =
    (p : Project) (image : Image) (t : Trace) (a b : List ℕ) (e f : RunEnd) → ReplaysImage p image t a e → ReplaysImage p image t b f → (a ≡ b) × (e ≡ f)

-- Of a project that is for the chip it runs in one at least, where the trace is read as one of its names.
abbrev pub RunsSomehow : Type 0
RunsSomehow =
    (p : Project) (image : Image) (t : Trace) → IsForAvr p → IsTraceOf (names_of p.rungs) t → (printed : List ℕ) × (end : RunEnd) × ReplaysImage p image t printed end

-- A file that carries a project, within fewer cycles than a run may take, prints the lines of the ladder, and its run takes every reading.
abbrev pub FileAgrees : Type 0
FileAgrees =
    (p : Project) (file : List ℕ) (cycles boot : ℕ) (t : Trace) → IsForAvr p → IsTraceOf (names_of p.rungs) t → cycles < CYCLES_MOST → boot < CYCLES_MOST →
    (h : CarriesHex p file cycles boot) (printed : List ℕ) (end : RunEnd) → ReplaysImage p h.image t printed end →
    (printed ≡ simulated p t) × (end ≡ run.Done)
