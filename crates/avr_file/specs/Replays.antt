-- What a HEX file does over a trace on the ATmega16.
use Rattle.std.specs.Prelude.{◌≡◌, ℕ, List, replicate, Some}
use Rattle.chip_tables.specs.declared.mega16.TheConstants.{SRAM_BYTES, IO_FIRST}
use Rattle.chip_tables.specs.declared.outside.PinReading.{PinReading}
use Rattle.chip_tables.specs.declared.settings.Settings.{Settings}
use Rattle.ladder_tree.specs.Names.{names_of}
use Rattle.ladder_tree.specs.declared.project.Project.{Project}
use Rattle.ladder_rules.specs.Settings.{settings_of}
use Rattle.ladder_trace.specs.Simulated.{readings}
use Rattle.ladder_trace.specs.declared.trace.Trace.{Trace}
use Rattle.intel_hex.specs.declared.image.Image.{Image}
use Rattle.avr_mach.specs.Reset.{reset_state}
use Rattle.avr_mach.specs.declared.state.AvrState.{AvrState}
use Rattle.chip_run.specs.AtPins.{ArePinsOf}
use Rattle.chip_run.specs.Lines.{lines_of}
use Rattle.chip_run.specs.Replay.{Replayed, replayed}
use Rattle.chip_run.specs.declared.end.RunEnd.{RunEnd}
use Rattle.avr_chip.specs.Machine.{avr_chip}

-- where a run begins: at reset, with the trace's EEPROM; RAM and registers are 0
abbrev pub fresh : Settings → Trace → AvrState
fresh settings trace = reset_state (replicate SRAM_BYTES 0) (replicate IO_FIRST 0) trace.eeprom settings

-- Over the trace's readings at the project's pins an image's words run so, with the devices set as the project has them.
pub record ReplaysImage (p : Project) (image : Image) (trace : Trace) (printed : List ℕ) (end : RunEnd) : Type 0 where
  pub settings : Settings
  pub set : settings_of p ≡ Some settings
  pub pins : List PinReading
  pub at_pins : ArePinsOf p (names_of p.rungs) (readings trace.steps) pins
  -- a line for each cycle that is finished
  pub lines : printed ≡ lines_of p (names_of p.rungs) avr_chip.view 0 (replayed avr_chip.step image.words (fresh settings trace) pins)
  pub ends : end ≡ (replayed avr_chip.step image.words (fresh settings trace) pins).end
