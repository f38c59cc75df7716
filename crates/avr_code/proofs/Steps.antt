-- One step that asks for nothing.
use Rattle.std.proofs.Common.{◌≡◌, ℕ, ◌+◌, ◌<◌, Bool, false, List, [], Option, Some, None, ap, ◌∙◌}
use Rattle.std.proofs.lemmas.Bool.{lt-ltb}
use Rattle.std.specs.Prelude.{if◌then◌else◌}
use Rattle.chip_tables.specs.Outside.{no_reading}
use Rattle.chip_tables.specs.Step.{Stepped}
use Rattle.chip_tables.specs.declared.outside.Env.{Env}
use Rattle.chip_tables.specs.declared.outside.PinReading.{PinReading}
use Rattle.chip_tables.specs.declared.outside.Poll.TheVariants.{NoPoll}
use Rattle.chip_tables.specs.declared.outside.StuckCause.TheVariants.{PastFlash}
use Rattle.runs.specs.Chip.{steps_over, went_to}
use Rattle.runs.specs.Run.{Went, ask_of}
use Rattle.runs.specs.declared.ask.Ask.TheVariants as ask
use Rattle.avr_devices.specs.Part.{mega16}
use Rattle.avr_mach.specs.declared.insn.AvrInsn.{AvrInsn}
use Rattle.avr_mach.specs.declared.state.AvrState.{AvrState}
use Rattle.avr_mach.specs.Asks.{insn_ask, unless_stuck_ask, ask_by}
use Rattle.avr_mach.specs.Control.{obstacle}
use Rattle.avr_mach.specs.Exec.{exec}
use Rattle.avr_mach.specs.State.{After}
use Rattle.avr_mach.specs.Step.{insn_at, settled, stuck, unless_stuck, step_by, avr_step}
use Rattle.avr_mach.specs.Words.{size_of}
use Rattle.avr_mach.proofs.AskLemmas.{asks_is}

abbrev pub env_of : Bool → PinReading → Env
env_of ready r = record { ready = ready; reading = r }

abbrev pub gone : Stepped AvrState → Option (Went AvrState)
gone s = went_to s.state s.end

abbrev pub settled_by : List ℕ → ℕ → After → Option (Went AvrState)
settled_by flash next a = gone (settled mega16 flash next a.state a.acted.flow a.acted)

-- the step of the instruction that stands at the machine's place
pub step_is : (flash : List ℕ) (m : AvrState) (i : AvrInsn) (ready : Bool) (r : PinReading) → m.place < 8192 → insn_at mega16 flash m.place ≡ Some i →
    obstacle mega16 i m ≡ None → steps_over (avr_step mega16) flash m ready r ≡ settled_by flash (m.place + size_of i) (exec mega16 (env_of ready r) i
    m.place m)
step_is flash m i ready r low stands free =
    ap (λ b. gone (if b then step_by mega16 flash (env_of ready r) m (insn_at mega16 flash m.place) else stuck mega16 flash m PastFlash)) (lt-ltb m.place
    8192 low)
    ∙ ap (λ o. gone (step_by mega16 flash (env_of ready r) m o)) stands
    ∙ ap (λ o. gone (unless_stuck mega16 flash (env_of ready r) m i o)) free

-- what it asks for
pub ask_is : (flash : List ℕ) (m : AvrState) (i : AvrInsn) → m.place < 8192 → insn_at mega16 flash m.place ≡ Some i → obstacle mega16 i m ≡ None →
    ask_of (steps_over (avr_step mega16) flash) m ≡ insn_ask i m.devices
ask_is flash m i low stands free =
    asks_is flash m
    ∙ ap (λ b. if b then ask_by m (insn_at mega16 flash m.place) else ask.Nothing) (lt-ltb m.place 8192 low)
    ∙ ap (ask_by m) stands
    ∙ ap (unless_stuck_ask i m) free

-- a step that asks nobody and sends nothing
pub record Steps (flash : List ℕ) (m next : AvrState) (cycles : ℕ) : Type 0 where
  pub asks : ask_of (steps_over (avr_step mega16) flash) m ≡ ask.Nothing
  pub is : steps_over (avr_step mega16) flash m false no_reading ≡ Some (record { next = next; cycles = cycles; poll = NoPoll; sent = [] })
