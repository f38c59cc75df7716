-- Stores to data memory: AVR Instruction Set Manual, the operation of each instruction.
use Rattle.std.specs.Prelude.{ℕ, ◌+◌, ◌%◌}
use Rattle.chip_tables.specs.declared.outside.Poll.TheVariants.{NoPoll}
use Rattle.avr_mach.specs.declared.state.AvrState.{AvrState}
use Rattle.avr_mach.specs.declared.state.Flow.TheVariants.{Next}
use Rattle.avr_devices.specs.Part.{AvrPart}
use Rattle.avr_mach.specs.Memory.{data_written, sent_at}
use Rattle.avr_mach.specs.State.{After, act, pointer, with_pointer}

-- a byte goes to data memory in two cycles
abbrev pub stored_at : AvrPart → AvrState → ℕ → ℕ → After
stored_at part m address x =
    record { state = data_written part m address x 2; acted = act Next 2 NoPoll (sent_at part m address x) }

-- X goes on by 1 from where it stood, also where the store changed it
abbrev pub stored_at_x : AvrPart → AvrState → ℕ → After
stored_at_x part m x =
    let to = stored_at part m (pointer m 26) x in
    record { state = with_pointer to.state 26 ((pointer m 26 + 1) % 65536); acted = to.acted }
