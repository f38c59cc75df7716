use Rattle.avr_devices.proofs.PortLemmas.{latch_written, direction_written, level_written}
use Rattle.avr_devices.proofs.laws.ports_are_written.Goals as goal

pub returns : goal.returns
returns c = record { latch = latch_written; direction = direction_written; level = level_written }
