use Rattle.avr_devices.proofs.PortLemmas.{latch_read, direction_read, level_read}
use Rattle.avr_devices.proofs.laws.ports_are_read.Goals as goal

pub returns : goal.returns
returns c = record { latch = latch_read; direction = direction_read; level = level_read }
