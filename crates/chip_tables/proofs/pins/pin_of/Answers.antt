use Rattle.chip_tables.proofs.PinLemmas.{in_ports, alone}
use Rattle.chip_tables.proofs.pins.pin_of.Goals as goal

pub returns-clause-in_ports : goal.returns-clause-in_ports
returns-clause-in_ports c = in_ports c.args.target c.args.pin _ c.bit_of_pin.ensures

pub returns-clause-alone : goal.returns-clause-alone
returns-clause-alone c = alone c.args.target c.args.pin _ c.bit_of_pin.ensures
