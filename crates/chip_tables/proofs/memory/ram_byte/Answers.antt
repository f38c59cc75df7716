use Rattle.chip_tables.proofs.RamLemmas.{inside, alone}
use Rattle.chip_tables.proofs.memory.ram_byte.Goals as goal

pub returns-clause-in_ram : goal.returns-clause-in_ram
returns-clause-in_ram c = inside c.args.target c.args.index _ c.address_of.ensures.value

pub returns-clause-alone : goal.returns-clause-alone
returns-clause-alone c = alone c.args.target c.args.index _ c.address_of.ensures.value
